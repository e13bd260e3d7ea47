use Rattle.std.proofs.Common.{◌≡◌, ◌+◌, ◌≤◌, ℕ, length}
use Rattle.std.specs.List.{range_with_len}
use Rattle.sx_peel.specs.UnderWay.{IsLinked}
use Rattle.sx_peel.proofs.peeling.linked.Given as goal

abbrev pub invariant-loop-number : goal.invariant-loop-number
invariant-loop-number l = record {
  within : l.number ≤ length l.edges;
  size : length l.links.lists ≡ l.bound;
  items : l.links.items ≡ length l.edges;
  hooks : l.links.hooks ≡ 3;
  linked : (n : ℕ) → l.number + n ≡ length l.edges → IsLinked l.edges (range_with_len l.number n) l.links;
}

abbrev pub decreases-loop-number : goal.decreases-loop-number
decreases-loop-number l = l.number

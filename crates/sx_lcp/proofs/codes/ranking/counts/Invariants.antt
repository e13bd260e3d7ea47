use Rattle.std.proofs.Common.{◌≡◌, ◌≢◌, ◌+◌, ◌==◌, if◌then◌else◌, ℕ, nat_eq, unwrap_or, take, Some}
use Rattle.std.specs.HashMap.{get}
use Rattle.sx_spec_kinds.specs.TwoStep.{frequency}
use Rattle.sx_lcp.proofs.codes.ranking.counts.Given as goal

abbrev pub invariant-loop-value : goal.invariant-loop-value
invariant-loop-value l = record {
  counts : (q : ℕ) → unwrap_or (get nat_eq l.counts q) 0 + (if l.current == q then l.run else 0) ≡ frequency (take l.value-index l.values) q;
  some : (q : ℕ) → get nat_eq l.counts q ≢ Some 0;
}

use Rattle.std.proofs.Common.{◌≡◌, ◌≤◌, ◌*◌, sum_by, take}
use Rattle.sx_lcp.specs.Rankings.{count_at}
use Rattle.sx_lcp.proofs.codes.costs.counted.Given as goal

abbrev pub invariant-loop-entry : goal.invariant-loop-entry
invariant-loop-entry l = record {
  sum : l.sum ≡ sum_by count_at (take l.entry-index l.ranked);
  small : l.sum ≤ 4294967295 * l.entry-index;
}

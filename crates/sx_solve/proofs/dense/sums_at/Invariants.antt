use Rattle.std.proofs.Common.{◌≡◌, length}
use Rattle.sx_solve.proofs.dense.sums_at.Given as goal

abbrev pub invariant-loop-number : goal.invariant-loop-number
invariant-loop-number l = length l.sums.items ≡ l.number-index

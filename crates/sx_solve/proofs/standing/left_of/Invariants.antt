use Rattle.std.proofs.Common.{◌≡◌, length}
use Rattle.sx_solve.proofs.standing.left_of.Given as goal

abbrev pub invariant-loop-q : goal.invariant-loop-q
invariant-loop-q l = length l.left.items ≡ l.q-index

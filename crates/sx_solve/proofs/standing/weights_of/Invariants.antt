use Rattle.sx_solve.specs.Lazy.{AreSeats}
use Rattle.sx_solve.proofs.standing.weights_of.Given as goal

abbrev pub invariant-loop-number : goal.invariant-loop-number
invariant-loop-number l = AreSeats l.count 1 4 l.weights

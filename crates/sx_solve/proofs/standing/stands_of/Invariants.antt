use Rattle.std.proofs.Common.{length}
use Rattle.sx_solve.specs.Lazy.{AreSeats}
use Rattle.sx_solve.proofs.standing.stands_of.Given as goal

abbrev pub invariant-loop-number : goal.invariant-loop-number
invariant-loop-number l = AreSeats (length l.eqs) 3 l.vars l.stands

use Rattle.std.proofs.Common.{length}
use Rattle.sx_solve.specs.Lazy.{AreSeats, AreTurns}
use Rattle.sx_solve.proofs.lazy.take_turns.Given as goal

abbrev pub invariant-loop : goal.invariant-loop
invariant-loop l = record {
  weights : AreSeats (length l.left) 1 4 l.weights;
  turns : AreTurns (length l.counts) (length l.left) l.counter l.pivots.items l.aside.items;
}

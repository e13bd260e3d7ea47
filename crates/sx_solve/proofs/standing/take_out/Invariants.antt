use Rattle.std.proofs.Common.{◌≡◌, length, Some}
use Rattle.sx_links.specs.declared.Seat.{Seat}
use Rattle.sx_links.specs.Seats.{LiesOn}
use Rattle.sx_solve.specs.Lazy.{AreSeats}
use Rattle.sx_solve.proofs.standing.take_out.Given as goal

abbrev pub invariant-loop : goal.invariant-loop
invariant-loop l = record {
  weights : AreSeats (length l.left) 1 4 l.weights;
  at : (s : Seat) → l.at ≡ Some s → LiesOn l.stands l.unknown s;
}

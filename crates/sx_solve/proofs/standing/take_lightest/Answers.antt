use Rattle.std.proofs.Common.{subst, sym}
use Rattle.sx_links.specs.Seats.{Lists}
use Rattle.sx_solve.specs.Lazy.{AreSeats}
use Rattle.sx_solve.proofs.Seated.{seats_unlink}
use Rattle.sx_solve.proofs.standing.take_lightest.Goals as goal

pub returns-clause-seats : goal.returns-clause-seats
returns-clause-seats c =
    let items = c.args.weights.now.items in
    subst (λ (l : Lists). AreSeats items 1 4 l) (sym c.unlink.ensures)
    (seats_unlink c.args.weights.now c.in_ok-seat.seat items 1 4 c.requires)

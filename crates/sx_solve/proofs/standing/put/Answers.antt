use Rattle.std.proofs.Common.{subst, sym}
use Rattle.sx_links.specs.declared.Seat.{Seat}
use Rattle.sx_links.specs.Seats.{Lists}
use Rattle.sx_solve.specs.Lazy.{AreSeats}
use Rattle.sx_solve.proofs.Seated.{seats_push}
use Rattle.sx_solve.proofs.standing.put.Goals as goal

pub returns-then-is_none : goal.returns-then-is_none
returns-then-is_none c = λ items hooks lists are.
    let s : Seat = record { item = c.args.item; hook = c.args.hook } in
    subst (λ (l : Lists). AreSeats items hooks lists l) (sym c.push.ensures)
    (seats_push c.args.links.now c.args.list s c.requires.list c.requires.seat items hooks lists are)

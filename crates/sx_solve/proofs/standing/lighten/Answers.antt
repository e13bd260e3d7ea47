use Rattle.std.proofs.Common.{subst, sym, arith}
use Rattle.sx_links.specs.declared.Seat.{Seat}
use Rattle.sx_links.specs.Seats.{Lists, IsTaken}
use Rattle.sx_solve.specs.Lazy.{AreSeats}
use Rattle.sx_solve.proofs.Seated.{seats_push, seats_unlink, unlinked_free}
use Rattle.sx_solve.proofs.standing.lighten.Goals as goal

pub push-requires-clause-free : goal.push-requires-clause-free
push-requires-clause-free c =
    let s : Seat = record { item = c.args.number; hook = 0 } in
    subst (λ (l : Lists). ¬ IsTaken l s) (sym c.unlink.ensures) (unlinked_free c.args.weights.now s)

pub returns : goal.returns
returns c =
    let items = c.args.weights.now.items in
    let s : Seat = record { item = c.args.number; hook = 0 } in
    let before : AreSeats items 1 4 c.unlink.new.self =
    subst (λ (l : Lists). AreSeats items 1 4 l) (sym c.unlink.ensures)
    (seats_unlink c.args.weights.now s items 1 4 c.requires.seats) in
    subst (λ (l : Lists). AreSeats items 1 4 l) (sym c.push.ensures)
    (seats_push c.unlink.new.self c.in_ok-weight.weight s
    (omega (arith, before.of_lists, c.in_ok-weight.ensures, c.in_ok-list_of.ensures.0.0))
    (let item = c.requires.number in let of_items = before.of_items in let of_hooks = before.of_hooks in (omega arith, omega arith)) items 1 4 before)

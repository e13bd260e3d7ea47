use Rattle.std.proofs.Common.{ℕ, subst, sym, ◌∙◌, arith}
use Rattle.sx_links.specs.Seats.{IsSeat}
use Rattle.sx_solve.specs.Lazy.{AreSeats}
use Rattle.sx_solve.proofs.Seated.{next_lies}
use Rattle.sx_solve.proofs.standing.take_out.Goals as goal

pub lower-requires-clause-number : goal.lower-requires-clause-number
lower-requires-clause-number c =
    let lies = c.loop.invariant.at c.in-Some.seat c.in-Some.is in
    let is : IsSeat c.args.stands.now c.in-Some.seat = c.requires.stands.seats c.args.unknown c.in-Some.seat lies in
    omega arith

pub next-at-requires-clause-seat : goal.next-at-requires-clause-seat
next-at-requires-clause-seat c =
    c.requires.stands.seats c.args.unknown c.in-Some.seat (c.loop.invariant.at c.in-Some.seat c.in-Some.is)

pub loop-preserved : goal.loop-preserved
loop-preserved c = record {
  weights = subst (λ (n : ℕ). AreSeats n 1 4 c.lower.new.weights) (sym c.lower.auto.left) c.lower.ensures;
  at = λ s is.
      let lies = c.loop.invariant.at c.in-Some.seat c.in-Some.is in
      next_lies c.args.stands.now c.args.unknown c.in-Some.seat s lies.0 (sym (c.next-at.ensures c.args.unknown lies) ∙ is);
}

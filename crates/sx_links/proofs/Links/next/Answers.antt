use Rattle.std.proofs.Common.{◌≡◌, ◌<◌, ℕ, get_or, sym, ap, subst, ◌∙◌, arith, refl}
use Rattle.sx_links.specs.declared.Seat.{Seat}
use Rattle.sx_links.specs.Seats.{Lists, LiesOn, seats_of, after}
use Rattle.sx_links.specs.Linked.{FlatNet, flat_of, seat_at}
use Rattle.sx_links.proofs.Linked.{after_read, links_are}
use Rattle.sx_links.proofs.LinkedReads.{seat_inside, flat_next}
use Rattle.sx_links.proofs.Links.next.Goals as goal

pub index-requires : goal.index-requires
index-requires c =
    let i = c.self.inside in
    let flat : FlatNet = flat_of i.hooks i.lens.items i.owners.items i.neighbours.items in
    let is = c.self.invariant in
    let s : Seat = record { item = c.args.item; hook = c.args.hook } in
    let seat = subst (λ (v : Lists). (c.args.item < v.items) × (c.args.hook < v.hooks)) (sym c.self.view_is) c.requires.seat in
    let below = seat_inside i.items flat is s seat.0 seat.1 in
    let size = links_are i.items flat is i.neighbours.items refl in
    let place = c.place_of-place.ensures in
    omega (arith, i.neighbours.ok.0)

pub seat_at-requires : goal.seat_at-requires
seat_at-requires c =
    let i = c.self.inside in
    let flat : FlatNet = flat_of i.hooks i.lens.items i.owners.items i.neighbours.items in
    let is = c.self.invariant in
    let s : Seat = record { item = c.args.item; hook = c.args.hook } in
    let seat = subst (λ (v : Lists). (c.args.item < v.items) × (c.args.hook < v.hooks)) (sym c.self.view_is) c.requires.seat in
    let below = seat_inside i.items flat is s seat.0 seat.1 in
    λ some. omega arith

pub returns : goal.returns
returns c =
    let i = c.self.inside in
    let flat : FlatNet = flat_of i.hooks i.lens.items i.owners.items i.neighbours.items in
    let is = c.self.invariant in
    let s : Seat = record { item = c.args.item; hook = c.args.hook } in
    let seat = subst (λ (v : Lists). (c.args.item < v.items) × (c.args.hook < v.hooks)) (sym c.self.view_is) c.requires.seat in
    let below = seat_inside i.items flat is s seat.0 seat.1 in
    let size = links_are i.items flat is i.neighbours.items refl in
    let place = c.place_of-place.ensures in
    let link = after_read i.neighbours.items c.place_of-place.result c.index.result.now (omega arith) c.index.ensures
    ∙ ap (λ k. get_or flat.afters k 0) place in
    subst (λ (v : Lists). (list : ℕ) → LiesOn v list s → c.seat_at.result ≡ after s (seats_of v list)) c.self.view_is
    (λ list lies. c.seat_at.ensures ∙ ap (seat_at i.hooks) link ∙ flat_next i.items flat is s seat.0 seat.1 list lies)

use Rattle.std.proofs.Common.{◌<◌, ◌≤◌, ◌-◌, ℕ, get_or, sym, ap, subst, ◌∙◌, arith}
use Rattle.std.specs.Prelude.{SomeIff}
use Rattle.std.proofs.lemmas.List.{get_or_read}
use Rattle.sx_links.specs.declared.Seat.{Seat}
use Rattle.sx_links.specs.Seats.{Lists, IsListOf}
use Rattle.sx_links.specs.Linked.{FlatNet, flat_of}
use Rattle.sx_links.proofs.LinkedReads.{seat_inside, flat_list_of}
use Rattle.sx_links.proofs.Links.list_of.Goals as goal

pub index-requires : goal.index-requires
index-requires c =
    let i = c.self.inside in
    let flat : FlatNet = flat_of i.hooks i.lens.items i.owners.items i.neighbours.items in
    let is = c.self.invariant in
    let s : Seat = record { item = c.args.item; hook = c.args.hook } in
    let seat = subst (λ (v : Lists). (c.args.item < v.items) × (c.args.hook < v.hooks)) (sym c.self.view_is) c.requires in
    let below = seat_inside i.items flat is s seat.0 seat.1 in
    let place = c.place_of.ensures in
    omega (arith, i.owners.ok.0)

pub returns : goal.returns
returns c =
    let i = c.self.inside in
    let flat : FlatNet = flat_of i.hooks i.lens.items i.owners.items i.neighbours.items in
    let is = c.self.invariant in
    let s : Seat = record { item = c.args.item; hook = c.args.hook } in
    let seat = subst (λ (v : Lists). (c.args.item < v.items) × (c.args.hook < v.hooks)) (sym c.self.view_is) c.requires in
    let below = seat_inside i.items flat is s seat.0 seat.1 in
    let place = c.place_of.ensures in
    let read = get_or_read i.owners.items c.place_of.result c.index.result.now (omega arith) c.index.ensures 0
    ∙ ap (λ k. get_or i.owners.items k 0) place in
    subst (λ (v : Lists). IsListOf v s c.checked_sub.result) c.self.view_is
    (flat_list_of i.items flat is s seat.0 seat.1 c.checked_sub.result
    (subst (λ (k : ℕ). SomeIff c.checked_sub.result (1 ≤ k) (k - 1)) read c.checked_sub.ensures))

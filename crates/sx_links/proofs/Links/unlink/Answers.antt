use Rattle.std.proofs.Common.{◌≡◌, ◌<◌, ◌+◌, ◌-◌, length, get_or, set, refl, sym, ap, subst, ◌∙◌, arith}
use Rattle.std.proofs.lemmas.List.{get_or_read}
use Rattle.sx_links.specs.declared.Seat.{Seat}
use Rattle.sx_links.specs.Seats.{Lists, IsTaken}
use Rattle.sx_links.specs.Linked.{FlatNet, flat_of, befores_of, afters_of, place_at}
use Rattle.sx_links.proofs.Linked.{before_read, after_read, links_are, place_at_below}
use Rattle.sx_links.proofs.LinkedReads.{seat_inside, flat_owned}
use Rattle.sx_links.proofs.LinkedUnlinked.{owner_inside, some_seat, before_small, later_small, unlink_made}
use Rattle.sx_links.proofs.Links.unlink.Goals as goal

pub overflow_sub-list : goal.overflow_sub-list
overflow_sub-list c =
    let i = c.self.inside in
    let flat : FlatNet = flat_of i.hooks i.lens.items i.owners.items i.neighbours.items in
    let is = c.self.invariant in
    let s : Seat = record { item = c.args.item; hook = c.args.hook } in
    let seat = subst (λ (v : Lists). (c.args.item < v.items) × (c.args.hook < v.hooks)) (sym c.self.view_is) c.requires.seat in
    let taken = subst (λ (v : Lists). IsTaken v s) (sym c.self.view_is) c.requires.taken in
    let below = seat_inside i.items flat is s seat.0 seat.1 in
    let place = c.place_of-place.ensures in
    let owner = get_or_read i.owners.items c.place_of-place.result c.index.result.now (omega arith) c.index.ensures 0 ∙ ap (λ k. get_or i.owners.items k 0) place in
    let some = flat_owned i.items flat is s seat.0 seat.1 taken in
    omega arith

pub set_before-requires : goal.set_before-requires
set_before-requires c =
    let i = c.self.inside in
    let flat : FlatNet = flat_of i.hooks i.lens.items i.owners.items i.neighbours.items in
    let is = c.self.invariant in
    let s : Seat = record { item = c.args.item; hook = c.args.hook } in
    let seat = subst (λ (v : Lists). (c.args.item < v.items) × (c.args.hook < v.hooks)) (sym c.self.view_is) c.requires.seat in
    let taken = subst (λ (v : Lists). IsTaken v s) (sym c.self.view_is) c.requires.taken in
    let below = seat_inside i.items flat is s seat.0 seat.1 in
    let place = c.place_of-place.ensures in
    let owner = get_or_read i.owners.items c.place_of-place.result c.index.result.now (omega arith) c.index.ensures 0 ∙ ap (λ k. get_or i.owners.items k 0) place in
    let inside = owner_inside i.items flat is s seat.0 seat.1 taken in
    let size = links_are i.items flat is i.neighbours.items refl in
    let head : c.len.result + (c.index.result.now - 1) ≡ length i.owners.items + (c.index.result.now - 1) = omega (arith, c.len.ensures, i.owners.ok.0) in
    let from = before_read i.neighbours.items c.place_of-place.result c.index-2.result.now (omega arith) c.index-2.ensures ∙ ap (λ k. get_or flat.befores k 0) place in
    let to = after_read i.neighbours.items c.place_of-place.result c.index-2.result.now (omega arith) c.index-2.ensures ∙ ap (λ k. get_or flat.afters k 0) place in
    let below_at = place_at_below c.index-2.result.now.after (length i.owners.items) (c.index.result.now - 1) (length i.neighbours.items)
    (λ k e. later_small i.items flat is s seat.0 seat.1 taken k (sym to ∙ e)) (omega arith) in
    let inside_links = subst (λ k. k < length i.neighbours.items) (sym (c.place_at.ensures ∙ ap (place_at c.index-2.result.now.after) head)) below_at in
    inside_links

pub set_after-requires : goal.set_after-requires
set_after-requires c =
    let i = c.self.inside in
    let flat : FlatNet = flat_of i.hooks i.lens.items i.owners.items i.neighbours.items in
    let is = c.self.invariant in
    let s : Seat = record { item = c.args.item; hook = c.args.hook } in
    let seat = subst (λ (v : Lists). (c.args.item < v.items) × (c.args.hook < v.hooks)) (sym c.self.view_is) c.requires.seat in
    let taken = subst (λ (v : Lists). IsTaken v s) (sym c.self.view_is) c.requires.taken in
    let below = seat_inside i.items flat is s seat.0 seat.1 in
    let place = c.place_of-place.ensures in
    let owner = get_or_read i.owners.items c.place_of-place.result c.index.result.now (omega arith) c.index.ensures 0 ∙ ap (λ k. get_or i.owners.items k 0) place in
    let inside = owner_inside i.items flat is s seat.0 seat.1 taken in
    let size = links_are i.items flat is i.neighbours.items refl in
    let head : c.len.result + (c.index.result.now - 1) ≡ length i.owners.items + (c.index.result.now - 1) = omega (arith, c.len.ensures, i.owners.ok.0) in
    let from = before_read i.neighbours.items c.place_of-place.result c.index-2.result.now (omega arith) c.index-2.ensures ∙ ap (λ k. get_or flat.befores k 0) place in
    let to = after_read i.neighbours.items c.place_of-place.result c.index-2.result.now (omega arith) c.index-2.ensures ∙ ap (λ k. get_or flat.afters k 0) place in
    let below_at = place_at_below c.index-2.result.now.before (length i.owners.items) (c.index.result.now - 1) (length i.neighbours.items)
    (λ k e. before_small i.items flat is s seat.0 seat.1 taken k (sym from ∙ e)) (omega arith) in
    let inside_links = subst (λ k. k < length i.neighbours.items) (sym (c.place_at-2.ensures ∙ ap (place_at c.index-2.result.now.before) head)) below_at in
    let kept = c.set_before.ensures.len in
    omega arith

pub index_mut-requires-2 : goal.index_mut-requires-2
index_mut-requires-2 c =
    let i = c.self.inside in
    let flat : FlatNet = flat_of i.hooks i.lens.items i.owners.items i.neighbours.items in
    let is = c.self.invariant in
    let s : Seat = record { item = c.args.item; hook = c.args.hook } in
    let seat = subst (λ (v : Lists). (c.args.item < v.items) × (c.args.hook < v.hooks)) (sym c.self.view_is) c.requires.seat in
    let taken = subst (λ (v : Lists). IsTaken v s) (sym c.self.view_is) c.requires.taken in
    let below = seat_inside i.items flat is s seat.0 seat.1 in
    let place = c.place_of-place.ensures in
    let owner = get_or_read i.owners.items c.place_of-place.result c.index.result.now (omega arith) c.index.ensures 0 ∙ ap (λ k. get_or i.owners.items k 0) place in
    let inside = owner_inside i.items flat is s seat.0 seat.1 taken in
    omega (arith, i.lens.ok.0)

pub overflow_sub-index_mut : goal.overflow_sub-index_mut
overflow_sub-index_mut c =
    let i = c.self.inside in
    let flat : FlatNet = flat_of i.hooks i.lens.items i.owners.items i.neighbours.items in
    let is = c.self.invariant in
    let s : Seat = record { item = c.args.item; hook = c.args.hook } in
    let seat = subst (λ (v : Lists). (c.args.item < v.items) × (c.args.hook < v.hooks)) (sym c.self.view_is) c.requires.seat in
    let taken = subst (λ (v : Lists). IsTaken v s) (sym c.self.view_is) c.requires.taken in
    let below = seat_inside i.items flat is s seat.0 seat.1 in
    let place = c.place_of-place.ensures in
    let owner = get_or_read i.owners.items c.place_of-place.result c.index.result.now (omega arith) c.index.ensures 0 ∙ ap (λ k. get_or i.owners.items k 0) place in
    let inside = owner_inside i.items flat is s seat.0 seat.1 taken in
    let len = get_or_read i.lens.items (c.index.result.now - 1) c.index_mut-2.result.now (omega arith) c.index_mut-2.ensures.value 0
    ∙ ap (λ k. get_or i.lens.items (k - 1) 0) owner in
    let some = some_seat i.items flat is s seat.0 seat.1 taken in
    omega arith

pub invariant_of-self : goal.invariant_of-self
invariant_of-self c =
    let i = c.self.inside in
    let flat : FlatNet = flat_of i.hooks i.lens.items i.owners.items i.neighbours.items in
    let is = c.self.invariant in
    let s : Seat = record { item = c.args.item; hook = c.args.hook } in
    let seat = subst (λ (v : Lists). (c.args.item < v.items) × (c.args.hook < v.hooks)) (sym c.self.view_is) c.requires.seat in
    let taken = subst (λ (v : Lists). IsTaken v s) (sym c.self.view_is) c.requires.taken in
    let below = seat_inside i.items flat is s seat.0 seat.1 in
    let place = c.place_of-place.ensures in
    let owner = get_or_read i.owners.items c.place_of-place.result c.index.result.now (omega arith) c.index.ensures 0 ∙ ap (λ k. get_or i.owners.items k 0) place in
    let inside = owner_inside i.items flat is s seat.0 seat.1 taken in
    let size = links_are i.items flat is i.neighbours.items refl in
    let head : c.len.result + (c.index.result.now - 1) ≡ length i.owners.items + (c.index.result.now - 1) = omega (arith, c.len.ensures, i.owners.ok.0) in
    let from = before_read i.neighbours.items c.place_of-place.result c.index-2.result.now (omega arith) c.index-2.ensures ∙ ap (λ k. get_or flat.befores k 0) place in
    let to = after_read i.neighbours.items c.place_of-place.result c.index-2.result.now (omega arith) c.index-2.ensures ∙ ap (λ k. get_or flat.afters k 0) place in
    let len = get_or_read i.lens.items (c.index.result.now - 1) c.index_mut-2.result.now (omega arith) c.index_mut-2.ensures.value 0
    ∙ ap (λ k. get_or i.lens.items (k - 1) 0) owner in
    let holds = unlink_made i.items flat is s seat.0 seat.1 taken c.place_of-place.result c.index.result.now (c.len.result + (c.index.result.now - 1)) c.place_at.result c.place_at-2.result
    c.index-2.result.now.before c.index-2.result.now.after c.index_mut-2.result.now (befores_of c.set_after.new.neighbours.items) (afters_of c.set_after.new.neighbours.items)
    place owner head from to c.place_at.ensures c.place_at-2.ensures len (c.set_after.ensures.befores ∙ c.set_before.ensures.befores)
    (c.set_after.ensures.afters ∙ ap (λ links. set links c.place_at-2.result c.index-2.result.now.after) c.set_before.ensures.afters) in
    holds.sound

pub returns : goal.returns
returns c =
    let i = c.self.inside in
    let flat : FlatNet = flat_of i.hooks i.lens.items i.owners.items i.neighbours.items in
    let is = c.self.invariant in
    let s : Seat = record { item = c.args.item; hook = c.args.hook } in
    let seat = subst (λ (v : Lists). (c.args.item < v.items) × (c.args.hook < v.hooks)) (sym c.self.view_is) c.requires.seat in
    let taken = subst (λ (v : Lists). IsTaken v s) (sym c.self.view_is) c.requires.taken in
    let below = seat_inside i.items flat is s seat.0 seat.1 in
    let place = c.place_of-place.ensures in
    let owner = get_or_read i.owners.items c.place_of-place.result c.index.result.now (omega arith) c.index.ensures 0 ∙ ap (λ k. get_or i.owners.items k 0) place in
    let inside = owner_inside i.items flat is s seat.0 seat.1 taken in
    let size = links_are i.items flat is i.neighbours.items refl in
    let head : c.len.result + (c.index.result.now - 1) ≡ length i.owners.items + (c.index.result.now - 1) = omega (arith, c.len.ensures, i.owners.ok.0) in
    let from = before_read i.neighbours.items c.place_of-place.result c.index-2.result.now (omega arith) c.index-2.ensures ∙ ap (λ k. get_or flat.befores k 0) place in
    let to = after_read i.neighbours.items c.place_of-place.result c.index-2.result.now (omega arith) c.index-2.ensures ∙ ap (λ k. get_or flat.afters k 0) place in
    let len = get_or_read i.lens.items (c.index.result.now - 1) c.index_mut-2.result.now (omega arith) c.index_mut-2.ensures.value 0
    ∙ ap (λ k. get_or i.lens.items (k - 1) 0) owner in
    let holds = unlink_made i.items flat is s seat.0 seat.1 taken c.place_of-place.result c.index.result.now (c.len.result + (c.index.result.now - 1)) c.place_at.result c.place_at-2.result
    c.index-2.result.now.before c.index-2.result.now.after c.index_mut-2.result.now (befores_of c.set_after.new.neighbours.items) (afters_of c.set_after.new.neighbours.items)
    place owner head from to c.place_at.ensures c.place_at-2.ensures len (c.set_after.ensures.befores ∙ c.set_before.ensures.befores)
    (c.set_after.ensures.afters ∙ ap (λ links. set links c.place_at-2.result c.index-2.result.now.after) c.set_before.ensures.afters) in
    rw (← c.self.view_is) (ap (λ ls. record { items = i.items; hooks = i.hooks; lists = ls }) holds.same)

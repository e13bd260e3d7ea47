use Rattle.std.proofs.Common.{◌≡◌, ◌<◌, ◌+◌, length, get_or, set, refl, sym, ap, subst, ◌∙◌, arith}
use Rattle.std.proofs.lemmas.List.{get_or_read}
use Rattle.sx_links.specs.declared.Seat.{Seat}
use Rattle.sx_links.specs.Seats.{Lists, IsTaken}
use Rattle.sx_links.specs.Linked.{FlatNet, flat_of, befores_of, afters_of, place_at}
use Rattle.sx_links.proofs.Linked.{after_read, links_are, place_at_below}
use Rattle.sx_links.proofs.LinkedReads.{list_inside}
use Rattle.sx_links.proofs.LinkedPushed.{second_small, len_fits, push_made}
use Rattle.sx_links.proofs.Links.push.Goals as goal

pub index-requires : goal.index-requires
index-requires c =
    let i = c.self.inside in
    let flat : FlatNet = flat_of i.hooks i.lens.items i.owners.items i.neighbours.items in
    let is = c.self.invariant in
    let s : Seat = record { item = c.args.item; hook = c.args.hook } in
    let seat = subst (λ (v : Lists). (c.args.item < v.items) × (c.args.hook < v.hooks)) (sym c.self.view_is) c.requires.seat in
    let within = subst (λ (v : Lists). c.args.list < length v.lists) (sym c.self.view_is) c.requires.list in
    let low = list_inside i.items flat is c.args.list within in
    let size = links_are i.items flat is i.neighbours.items refl in
    omega (arith, i.neighbours.ok.0, i.owners.ok.0, c.len.ensures)

pub set_before-requires : goal.set_before-requires
set_before-requires c =
    let i = c.self.inside in
    let flat : FlatNet = flat_of i.hooks i.lens.items i.owners.items i.neighbours.items in
    let is = c.self.invariant in
    let s : Seat = record { item = c.args.item; hook = c.args.hook } in
    let seat = subst (λ (v : Lists). (c.args.item < v.items) × (c.args.hook < v.hooks)) (sym c.self.view_is) c.requires.seat in
    let within = subst (λ (v : Lists). c.args.list < length v.lists) (sym c.self.view_is) c.requires.list in
    let low = list_inside i.items flat is c.args.list within in
    let free = subst (λ (v : Lists). ¬ IsTaken v s) (sym c.self.view_is) c.requires.free in
    let size = links_are i.items flat is i.neighbours.items refl in
    let head : c.len.result + c.args.list ≡ length i.owners.items + c.args.list = omega (arith, c.len.ensures, i.owners.ok.0) in
    let second = after_read i.neighbours.items (c.len.result + c.args.list) c.index.result.now (omega arith) c.index.ensures
    ∙ ap (λ k. get_or flat.afters k 0) head in
    let below = place_at_below c.index.result.now.after (length i.owners.items) c.args.list (length i.neighbours.items)
    (λ k e. second_small i.items flat is c.args.list within s seat.0 seat.1 free k (sym second ∙ e)) (omega arith) in
    subst (λ k. k < length i.neighbours.items) (sym (c.place_at.ensures ∙ ap (place_at c.index.result.now.after) head)) below

pub set_after-requires-2 : goal.set_after-requires-2
set_after-requires-2 c =
    let i = c.self.inside in
    let flat : FlatNet = flat_of i.hooks i.lens.items i.owners.items i.neighbours.items in
    let is = c.self.invariant in
    let s : Seat = record { item = c.args.item; hook = c.args.hook } in
    let seat = subst (λ (v : Lists). (c.args.item < v.items) × (c.args.hook < v.hooks)) (sym c.self.view_is) c.requires.seat in
    let within = subst (λ (v : Lists). c.args.list < length v.lists) (sym c.self.view_is) c.requires.list in
    let low = list_inside i.items flat is c.args.list within in
    let size = links_are i.items flat is i.neighbours.items refl in
    let head : c.len.result + c.args.list ≡ length i.owners.items + c.args.list = omega (arith, c.len.ensures, i.owners.ok.0) in
    let first = c.set_before.ensures.len in
    let second = c.set_before-2.ensures.len in
    let third = c.set_after.ensures.len in
    omega arith

pub overflow_add-list : goal.overflow_add-list
overflow_add-list c =
    let i = c.self.inside in
    let flat : FlatNet = flat_of i.hooks i.lens.items i.owners.items i.neighbours.items in
    let is = c.self.invariant in
    let s : Seat = record { item = c.args.item; hook = c.args.hook } in
    let seat = subst (λ (v : Lists). (c.args.item < v.items) × (c.args.hook < v.hooks)) (sym c.self.view_is) c.requires.seat in
    let within = subst (λ (v : Lists). c.args.list < length v.lists) (sym c.self.view_is) c.requires.list in
    let low = list_inside i.items flat is c.args.list within in
    let few = is.few in
    record { fits = omega arith }

pub index_mut-requires-2 : goal.index_mut-requires-2
index_mut-requires-2 c =
    let i = c.self.inside in
    let flat : FlatNet = flat_of i.hooks i.lens.items i.owners.items i.neighbours.items in
    let is = c.self.invariant in
    let s : Seat = record { item = c.args.item; hook = c.args.hook } in
    let seat = subst (λ (v : Lists). (c.args.item < v.items) × (c.args.hook < v.hooks)) (sym c.self.view_is) c.requires.seat in
    let within = subst (λ (v : Lists). c.args.list < length v.lists) (sym c.self.view_is) c.requires.list in
    let low = list_inside i.items flat is c.args.list within in
    omega (arith, i.lens.ok.0)

pub overflow_add-index_mut : goal.overflow_add-index_mut
overflow_add-index_mut c =
    let i = c.self.inside in
    let flat : FlatNet = flat_of i.hooks i.lens.items i.owners.items i.neighbours.items in
    let is = c.self.invariant in
    let s : Seat = record { item = c.args.item; hook = c.args.hook } in
    let seat = subst (λ (v : Lists). (c.args.item < v.items) × (c.args.hook < v.hooks)) (sym c.self.view_is) c.requires.seat in
    let within = subst (λ (v : Lists). c.args.list < length v.lists) (sym c.self.view_is) c.requires.list in
    let low = list_inside i.items flat is c.args.list within in
    let free = subst (λ (v : Lists). ¬ IsTaken v s) (sym c.self.view_is) c.requires.free in
    let len = get_or_read i.lens.items c.args.list c.index_mut-2.result.now low c.index_mut-2.ensures.value 0 in
    let most = len_fits i.items flat is c.args.list within s seat.0 seat.1 free in
    let few = is.net.small in
    record { fits = omega arith }

pub invariant_of-self : goal.invariant_of-self
invariant_of-self c =
    let i = c.self.inside in
    let flat : FlatNet = flat_of i.hooks i.lens.items i.owners.items i.neighbours.items in
    let is = c.self.invariant in
    let s : Seat = record { item = c.args.item; hook = c.args.hook } in
    let seat = subst (λ (v : Lists). (c.args.item < v.items) × (c.args.hook < v.hooks)) (sym c.self.view_is) c.requires.seat in
    let within = subst (λ (v : Lists). c.args.list < length v.lists) (sym c.self.view_is) c.requires.list in
    let low = list_inside i.items flat is c.args.list within in
    let free = subst (λ (v : Lists). ¬ IsTaken v s) (sym c.self.view_is) c.requires.free in
    let size = links_are i.items flat is i.neighbours.items refl in
    let head : c.len.result + c.args.list ≡ length i.owners.items + c.args.list = omega (arith, c.len.ensures, i.owners.ok.0) in
    let second = after_read i.neighbours.items (c.len.result + c.args.list) c.index.result.now (omega arith) c.index.ensures
    ∙ ap (λ k. get_or flat.afters k 0) head in
    let len = get_or_read i.lens.items c.args.list c.index_mut-2.result.now low c.index_mut-2.ensures.value 0 in
    let befores = c.set_after-2.ensures.befores ∙ c.set_after.ensures.befores ∙ c.set_before-2.ensures.befores
    ∙ ap (λ links. set links c.place_of-place.result 0) c.set_before.ensures.befores in
    let afters = c.set_after-2.ensures.afters
    ∙ ap (λ links. set links (c.len.result + c.args.list) (c.place_of-place.result + 1))
    (c.set_after.ensures.afters ∙ ap (λ links. set links c.place_of-place.result c.index.result.now.after) (c.set_before-2.ensures.afters ∙ c.set_before.ensures.afters)) in
    let holds = push_made i.items flat is c.args.list within s seat.0 seat.1 free c.place_at.result (c.len.result + c.args.list) c.place_of-place.result c.index.result.now.after
    c.index_mut-2.result.now (befores_of c.set_after-2.new.neighbours.items) (afters_of c.set_after-2.new.neighbours.items)
    c.place_of-place.ensures head second c.place_at.ensures len befores afters in
    holds.sound

pub returns : goal.returns
returns c =
    let i = c.self.inside in
    let flat : FlatNet = flat_of i.hooks i.lens.items i.owners.items i.neighbours.items in
    let is = c.self.invariant in
    let s : Seat = record { item = c.args.item; hook = c.args.hook } in
    let seat = subst (λ (v : Lists). (c.args.item < v.items) × (c.args.hook < v.hooks)) (sym c.self.view_is) c.requires.seat in
    let within = subst (λ (v : Lists). c.args.list < length v.lists) (sym c.self.view_is) c.requires.list in
    let low = list_inside i.items flat is c.args.list within in
    let free = subst (λ (v : Lists). ¬ IsTaken v s) (sym c.self.view_is) c.requires.free in
    let size = links_are i.items flat is i.neighbours.items refl in
    let head : c.len.result + c.args.list ≡ length i.owners.items + c.args.list = omega (arith, c.len.ensures, i.owners.ok.0) in
    let second = after_read i.neighbours.items (c.len.result + c.args.list) c.index.result.now (omega arith) c.index.ensures
    ∙ ap (λ k. get_or flat.afters k 0) head in
    let len = get_or_read i.lens.items c.args.list c.index_mut-2.result.now low c.index_mut-2.ensures.value 0 in
    let befores = c.set_after-2.ensures.befores ∙ c.set_after.ensures.befores ∙ c.set_before-2.ensures.befores
    ∙ ap (λ links. set links c.place_of-place.result 0) c.set_before.ensures.befores in
    let afters = c.set_after-2.ensures.afters
    ∙ ap (λ links. set links (c.len.result + c.args.list) (c.place_of-place.result + 1))
    (c.set_after.ensures.afters ∙ ap (λ links. set links c.place_of-place.result c.index.result.now.after) (c.set_before-2.ensures.afters ∙ c.set_before.ensures.afters)) in
    let holds = push_made i.items flat is c.args.list within s seat.0 seat.1 free c.place_at.result (c.len.result + c.args.list) c.place_of-place.result c.index.result.now.after
    c.index_mut-2.result.now (befores_of c.set_after-2.new.neighbours.items) (afters_of c.set_after-2.new.neighbours.items)
    c.place_of-place.ensures head second c.place_at.ensures len befores afters in
    rw (← c.self.view_is) (ap (λ ls. record { items = i.items; hooks = i.hooks; lists = ls }) holds.same)

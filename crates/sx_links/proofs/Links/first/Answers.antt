use Rattle.std.proofs.Common.{◌≡◌, ◌<◌, ◌+◌, length, get_or, sym, ap, subst, ◌∙◌, arith, refl}
use Rattle.std.specs.Prelude.{slice_get}
use Rattle.sx_links.specs.Seats.{Lists, seats_of}
use Rattle.sx_links.specs.Linked.{FlatNet, flat_of, seat_at}
use Rattle.sx_links.proofs.Linked.{after_read, links_are}
use Rattle.sx_links.proofs.LinkedReads.{list_inside, flat_first, first_hooks}
use Rattle.sx_links.proofs.Links.first.Goals as goal

pub index-requires : goal.index-requires
index-requires c =
    let i = c.self.inside in
    let flat : FlatNet = flat_of i.hooks i.lens.items i.owners.items i.neighbours.items in
    let is = c.self.invariant in
    let within = subst (λ (v : Lists). c.args.list < length v.lists) (sym c.self.view_is) c.requires in
    let low = list_inside i.items flat is c.args.list within in
    let size = links_are i.items flat is i.neighbours.items refl in
    omega (arith, i.neighbours.ok.0, i.owners.ok.0)

pub seat_at-requires : goal.seat_at-requires
seat_at-requires c =
    let i = c.self.inside in
    let flat : FlatNet = flat_of i.hooks i.lens.items i.owners.items i.neighbours.items in
    let is = c.self.invariant in
    let within = subst (λ (v : Lists). c.args.list < length v.lists) (sym c.self.view_is) c.requires in
    let low = list_inside i.items flat is c.args.list within in
    let size = links_are i.items flat is i.neighbours.items refl in
    let seats : c.len.result ≡ length i.owners.items = omega (arith, c.len.ensures, i.owners.ok.0) in
    let link = after_read i.neighbours.items (c.len.result + c.args.list) c.index.result.now (omega arith) c.index.ensures
    ∙ ap (λ k. get_or flat.afters (k + c.args.list) 0) seats in
    λ some. first_hooks i.items flat is c.args.list within (omega arith)

pub returns : goal.returns
returns c =
    let i = c.self.inside in
    let flat : FlatNet = flat_of i.hooks i.lens.items i.owners.items i.neighbours.items in
    let is = c.self.invariant in
    let within = subst (λ (v : Lists). c.args.list < length v.lists) (sym c.self.view_is) c.requires in
    let low = list_inside i.items flat is c.args.list within in
    let size = links_are i.items flat is i.neighbours.items refl in
    let seats : c.len.result ≡ length i.owners.items = omega (arith, c.len.ensures, i.owners.ok.0) in
    let link = after_read i.neighbours.items (c.len.result + c.args.list) c.index.result.now (omega arith) c.index.ensures
    ∙ ap (λ k. get_or flat.afters (k + c.args.list) 0) seats in
    subst (λ (v : Lists). c.seat_at.result ≡ slice_get (seats_of v c.args.list) 0) c.self.view_is
    (c.seat_at.ensures ∙ ap (seat_at i.hooks) link ∙ flat_first i.items flat is c.args.list within)

use Rattle.std.proofs.Common.{◌≡◌, ◌<◌, length, sym, subst, ◌∙◌, arith}
use Rattle.std.proofs.lemmas.List.{get_or_read}
use Rattle.sx_links.specs.Seats.{Lists, seats_of}
use Rattle.sx_links.specs.Linked.{FlatNet, flat_of}
use Rattle.sx_links.proofs.LinkedReads.{list_inside, flat_len}
use Rattle.sx_links.proofs.Links.len.Goals as goal

pub index-requires : goal.index-requires
index-requires c =
    let i = c.self.inside in
    let flat : FlatNet = flat_of i.hooks i.lens.items i.owners.items i.neighbours.items in
    let is = c.self.invariant in
    let within = subst (λ (v : Lists). c.args.list < length v.lists) (sym c.self.view_is) c.requires in
    let low = list_inside i.items flat is c.args.list within in
    omega (arith, i.lens.ok.0)

pub returns : goal.returns
returns c =
    let i = c.self.inside in
    let flat : FlatNet = flat_of i.hooks i.lens.items i.owners.items i.neighbours.items in
    let is = c.self.invariant in
    let within = subst (λ (v : Lists). c.args.list < length v.lists) (sym c.self.view_is) c.requires in
    let low = list_inside i.items flat is c.args.list within in
    let read = get_or_read i.lens.items c.args.list c.index.result.now low c.index.ensures 0 in
    subst (λ (v : Lists). c.index.result.now ≡ length (seats_of v c.args.list)) c.self.view_is (read ∙ flat_len i.items flat is c.args.list within)

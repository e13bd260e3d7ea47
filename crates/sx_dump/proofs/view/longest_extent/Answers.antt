use Rattle.std.proofs.Common.{refl, ap, ◌∙◌}
use Rattle.sx_spec_kinds.specs.declared.Kind.TheVariants.{Zfast}
use Rattle.sx_spec.specs.Kinds.{delimiter_count}
use Rattle.sx_zfast.specs.Largest.{largest}
use Rattle.sx_dump.proofs.Sections.{kind_is}
use Rattle.sx_dump.proofs.ZfastSections.{extents_are, extents_there}
use Rattle.sx_dump.proofs.view.longest_extent.Goals as goal

pub list_at-requires-clause-list : goal.list_at-requires-clause-list
list_at-requires-clause-list g c =
    let words = g.B.WordBank.words_of c.args.bank in
    let o = c.args.opened.now in
    extents_there words o.header o.places.items c.requires c.in-Zfast.is

pub largest_in-requires : goal.largest_in-requires
largest_in-requires g c =
    let words = g.B.WordBank.words_of c.args.bank in
    let o = c.args.opened.now in
    (extents_are words o.header o.places.items c.requires c.in-Zfast.is c.list_at.result (delimiter_count o.header.plan o.header.keys) refl c.list_at.ensures).1

pub returns-in-Zfast : goal.returns-in-Zfast
returns-in-Zfast g c = λ same. c.largest_in.ensures ∙ ap largest c.list_at.ensures.numbers

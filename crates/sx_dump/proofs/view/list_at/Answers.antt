use Rattle.std.proofs.Common.{◌<◌, ◌^◌, inl, inr, arith, ◌∙◌}
use Rattle.sx_sections.specs.Places.{IsListed}
use Rattle.sx_dump.proofs.Sections.{numbers_are, place_read, width_is}
use Rattle.sx_dump.proofs.view.list_at.Goals as goal

pub new-requires-clause-narrow : goal.new-requires-clause-narrow
new-requires-clause-narrow g c =
    let there = place_read c.args.opened.now.places.items c.as_slice.result.now c.args.i _ _ _ c.as_slice.ensures.value c.requires.list.there c.in-List.is in
    (c.requires.opened.stand.list c.args.i c.in-List.section there).narrow

pub new-requires-clause-short : goal.new-requires-clause-short
new-requires-clause-short g c =
    let there = place_read c.args.opened.now.places.items c.as_slice.result.now c.args.i _ _ _ c.as_slice.ensures.value c.requires.list.there c.in-List.is in
    let few : c.in-List.section.count < 2 ^ 32 = (c.requires.opened.stand.list c.args.i c.in-List.section there).few in
    omega arith

pub new-requires-clause-within : goal.new-requires-clause-within
new-requires-clause-within g c =
    let words = g.B.WordBank.words_of c.args.bank in
    let there = place_read c.args.opened.now.places.items c.as_slice.result.now c.args.i _ _ _ c.as_slice.ensures.value c.requires.list.there c.in-List.is in
    let stands : IsListed words c.in-List.section = c.requires.opened.stand.list c.args.i c.in-List.section there in
    omega arith

pub unreachable-requires : goal.unreachable-requires
unreachable-requires g c =
    let items = c.args.opened.now.places.items in
    let at = c.requires.list.there in
    elim c.in-Function.is as (λ _. ⊥) [
      | inl (s, is) ↦ let there = place_read items c.as_slice.result.now c.args.i _ _ _ c.as_slice.ensures.value at is in absurd cc
      | inr (inl (s, is)) ↦ let there = place_read items c.as_slice.result.now c.args.i _ _ _ c.as_slice.ensures.value at is in absurd cc
      | inr (inr (s, is)) ↦ let there = place_read items c.as_slice.result.now c.args.i _ _ _ c.as_slice.ensures.value at is in absurd cc
    ]

pub returns : goal.returns
returns g c =
    let words = g.B.WordBank.words_of c.args.bank in
    let o = c.args.opened.now in
    let there = place_read o.places.items c.as_slice.result.now c.args.i _ _ _ c.as_slice.ensures.value c.requires.list.there c.in-List.is in
    record {
      numbers = c.new.ensures.items ∙ numbers_are words o.header o.places.items c.requires.opened c.args.i c.in-List.section there;
      width = c.new.ensures.width ∙ width_is words o.header o.places.items c.requires.opened c.args.i c.in-List.section there;
    }

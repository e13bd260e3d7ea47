use Rattle.std.proofs.Common.{◌<◌, ◌^◌, inl, inr, rules, ◌∙◌}
use Rattle.sx_static.specs.Viewing.{viewed}
use Rattle.sx_dump.proofs.Sections.{function_is, place_read}
use Rattle.sx_dump.proofs.view.function_at.Goals as goal

pub overflow_cast-section : goal.overflow_cast-section
overflow_cast-section g c =
    let there = place_read c.args.opened.now.places.items c.as_slice.result.now c.args.i _ _ _ c.as_slice.ensures.value c.requires.function.there c.in-Function.is in
    let few : c.in-Function.section.count < 2 ^ 32 = (c.requires.opened.stand.function c.args.i c.in-Function.section there).few in
    search rules

pub new-requires : goal.new-requires
new-requires g c =
    let there = place_read c.args.opened.now.places.items c.as_slice.result.now c.args.i _ _ _ c.as_slice.ensures.value c.requires.function.there c.in-Function.is in
    record { stands = c.requires.opened.stand.function c.args.i c.in-Function.section there }

pub unreachable-requires : goal.unreachable-requires
unreachable-requires g c =
    let items = c.args.opened.now.places.items in
    let at = c.requires.function.there in
    elim c.in-List.is as (λ _. ⊥) [
      | inl (s, is) ↦ let there = place_read items c.as_slice.result.now c.args.i _ _ _ c.as_slice.ensures.value at is in absurd cc
      | inr (inl (s, is)) ↦ let there = place_read items c.as_slice.result.now c.args.i _ _ _ c.as_slice.ensures.value at is in absurd cc
      | inr (inr (s, is)) ↦ let there = place_read items c.as_slice.result.now c.args.i _ _ _ c.as_slice.ensures.value at is in absurd cc
    ]

pub returns : goal.returns
returns g c =
    let words = g.B.WordBank.words_of c.args.bank in
    let o = c.args.opened.now in
    let there = place_read o.places.items c.as_slice.result.now c.args.i _ _ _ c.as_slice.ensures.value c.requires.function.there c.in-Function.is in
    record {
      function =
          (λ i. viewed (g.B.WordBank.words_of (c.new.ensures.bank i)) (c.new.ensures.first i) (c.new.ensures.width i) (c.new.ensures.pairs i))
          ∙ function_is words o.header o.places.items c.requires.opened c.args.i c.in-Function.section there;
    }

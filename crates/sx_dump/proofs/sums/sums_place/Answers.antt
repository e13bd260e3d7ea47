use Rattle.std.proofs.Common.{inl, inr}
use Rattle.sx_dump.proofs.Sections.{place_read}
use Rattle.sx_dump.proofs.sums.sums_place.Goals as goal

pub unreachable-requires : goal.unreachable-requires
unreachable-requires c =
    let items = c.args.opened.now.places.items in
    let at = c.requires.there in
    elim c.in-Function.is as (λ _. ⊥) [
      | inl (s, is) ↦ let there = place_read items c.as_slice.result.now c.args.i _ _ _ c.as_slice.ensures.value at is in absurd cc
      | inr (inl (s, is)) ↦ let there = place_read items c.as_slice.result.now c.args.i _ _ _ c.as_slice.ensures.value at is in absurd cc
      | inr (inr (s, is)) ↦ let there = place_read items c.as_slice.result.now c.args.i _ _ _ c.as_slice.ensures.value at is in absurd cc
    ]

pub returns : goal.returns
returns c = place_read c.args.opened.now.places.items c.as_slice.result.now c.args.i _ _ _ c.as_slice.ensures.value c.requires.there c.in-Sums.is

use Rattle.std.proofs.Common.{◌≡◌, ◌+◌, ℕ, List, length, inl, inr, arith, ap, sym, subst, ◌∙◌}
use Rattle.std.specs.List.{range_with_len}
use Rattle.std.proofs.lemmas.List.{length-map}
use Rattle.std.proofs.lemmas.List.FromFn.{length-range_with_len}
use Rattle.sx_spec.specs.declared.Signature.{Signature}
use Rattle.sx_sig.specs.SignatureWords.{signature_at, signatures_at}
use Rattle.sx_sections.specs.Places.{IsCorrected}
use Rattle.sx_dump.specs.Viewing.{ReadsNumbers}
use Rattle.sx_dump.proofs.Sections.{place_read, signatures_are}
use Rattle.sx_dump.proofs.view.corrections_at.Goals as goal

-- as many signatures as are counted
signatures_count : (words : List ℕ) (body count : ℕ) → length (signatures_at words body count) ≡ count
signatures_count words body count = length-map (range_with_len 0 count) (signature_at words body) ∙ length-range_with_len 0 count

pub new-requires-clause-few : goal.new-requires-clause-few
new-requires-clause-few g c =
    let there = place_read c.args.opened.now.places.items c.as_slice.result.now c.args.i _ _ _ c.as_slice.ensures.value c.requires.corrections.there c.in-Corrections.is in
    (c.requires.opened.stand.corrections c.args.i c.in-Corrections.corrections there).few

pub new-requires-clause-within : goal.new-requires-clause-within
new-requires-clause-within g c =
    let words = g.B.WordBank.words_of c.args.bank in
    let there = place_read c.args.opened.now.places.items c.as_slice.result.now c.args.i _ _ _ c.as_slice.ensures.value c.requires.corrections.there c.in-Corrections.is in
    let stands : IsCorrected words c.in-Corrections.corrections = c.requires.opened.stand.corrections c.args.i c.in-Corrections.corrections there in
    omega (arith, stands.size, stands.within)

pub new-requires-clause-blocks : goal.new-requires-clause-blocks
new-requires-clause-blocks g c =
    let words = g.B.WordBank.words_of c.args.bank in
    let o = c.args.opened.now in
    let s = c.in-Corrections.corrections in
    let there = place_read o.places.items c.as_slice.result.now c.args.i _ _ _ c.as_slice.ensures.value c.requires.corrections.there c.in-Corrections.is in
    ap (λ (xs : List ℕ). length xs) c.requires.blocks.numbers ∙ c.requires.beside
    ∙ ap (λ (sigs : List Signature). length sigs) (sym (signatures_are words o.header o.places.items c.requires.opened c.args.i s there))
    ∙ signatures_count words s.body s.count

pub new-requires-clause-rising : goal.new-requires-clause-rising
new-requires-clause-rising g c =
    let there = place_read c.args.opened.now.places.items c.as_slice.result.now c.args.i _ _ _ c.as_slice.ensures.value c.requires.corrections.there c.in-Corrections.is in
    (c.requires.opened.stand.corrections c.args.i c.in-Corrections.corrections there).rising

pub unreachable-requires : goal.unreachable-requires
unreachable-requires g c =
    let items = c.args.opened.now.places.items in
    let at = c.requires.corrections.there in
    elim c.in-Function.is as (λ _. ⊥) [
      | inl (s, is) ↦ let there = place_read items c.as_slice.result.now c.args.i _ _ _ c.as_slice.ensures.value at is in absurd cc
      | inr (inl (s, is)) ↦ let there = place_read items c.as_slice.result.now c.args.i _ _ _ c.as_slice.ensures.value at is in absurd cc
      | inr (inr (s, is)) ↦ let there = place_read items c.as_slice.result.now c.args.i _ _ _ c.as_slice.ensures.value at is in absurd cc
    ]

pub returns : goal.returns
returns g c =
    let words = g.B.WordBank.words_of c.args.bank in
    let o = c.args.opened.now in
    let s = c.in-Corrections.corrections in
    let there = place_read o.places.items c.as_slice.result.now c.args.i _ _ _ c.as_slice.ensures.value c.requires.corrections.there c.in-Corrections.is in
    let made = c.new.ensures in
    let same = signatures_are words o.header o.places.items c.requires.opened c.args.i s there in
    record {
      signatures = (λ j. signatures_at (g.B.WordBank.words_of (made.bank j)) (made.first j) (made.count j)) ∙ same;
      count = made.count ∙ sym (signatures_count words s.body s.count) ∙ ap (λ (sigs : List Signature). length sigs) same;
      blocks = subst (λ p. ReadsNumbers words (c.args.i + 1) p) (sym made.blocks) c.requires.blocks;
    }

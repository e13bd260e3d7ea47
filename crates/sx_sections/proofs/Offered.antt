-- The checks of a header where a part of all dumps is offered.
use Rattle.std.proofs.Common.{◌≡◌, ℕ, ◌%◌, ◌^◌, Bool, true, false, List, [], ◌∷◌, length, Option, Some, None, Result, Ok, Err, ◌<◌, ◌≤◌, refl, sym, ap, subst, ◌∙◌}
use Rattle.std.specs.Prelude.{◌==◌, ◌&&◌, ◌||◌, nat_le, slice_index, drop, flat_map}
use Rattle.std.specs.Int.{is_in_range}
use Rattle.std.specs.List.{AllByRecursion}
use Rattle.std.proofs.lemmas.Bool.{and_parts, leb-true}
use Rattle.sx_spec_kinds.specs.declared.Kind.{Kind}
use Rattle.sx_spec_kinds.specs.declared.Kind.TheVariants.{Func, Lcp, Lcp2, Hollow, HollowDist, Zfast}
use Rattle.sx_spec_strings.specs.First.{first_failing}
use Rattle.sx_spec_strings.proofs.Lists.{all_true}
use Rattle.sx_spec.specs.Kinds.{uses_method, uses_buckets, uses_handles}
use Rattle.sx_spec.specs.Layout.{Dump, Header, Section, dump_with, header_of, kinds as all_kinds, magic, layout, opened, section_words, sections_in, slots, u32_max}
use Rattle.sx_spec.proofs.Reading.{all_dropped, header_back, sections_back}
use Rattle.sx_spec_program.specs.Offer.{Offer, opened_by}
use Rattle.sx_sections.specs.Headers.{file_checks}
use Rattle.sx_sections.specs.Offers.{checks_where, is_offered, offered_checks}
use Rattle.sx_sections.specs.Openings.{IsFile, opened_words, opened_words_by, sections_found}

and_true : (a : Bool) → (a && true) ≡ a
and_true true = refl
and_true false = refl

and_same : (a : Bool) → (a && a) ≡ a
and_same true = refl
and_same false = refl

-- every kind is one of all
every_kind : (kind : Kind) → is_offered all_kinds kind ≡ true
every_kind Func = refl
every_kind Lcp = refl
every_kind Lcp2 = refl
every_kind Hollow = refl
every_kind HollowDist = refl
every_kind Zfast = refl

module _ (words : List ℕ) (bytes : ℕ) where
  abbrev kind : Kind
  kind = (header_of words).plan.kind

  abbrev code_test : Bool
  code_test = nat_le (slice_index words 2) 5

  -- where all is offered, the checks are those of any dump
  pub all_offered : first_failing (checks_where all_kinds 64 words bytes) ≡ first_failing (file_checks words bytes)
  all_offered = λ i. first_failing (
      (1, bytes % 8 == 0 && is_in_range 80 (2 ^ 30) bytes)
      ∷ (2, slice_index words 0 == magic)
      ∷ (3, slice_index words 1 == length words)
      ∷ (4, (ap (λ (t : Bool). code_test && t) (every_kind kind) ∙ and_true code_test) i)
      ∷ (5, nat_le (slice_index words 3) 1 && (uses_method kind || slice_index words 3 == 0))
      ∷ (6, nat_le (slice_index words 4) u32_max)
      ∷ (7, nat_le (slice_index words 6) 192)
      ∷ (8, nat_le (slice_index words 7) 12 && (uses_buckets kind || slice_index words 7 == 0))
      ∷ (9, and_same (nat_le (slice_index words 8) 64) i)
      ∷ (10, nat_le (slice_index words 9) 64 && (uses_handles kind || slice_index words 9 == 0))
      ∷ [])

  -- the checks of an offer are those by its kinds and its width
  pub by_offer : (offer : Offer) (kinds : List Kind) (signed : ℕ) → offer.kinds ≡ kinds → offer.signed ≡ signed → first_failing (offered_checks offer words bytes) ≡ first_failing (checks_where kinds signed words bytes)
  by_offer offer kinds signed kinds_are signed_is = λ i. first_failing (
      (1, and_true (bytes % 8 == 0 && is_in_range 80 (2 ^ 30) bytes) i)
      ∷ (2, and_true (slice_index words 0 == magic) i)
      ∷ (3, and_true (slice_index words 1 == length words) i)
      ∷ (4, code_test && is_offered (kinds_are i) kind)
      ∷ (5, and_true (nat_le (slice_index words 3) 1 && (uses_method kind || slice_index words 3 == 0)) i)
      ∷ (6, and_true (nat_le (slice_index words 4) u32_max) i)
      ∷ (7, and_true (nat_le (slice_index words 6) 192) i)
      ∷ (8, and_true (nat_le (slice_index words 7) 12 && (uses_buckets kind || slice_index words 7 == 0)) i)
      ∷ (9, nat_le (slice_index words 8) 64 && nat_le (slice_index words 8) (signed_is i))
      ∷ (10, and_true (nat_le (slice_index words 9) 64 && (uses_handles kind || slice_index words 9 == 0)) i)
      ∷ [])

-- ---- by words alone

-- what words are opened as, by their first check that fails
abbrev after_header : List ℕ → Option ℕ → Result Dump ℕ
after_header words o = elim o [ Some check ↦ Err check | None ↦ sections_found words ]

pub header_fails : (words : List ℕ) (bytes check : ℕ) → Some check ≡ first_failing (file_checks words bytes) → opened_words words bytes ≡ Err check
header_fails words bytes check fails = ap (after_header words) (sym fails)

pub sections_tell : (words : List ℕ) (bytes : ℕ) (h : Header) (r : Result (List Section) ℕ) → None ≡ first_failing (file_checks words bytes) → h ≡ header_of words → sections_in (slots h) [] (drop 10 words) ≡ r → opened_words words bytes ≡ dump_with h r
sections_tell words bytes h r passes header found =
    ap (after_header words) (sym passes)
    ∙ (λ i. dump_with (sym header i) (sections_in (slots (sym header i)) [] (drop 10 words)))
    ∙ ap (dump_with h) found

abbrev after_offer : List ℕ → ℕ → Option ℕ → Result Dump ℕ
after_offer words bytes o = elim o [ Some check ↦ Err check | None ↦ opened_words words bytes ]

-- an offer's first check that fails, or what any dump is opened as
pub offer_tells : (words : List ℕ) (bytes : ℕ) (kinds : List Kind) (signed : ℕ) (o : Option ℕ) → o ≡ first_failing (checks_where kinds signed words bytes) → (offer : Offer) → offer.kinds ≡ kinds → offer.signed ≡ signed → opened_words_by offer words bytes ≡ after_offer words bytes o
offer_tells words bytes kinds signed o first offer kinds_are signed_is =
    ap (after_offer words bytes) (by_offer words bytes offer kinds signed kinds_are signed_is ∙ sym first)

-- where no check fails, the kind and the signed width are offered
pub kind_offered : (words : List ℕ) (bytes : ℕ) (kinds : List Kind) (signed : ℕ) (h : Header) → None ≡ first_failing (checks_where kinds signed words bytes) → h ≡ header_of words → is_offered kinds h.plan.kind ≡ true
kind_offered words bytes kinds signed h passes header =
    let rows = all_true (checks_where kinds signed words bytes) (sym passes) in
    ap (λ (g : Header). is_offered kinds g.plan.kind) header
    ∙ (and_parts (nat_le (slice_index words 2) 5) (is_offered kinds (header_of words).plan.kind) rows.1.1.1.0).1

pub signed_offered : (words : List ℕ) (bytes : ℕ) (kinds : List Kind) (signed : ℕ) (h : Header) → None ≡ first_failing (checks_where kinds signed words bytes) → h ≡ header_of words → h.plan.signed ≤ signed
signed_offered words bytes kinds signed h passes header =
    let rows = all_true (checks_where kinds signed words bytes) (sym passes) in
    let low : slice_index words 8 ≤ signed = leb-true (slice_index words 8) signed (and_parts (nat_le (slice_index words 8) 64) (nat_le (slice_index words 8) signed) rows.1.1.1.1.1.1.1.1.0).1 in
    subst (λ (g : Header). g.plan.signed ≤ signed) (sym header) low

-- ---- files

-- what words and a size are opened as, their file is
pub file_opened : (words : List ℕ) (bytes : ℕ) (r : Result Dump ℕ) → opened_words words bytes ≡ r → (file : List ℕ) → IsFile words bytes file → opened file ≡ r
file_opened words bytes r found file is = (λ i. opened_words (is.held i) (is.size i)) ∙ found

-- the same for an offer
pub file_opened_by : (words : List ℕ) (bytes : ℕ) (offer : Offer) (r : Result Dump ℕ) → opened_words_by offer words bytes ≡ r → (file : List ℕ) → IsFile words bytes file → opened_by offer file ≡ r
file_opened_by words bytes offer r found file is = (λ i. opened_words_by offer (is.held i) (is.size i)) ∙ found

-- ---- the layout

-- words that passed are the layout of the dump that they hold
pub laid_out : (words : List ℕ) (bytes : ℕ) (h : Header) (sections : List Section) → AllByRecursion (λ w. w < 2 ^ 64) words → None ≡ first_failing (file_checks words bytes) → 10 ≤ length words → h ≡ header_of words → sections_in (slots h) [] (drop 10 words) ≡ Ok sections → layout (record { header = h; sections = sections }) ≡ words
laid_out words bytes h sections small passes long header found =
    let checks = all_true (file_checks words bytes) (sym passes) in
    let read = ap (λ (g : Header). sections_in (slots g) [] (drop 10 words)) (sym header) ∙ found in
    let (xs, is, written) = sections_back (slots (header_of words)) [] sections (drop 10 words) (all_dropped (λ w. w < 2 ^ 64) 10 words small) read in
    ap (λ (g : Header). layout (record { header = g; sections = sections })) header
    ∙ header_back words sections long checks.1 (ap (flat_map section_words) is ∙ written)

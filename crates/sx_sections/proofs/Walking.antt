-- The sections of a dump, one more at a time.
use Rattle.std.proofs.Common.{◌≡◌, ℕ, suc, ◌+◌, ◌<◌, ◌≤◌, ◌^◌, List, [], ◌∷◌, ◌++◌, length, map, drop, Option, Some, None, Result, Err, refl, sym, ap, subst, ◌∙◌, arith, lit≤, get_or, drop-cons}
use Rattle.std.specs.Prelude.{◌==◌, nat_le, slice_index, unwrap_or}
use Rattle.std.specs.List.{AllByRecursion, last_or, range_with_len}
use Rattle.std.proofs.lemmas.Bool.{and_parts, eqb-true, leb-true}
use Rattle.std.proofs.lemmas.List.{drop-drop, length-map, map-append}
use Rattle.std.proofs.lemmas.List.FromFn.{length-range_with_len}
use Rattle.sx_spec_strings.specs.First.{first_failing}
use Rattle.sx_spec_strings.proofs.Lists.{all_true}
use Rattle.sx_spec.specs.Fields.{fields, ones_of, upper_bits, words_number, low_width}
use Rattle.sx_spec.specs.Layout.{Header, Section, SectionRule as RuleOf, function_of, list_of, sums_of, corrections_of, function_checks, list_checks, last_section, section_checks, section_count, section_of, section_size, section_width, sections_in, slots, sums_section}
use Rattle.sx_ef.specs.Parts.{low_part, upper_part}
use Rattle.sx_ef.proofs.Numbers.{length-sums}
use Rattle.sx_fields.proofs.Places.{length-fields}
use Rattle.sx_sections.specs.declared.place.Place.{Place}
use Rattle.sx_sections.specs.declared.place.Place.TheVariants.{Function, List as ListPlace, Sums, Corrections}
use Rattle.sx_sections.specs.declared.rule.SectionRule.{SectionRule}
use Rattle.sx_sections.specs.declared.rule.SectionRule.TheVariants.{Function as FunctionRule, List as ListRule, Sums as SumsRule, Corrections as CorrectionsRule}
use Rattle.sx_sections.specs.declared.rule.Slot.{Slot}
use Rattle.sx_sections.specs.declared.rule.SlotRule.{SlotRule}
use Rattle.sx_sections.specs.declared.rule.SlotRule.TheVariants.{Always, Coded, Matching}
use Rattle.sx_sections.specs.Places.{IsFound, Stands, front_size, place_after, place_body, place_count, place_width, section_at}
use Rattle.sx_sections.specs.Rules.{AreBounded, IsBoundedAfter, greatest_width, rule_after, rule_as, slot_as}
use Rattle.sx_sections.specs.Walks.{AreFoundSoFar, AreInRow}

-- ---- what a place says of its section

-- the numbers of a list in the words are as many as it says
count_of : (words : List ℕ) (p : Place) → Stands words p → section_count (section_at words p) ≡ place_count p
count_of words (Function s) stands = refl
count_of words (ListPlace s) stands = length-fields s.width s.count (drop s.body words)
count_of words (Sums s) stands =
    let body = drop s.body words in
    let l = low_width s.count s.below in
    let ones = ones_of (upper_bits s.count s.below) (words_number (upper_part s.count s.below body)) in
    let lows = fields l s.count (low_part s.count s.below body) in
    let many = length-fields l s.count (low_part s.count s.below body) in
    let a = and_parts _ _ stands.valid in
    let b = and_parts _ _ a.1 in
    let as_many : length ones ≡ s.count = eqb-true (length ones) s.count (and_parts (length ones == s.count) _ b.1).0 in
    length-sums 0 l ones lows (omega arith) ∙ as_many
count_of words (Corrections s) stands = length-map (range_with_len 0 s.count) _ ∙ length-range_with_len 0 s.count

width_of : (words : List ℕ) (p : Place) → section_width (section_at words p) ≡ place_width p
width_of words (Function s) = refl
width_of words (ListPlace s) = refl
width_of words (Sums s) = refl
width_of words (Corrections s) = refl

few_of : (words : List ℕ) (p : Place) → Stands words p → place_count p < 2 ^ 32
few_of words (Function s) stands = stands.few
few_of words (ListPlace s) stands = stands.few
few_of words (Sums s) stands = stands.few
few_of words (Corrections s) stands = stands.few

-- the greatest width by a rule
abbrev rule_width : RuleOf → ℕ
rule_width (function_of least most low high) = high
rule_width (list_of least most low high) = high
rule_width (sums_of count) = 64
rule_width (corrections_of most) = 64

-- a section that passed is no wider than its rule lets it be
narrow : (rule : RuleOf) (words : List ℕ) → first_failing (section_checks rule words) ≡ None → section_width (section_of rule words) ≤ rule_width rule
narrow (function_of least most low high) words passes =
    let rows = all_true (function_checks least most low high words) passes in
    leb-true (slice_index words 0) high (and_parts (nat_le low (slice_index words 0)) _ rows.1.1.0).1
narrow (list_of least most low high) words passes =
    let rows = all_true (list_checks least most low high words) passes in
    leb-true (slice_index words 1) high (and_parts (nat_le low (slice_index words 1)) _ rows.1.1.0).1
narrow (sums_of count) words passes = lit≤ tt
narrow (corrections_of most) words passes = lit≤ tt

widths_agree : (rule : SlotRule) (before : List Section) → rule_width (rule_after rule before) ≡ greatest_width rule
widths_agree (Always (FunctionRule b)) before = refl
widths_agree (Always (ListRule b)) before = refl
widths_agree (Always (SumsRule count)) before = refl
widths_agree (Always (CorrectionsRule most)) before = refl
widths_agree Coded before = refl
widths_agree Matching before = refl

-- ---- bounds

-- slots that are bounded after a wide section are after a narrow one
narrower_rule : (wide narrow : ℕ) (rule : SlotRule) → narrow ≤ wide → IsBoundedAfter wide rule → IsBoundedAfter narrow rule
narrower_rule wide narrow (Always rule) le bounded = bounded
narrower_rule wide narrow Coded le bounded = let b : wide ≤ 32 = bounded in omega arith
narrower_rule wide narrow Matching le bounded = tt

narrower : (wide narrow : ℕ) (left : List Slot) → narrow ≤ wide → AreBounded wide left → AreBounded narrow left
narrower wide narrow [] le bounded = tt
narrower wide narrow (s ∷ left) le bounded = (narrower_rule wide narrow s.rule le bounded.0, bounded.1)

-- ---- one more

last_pushed : (xs : List Section) (x : Section) → last_section (xs ++ x ∷ []) ≡ x
last_pushed [] x = refl
last_pushed (y ∷ xs) x = pushed (Some y) xs x
  where
    pushed : (o : Option Section) (xs : List Section) (x : Section) → unwrap_or (last_or o (xs ++ x ∷ [])) (sums_section []) ≡ x
    pushed o [] x = refl
    pushed o (y ∷ xs) x = pushed (Some y) xs x

all_pushed : (words : List ℕ) (places : List Place) (p : Place) → AllByRecursion (Stands words) places → Stands words p → AllByRecursion (Stands words) (places ++ p ∷ [])
all_pushed words [] p all stands = (stands, tt)
all_pushed words (q ∷ places) p all stands = (all.0, all_pushed words places p all.1 stands)

row_pushed : (from at : ℕ) (places : List Place) (p : Place) → AreInRow from places at → place_body p ≡ at + front_size p → AreInRow from (places ++ p ∷ []) (place_after p)
row_pushed from at [] p row begins = (begins ∙ ap (λ n. n + front_size p) (sym row), refl)
row_pushed from at (q ∷ places) p row begins = (row.0, row_pushed (place_after q) at places p row.1 begins)

module _ (h : Header) (words : List ℕ) (places : List Place) (s : Slot) (left : List Slot) (at width count : ℕ) (so_far : AreFoundSoFar h words places (s ∷ left) at width count) (rule : SectionRule)
    (follows : (before : List Section) → section_width (last_section before) ≡ width → section_count (last_section before) ≡ count → rule_as rule ≡ rule_after s.rule before) where
  abbrev before : List Section
  before = map (section_at words) places

  rule_is : rule_as rule ≡ rule_after s.rule before
  rule_is = follows before so_far.width_is so_far.count_is

  abbrev goes : RuleOf → Option ℕ → Result (List Section) ℕ
  goes r o = elim o [
    | Some check ↦ Err check
    | None ↦ sections_in (map slot_as left) (before ++ section_of r (drop at words) ∷ []) (drop (section_size r (drop at words)) (drop at words))
  ]

  read_as : sections_in (slots h) [] (drop 10 words) ≡ goes (rule_as rule) (first_failing (section_checks (rule_as rule) (drop at words)))
  read_as = so_far.sections ∙ (λ i. goes (sym rule_is i) (first_failing (section_checks (sym rule_is i) (drop at words))))

  -- the next section stands
  pub next_found : (p : Place) → IsFound (rule_as rule) words at p → AreFoundSoFar h words (places ++ p ∷ []) left (place_after p) (place_width p) (place_count p)
  next_found p found =
      let pushed : before ++ section_at words p ∷ [] ≡ map (section_at words) (places ++ p ∷ []) = sym (map-append (section_at words) places (p ∷ [])) in
      let last : last_section (map (section_at words) (places ++ p ∷ [])) ≡ section_at words p = ap last_section (sym pushed) ∙ last_pushed before (section_at words p) in
      let wide : section_width (section_of (rule_as rule) (drop at words)) ≤ rule_width (rule_as rule) = narrow (rule_as rule) (drop at words) found.passes in
      let within : place_width p ≤ greatest_width s.rule =
      subst (λ (n : ℕ). place_width p ≤ n) (ap rule_width rule_is ∙ widths_agree s.rule before)
      (subst (λ (n : ℕ). n ≤ rule_width (rule_as rule)) (ap section_width found.section ∙ width_of words p) wide) in
      record {
        sections =
            read_as
            ∙ ap (goes (rule_as rule)) found.passes
            ∙ (λ i. sections_in (map slot_as left) (before ++ found.section i ∷ []) (drop-drop (section_size (rule_as rule) (drop at words)) at words i))
            ∙ (λ i. sections_in (map slot_as left) (pushed i) (drop (sym found.after i) words));
        stand = all_pushed words places p so_far.stand found.stands;
        row = row_pushed 10 at places p so_far.row found.begins;
        within = found.within;
        width_is = ap section_width last ∙ width_of words p;
        count_is = ap section_count last ∙ count_of words p found.stands;
        few = few_of words p found.stands;
        bounded = narrower (greatest_width s.rule) (place_width p) left within so_far.bounded.1;
      }

-- ---- a turn of the loop

-- one more section of those in the slots from slot i on
pub turned : (h : Header) (words : List ℕ) (places pushed : List Place) (items : List Slot) (i at width count after wide many : ℕ) (blank : Slot) (rule : SectionRule) (p : Place) → i < length items → AreFoundSoFar h words places (drop i items) at width count
    → ((before : List Section) → section_width (last_section before) ≡ width → section_count (last_section before) ≡ count → rule_as rule ≡ rule_after (get_or items i blank).rule before)
    → IsFound (rule_as rule) words at p → pushed ≡ places ++ p ∷ [] → after ≡ place_after p → wide ≡ place_width p → many ≡ place_count p
    → AreFoundSoFar h words pushed (drop (i + 1) items) after wide many
turned h words places pushed items i at width count after wide many blank rule p more so_far follows found pushed_is after_is wide_is many_is =
    let first : drop i items ≡ get_or items i blank ∷ drop (suc i) items = drop-cons items i blank more in
    let next : suc i ≡ i + 1 = omega arith in
    let here = subst (λ (left : List Slot). AreFoundSoFar h words places left at width count) first so_far in
    let there = next_found h words places (get_or items i blank) (drop (suc i) items) at width count here rule follows p found in
    subst (λ (t : List Place × ℕ × ℕ × ℕ × ℕ). AreFoundSoFar h words t.0 (drop t.1 items) t.2 t.3 t.4)
    (λ t. (sym pushed_is t, next t, sym after_is t, sym wide_is t, sym many_is t)) there

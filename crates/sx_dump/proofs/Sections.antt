-- Which sections the words of a dump hold, by its kind, and where they stand.
use Rattle.std.proofs.Common.{◌≡◌, ℕ, zero, suc, ◌+◌, ◌-◌, ◌^◌, ◌<◌, ◌≤◌, ◌≢◌, Bool, true, false, List, [], ◌∷◌, ◌++◌, length, map, drop, codes, Option, Some, None, Result, Ok, Err, refl, sym, ap, subst, ◌∙◌, arith, append_assoc, append-nil}
use Rattle.std.specs.Prelude.{◌==◌, ⊤, min, nat_le, slice_get, slice_index, slice_index_or, unwrap_or, if◌then◌else◌}
use Rattle.std.specs.Int.{is_in_range}
use Rattle.std.specs.List.{last_or}
use Rattle.std.specs.Result.{result_unwrap_or}
use Rattle.std.proofs.lemmas.Bool.{and_parts, eqb-true, leb-true, ne_eqb}
use Rattle.std.proofs.lemmas.List.{length-append, length-map}
use Rattle.std.proofs.lemmas.Option.{get_or_from_slice_get}
use Rattle.sx_ef.proofs.Numbers.{length-sums}
use Rattle.sx_ef.specs.declared.section.Sums.{Sums as SumsPlace}
use Rattle.sx_fields.specs.declared.section.Section.{Section as Packed}
use Rattle.sx_fields.proofs.Places.{length-fields}
use Rattle.sx_spec_kinds.specs.declared.Kind.{Kind}
use Rattle.sx_spec_kinds.specs.declared.Kind.TheVariants.{Func, Lcp, Lcp2, Hollow, HollowDist, Zfast}
use Rattle.sx_spec_strings.specs.First.{first_failing}
use Rattle.sx_spec.specs.Kinds.{bucket_count, delimiter_count, handle_count, inner_count}
use Rattle.sx_spec.specs.Layout.{Header as HeaderOf, Section, SectionRule, Slot, are_sums, corrections_of, corrections_section, exact_list, function_checks, function_of, function_section, header_of, item_words, kind_slots, last_section, list_checks, list_of, list_section, section_checks, section_count, section_of, section_size, section_width, sections_in, slots, sums_checks, sums_low, sums_numbers, sums_of, sums_section, sums_upper, sums_upper_bits, u32_max}
use Rattle.sx_spec.specs.Reply.{function_in, kept_numbers, numbers_in, section_at as section_of_dump, signatures_in}
use Rattle.sx_spec_strings.proofs.Lists.{all_true}
use Rattle.sx_static.specs.Viewing.{viewed}
use Rattle.sx_spec.specs.Fields.{fields, low_width, ones_of, words_number}
use Rattle.sx_sections.specs.declared.header.Header.{Header}
use Rattle.sx_sections.specs.declared.place.CorrectionsPlace.{CorrectionsPlace}
use Rattle.sx_sections.specs.declared.place.Place.{Place}
use Rattle.sx_sections.specs.declared.place.Place.TheVariants.{Function, List as ListPlace, Sums, Corrections}
use Rattle.sx_sections.specs.Places.{section_at}
use Rattle.sx_sig.specs.SignatureWords.{signatures_at}
use Rattle.sx_dump.specs.Opening.{IsCorrectionsAt, IsFunctionAt, IsListAt, IsOpened, IsSumsAt, dump_in, sections_read}
use Rattle.sx_dump.specs.Showing.{sums_read}

-- ---- lists

-- a front keeps its elements
get_front : {X : Type 0} (xs ys : List X) (i : ℕ) (x : X) → slice_get xs i ≡ Some x → slice_get (xs ++ ys) i ≡ Some x
get_front [] ys i x there = absurd cc
get_front (y ∷ xs) ys zero x there = there
get_front (y ∷ xs) ys (suc i) x there = get_front xs ys i x there

-- an element that is mapped
map_at : {X Y : Type 0} (f : X → Y) (xs : List X) (i : ℕ) (x : X) (d : Y) → slice_get xs i ≡ Some x → slice_index_or (map f xs) i d ≡ f x
map_at f [] i x d there = absurd cc
map_at f (y ∷ xs) zero x d there = let same : y ≡ x = cc in ap f same
map_at f (y ∷ xs) (suc i) x d there = map_at f xs i x d there

-- the last of the elements
get_last : {X : Type 0} (xs : List X) (x : X) → slice_get (xs ++ x ∷ []) (length xs) ≡ Some x
get_last [] x = refl
get_last (y ∷ xs) x = get_last xs x

-- the last of the sections so far
last_is : (xs : List Section) (n : ℕ) → length xs ≡ n + 1 → slice_index_or xs n (sums_section []) ≡ last_section xs
last_is [] n many = absurd (omega arith)
last_is (x ∷ xs) n many =
    let place : n ≡ length xs = omega arith in
    ap (λ (k : ℕ). slice_index_or (x ∷ xs) k (sums_section [])) place ∙ after x xs
  where
    after : (y : Section) (ys : List Section) → slice_index_or (y ∷ ys) (length ys) (sums_section []) ≡ unwrap_or (last_or (Some y) ys) (sums_section [])
    after y [] = refl
    after y (z ∷ zs) = after z zs

-- ---- a section by its rule

-- a number between two
abbrev pub IsBetween : (low high n : ℕ) → Type 0
IsBetween low high n = (low ≤ n) × (n ≤ high)

-- the section is of the rule's sort, and so are its count and its width
abbrev pub FitsRule : SectionRule → Section → Type 0
FitsRule (function_of least most low high) (function_section f) = IsBetween least most f.pairs × IsBetween low high f.width
FitsRule (list_of least most low high) (list_section width items) = IsBetween least most (length items) × IsBetween low high width
FitsRule (sums_of count) (sums_section items) = length items ≡ count
FitsRule (corrections_of most) (corrections_section sigs) = ⊤
FitsRule _ _ = ⊥

between : (low high n : ℕ) → is_in_range low high n ≡ true → IsBetween low high n
between low high n test =
    let both = and_parts (nat_le low n) (nat_le n high) test in
    (leb-true low n both.0, leb-true n high both.1)

-- Elias-Fano lists that pass have as many numbers as they say
sums_count : (words : List ℕ) → are_sums words ≡ true → length (sums_numbers words) ≡ slice_index words 0
sums_count words passes =
    let count = slice_index words 0 in
    let l = low_width count (slice_index words 1) in
    let ones = ones_of (sums_upper_bits words) (words_number (sums_upper words)) in
    let lows = fields l count (sums_low words) in
    let many : length ones ≡ count = eqb-true (length ones) count (and_parts (length ones == count) _ passes).0 in
    let size : length lows ≡ count = length-fields l count (sums_low words) in
    length-sums 0 l ones lows (omega arith) ∙ many

-- a section that passed its checks fits its rule
rule_fits : (rule : SectionRule) (words : List ℕ) → first_failing (section_checks rule words) ≡ None → FitsRule rule (section_of rule words)
rule_fits (function_of least most low high) words passes =
    let rows = all_true (function_checks least most low high words) passes in
    (between least most (slice_index words 1) rows.1.0, between low high (slice_index words 0) rows.1.1.0)
rule_fits (list_of least most low high) words passes =
    let rows = all_true (list_checks least most low high words) passes in
    let many : length (fields (slice_index words 1) (slice_index words 0) (item_words words)) ≡ slice_index words 0 = length-fields (slice_index words 1) (slice_index words 0) (item_words words) in
    (subst (IsBetween least most) (sym many) (between least most (slice_index words 0) rows.1.0), between low high (slice_index words 1) rows.1.1.0)
rule_fits (sums_of count) words passes =
    let rows = all_true (sums_checks count words) passes in
    sums_count words rows.1.1.1.1.1.0 ∙ eqb-true (slice_index words 0) count rows.1.0
rule_fits (corrections_of most) words passes = tt

-- ---- sections by their slots

-- the sections after those before fit the slots, one each
abbrev pub FitSlots : List Slot → (before found : List Section) → Type 0
FitSlots [] before found = found ≡ []
FitSlots (slot ∷ rest) before [] = ⊥
FitSlots (slot ∷ rest) before (x ∷ found) = FitsRule (slot.rule before) x × FitSlots rest (before ++ x ∷ []) found

-- the sections that are found are those before, and others that fit the slots
pub record AreMore (left : List Slot) (before found : List Section) : Type 0 where
  pub more : List Section
  pub split : found ≡ before ++ more
  pub fit : FitSlots left before more

at_end : (t : Bool) (before found : List Section) → (let r : Result (List Section) ℕ = if t then Ok before else Err 18 in r) ≡ Ok found → AreMore [] before found
at_end true before found read = record { more = []; split = (let same : before ≡ found = cc in sym same) ∙ sym (append-nil before); fit = refl }
at_end false before found read = absurd cc

-- one more section was found, where the first check of it that fails is this
one_more : (slot : Slot) (rest : List Slot) (before found : List Section) (words : List ℕ) (o : Option ℕ) → first_failing (section_checks (slot.rule before) words) ≡ o
    → (elim o as (λ _. Result (List Section) ℕ) [ Some check ↦ Err check | None ↦ sections_in rest (before ++ section_of (slot.rule before) words ∷ []) (drop (section_size (slot.rule before) words) words) ]) ≡ Ok found
    → (sections_in rest (before ++ section_of (slot.rule before) words ∷ []) (drop (section_size (slot.rule before) words) words) ≡ Ok found → AreMore rest (before ++ section_of (slot.rule before) words ∷ []) found)
    → AreMore (slot ∷ rest) before found
one_more slot rest before found words (Some check) first read go_on = absurd cc
one_more slot rest before found words None first read go_on =
    let x = section_of (slot.rule before) words in
    let others = go_on read in
    record {
      more = x ∷ others.more;
      split = others.split ∙ append_assoc before (x ∷ []) others.more;
      fit = (rule_fits (slot.rule before) words first, others.fit);
    }

-- the sections that are found in slots fit them
pub slots_fit : (left : List Slot) (before found : List Section) (words : List ℕ) → sections_in left before words ≡ Ok found → AreMore left before found
slots_fit [] before found words read = at_end (length words == 0) before found read
slots_fit (slot ∷ rest) before found words read =
    one_more slot rest before found words (first_failing (section_checks (slot.rule before) words)) refl read
    (λ after. slots_fit rest (before ++ section_of (slot.rule before) words ∷ []) found (drop (section_size (slot.rule before) words) words) after)

-- as many as the slots
pub fit_count : (left : List Slot) (before found : List Section) → FitSlots left before found → length found ≡ length left
fit_count [] before found fit = ap (λ (xs : List Section). length xs) fit
fit_count (slot ∷ rest) before [] fit = absurd fit
fit_count (slot ∷ rest) before (x ∷ found) fit = let more = fit_count rest (before ++ x ∷ []) found fit.1 in omega arith

-- the one in slot i fits the rule there
fit_at : (P : Section → Type 0) (left : List Slot) (before found : List Section) (i : ℕ) (slot : Slot) (d : Section) → FitSlots left before found → slice_get left i ≡ Some slot
    → ((b : List Section) (x : Section) → FitsRule (slot.rule b) x → P x) → P (slice_index_or found i d)
fit_at P [] before found i slot d fit there gives = absurd cc
fit_at P (s ∷ rest) before [] i slot d fit there gives = absurd fit
fit_at P (s ∷ rest) before (x ∷ found) zero slot d fit there gives =
    let same : s ≡ slot = cc in
    gives before x (subst (λ (t : Slot). FitsRule (t.rule before) x) same fit.0)
fit_at P (s ∷ rest) before (x ∷ found) (suc i) slot d fit there gives = fit_at P rest (before ++ x ∷ []) found i slot d fit.1 there gives

-- the first of them
fit_first : (P : Section → Type 0) (left : List Slot) (before found : List Section) (slot : Slot) (d : Section) → FitSlots left before found → slice_get left 0 ≡ Some slot
    → ((x : Section) → FitsRule (slot.rule before) x → P x) → P (slice_index_or found 0 d)
fit_first P [] before found slot d fit there gives = absurd cc
fit_first P (s ∷ rest) before [] slot d fit there gives = absurd fit
fit_first P (s ∷ rest) before (x ∷ found) slot d fit there gives =
    let same : s ≡ slot = cc in
    gives x (subst (λ (t : Slot). FitsRule (t.rule before) x) same fit.0)

-- the one behind slot i, where the rule goes by the section before it
fit_next : (P : Section → Section → Type 0) (left : List Slot) (before found : List Section) (i : ℕ) (slot : Slot) (d : Section) → FitSlots left before found → slice_get left (suc i) ≡ Some slot
    → ((b : List Section) (y x : Section) → FitsRule (slot.rule (b ++ y ∷ [])) x → P y x) → P (slice_index_or found i d) (slice_index_or found (suc i) d)
fit_next P [] before found i slot d fit there gives = absurd cc
fit_next P (s ∷ rest) before [] i slot d fit there gives = absurd fit
fit_next P (s ∷ rest) before (y ∷ found) zero slot d fit there gives = fit_first (P y) rest (before ++ y ∷ []) found slot d fit.1 there (gives before y)
fit_next P (s ∷ rest) before (y ∷ found) (suc i) slot d fit there gives = fit_next P rest (before ++ y ∷ []) found i slot d fit.1 there gives

-- the section before it is the last one
last_put : (o : Option Section) (b : List Section) (y : Section) → last_or o (b ++ y ∷ []) ≡ Some y
last_put o [] y = refl
last_put o (x ∷ b) y = last_put (Some x) b y

-- ---- a section by its sort

-- a function of a count and a width between two
abbrev pub IsFunctionOf : (least most low high : ℕ) → Section → Type 0
IsFunctionOf least most low high x = FitsRule (function_of least most low high) x

-- a packed list of so wide numbers at most
abbrev pub IsNarrowList : ℕ → Section → Type 0
IsNarrowList high (list_section width items) = width ≤ high
IsNarrowList high _ = ⊥

-- an Elias-Fano list of so many numbers
abbrev pub IsSumsOf : ℕ → Section → Type 0
IsSumsOf count x = FitsRule (sums_of count) x

sums_length : (count : ℕ) (x : Section) → IsSumsOf count x → length (numbers_in x) ≡ count
sums_length count (function_section f) fit = absurd fit
sums_length count (list_section width items) fit = absurd fit
sums_length count (sums_section items) fit = fit
sums_length count (corrections_section sigs) fit = absurd fit

narrow_list : (least most low high : ℕ) (x : Section) → FitsRule (list_of least most low high) x → IsNarrowList high x
narrow_list least most low high (function_section f) fit = absurd fit
narrow_list least most low high (list_section width items) fit = fit.1.1
narrow_list least most low high (sums_section items) fit = absurd fit
narrow_list least most low high (corrections_section sigs) fit = absurd fit

-- a packed list of so many numbers of so many bits
abbrev pub IsListOf : (count width : ℕ) → Section → Type 0
IsListOf count width x = FitsRule (list_of count count width width) x

list_width : (count width : ℕ) (x : Section) → IsListOf count width x → section_width x ≡ width
list_width count width (function_section f) fit = absurd fit
list_width count width (list_section w items) fit = let low = fit.1.0 in let high = fit.1.1 in omega arith
list_width count width (sums_section items) fit = absurd fit
list_width count width (corrections_section sigs) fit = absurd fit

-- the numbers of the list in a section
list_bounds : (least most low high : ℕ) (x : Section) → FitsRule (list_of least most low high) x → IsBetween least most (length (numbers_in x)) × IsBetween low high (section_width x)
list_bounds least most low high (function_section f) fit = absurd fit
list_bounds least most low high (list_section width items) fit = fit
list_bounds least most low high (sums_section items) fit = absurd fit
list_bounds least most low high (corrections_section sigs) fit = absurd fit

-- signatures, with as many numbers beside them
abbrev pub AreCorrections : Section → Section → Type 0
AreCorrections (corrections_section sigs) x = FitsRule (list_of (length sigs) (length sigs) 0 32) x
AreCorrections _ x = ⊥

corrections_beside : (y x : Section) → AreCorrections y x → FitsRule (list_of (length (signatures_in y)) (length (signatures_in y)) 0 32) x
corrections_beside (function_section f) x fit = absurd fit
corrections_beside (list_section width items) x fit = absurd fit
corrections_beside (sums_section items) x fit = absurd fit
corrections_beside (corrections_section sigs) x fit = fit

are_corrections : (most : ℕ) (y x : Section) → FitsRule (corrections_of most) y → FitsRule (list_of (section_count y) (section_count y) 0 32) x → AreCorrections y x
are_corrections most (function_section f) x fit beside = absurd fit
are_corrections most (list_section width items) x fit beside = absurd fit
are_corrections most (sums_section items) x fit beside = absurd fit
are_corrections most (corrections_section sigs) x fit beside = beside

-- the numbers of the function in a section
function_bounds : (least most low high : ℕ) (x : Section) → IsFunctionOf least most low high x → IsBetween least most (function_in x).pairs × IsBetween low high (function_in x).width
function_bounds least most low high (function_section f) fit = fit
function_bounds least most low high (list_section width items) fit = absurd fit
function_bounds least most low high (sums_section items) fit = absurd fit
function_bounds least most low high (corrections_section sigs) fit = absurd fit

-- ---- places by their sort

-- where a function stands
function_place : (words : List ℕ) (places : List Place) (i least most low high : ℕ) → IsFunctionOf least most low high (slice_index_or (map (section_at words) places) i (sums_section [])) → IsFunctionAt places i
function_place words [] i least most low high fit = absurd fit
function_place words (Function s ∷ places) zero least most low high fit = record { section = s; there = refl }
function_place words (ListPlace s ∷ places) zero least most low high fit = absurd fit
function_place words (Sums s ∷ places) zero least most low high fit = absurd fit
function_place words (Corrections s ∷ places) zero least most low high fit = absurd fit
function_place words (p ∷ places) (suc i) least most low high fit =
    let later = function_place words places i least most low high fit in
    record { section = later.section; there = later.there }

-- where a packed list stands
list_place : (words : List ℕ) (places : List Place) (i high : ℕ) → IsNarrowList high (slice_index_or (map (section_at words) places) i (sums_section [])) → IsListAt places i
list_place words [] i high fit = absurd fit
list_place words (Function s ∷ places) zero high fit = absurd fit
list_place words (ListPlace s ∷ places) zero high fit = record { section = s; there = refl }
list_place words (Sums s ∷ places) zero high fit = absurd fit
list_place words (Corrections s ∷ places) zero high fit = absurd fit
list_place words (p ∷ places) (suc i) high fit =
    let later = list_place words places i high fit in
    record { section = later.section; there = later.there }

-- where an Elias-Fano list of some numbers stands
sums_place : (words : List ℕ) (places : List Place) (i count : ℕ) → 0 < count → IsSumsOf count (slice_index_or (map (section_at words) places) i (sums_section [])) → IsSumsAt places i
sums_place words [] i count some fit = absurd (let none : 0 ≡ count = fit in omega arith)
sums_place words (Function s ∷ places) zero count some fit = absurd fit
sums_place words (ListPlace s ∷ places) zero count some fit = absurd fit
sums_place words (Sums s ∷ places) zero count some fit = record { section = s; there = refl }
sums_place words (Corrections s ∷ places) zero count some fit = absurd fit
sums_place words (p ∷ places) (suc i) count some fit =
    let later = sums_place words places i count some fit in
    record { section = later.section; there = later.there }

-- where signatures stand
corrections_place : (words : List ℕ) (places : List Place) (i : ℕ) (x : Section) → AreCorrections (slice_index_or (map (section_at words) places) i (sums_section [])) x → IsCorrectionsAt places i
corrections_place words [] i x fit = absurd fit
corrections_place words (Function s ∷ places) zero x fit = absurd fit
corrections_place words (ListPlace s ∷ places) zero x fit = absurd fit
corrections_place words (Sums s ∷ places) zero x fit = absurd fit
corrections_place words (Corrections s ∷ places) zero x fit = record { section = s; there = refl }
corrections_place words (p ∷ places) (suc i) x fit =
    let later = corrections_place words places i x fit in
    record { section = later.section; there = later.there }

-- what was read of a place
pub place_read : (places read : List Place) (i : ℕ) (p q d : Place) → read ≡ places → slice_get places i ≡ Some p → slice_index_or read i d ≡ q → slice_get places i ≡ Some q
place_read places read i p q d same there is =
    there ∙ ap (λ (x : Place). Some x) (sym (get_or_from_slice_get places i p d there) ∙ ap (λ (l : List Place). slice_index_or l i d) (sym same) ∙ is)

-- ---- the dump in words that were opened

module _ (words : List ℕ) (h : Header) (places : List Place) (is : IsOpened words h places) where
  abbrev head : HeaderOf
  head = header_of words

  abbrev found : List Section
  found = map (section_at words) places

  -- its sections are those at the places
  pub sections_are : (dump_in words).sections ≡ found
  sections_are = ap (λ (r : Result (List Section) ℕ). result_unwrap_or r []) is.sections

  -- and fit the slots
  pub sections_fit : FitSlots (slots head) [] found
  unfolding sections_read
  sections_fit =
      let all = slots_fit (slots head) [] found (drop 10 words) is.sections in
      subst (FitSlots (slots head) []) (sym all.split) all.fit

  -- one for each slot
  pub places_count : length places ≡ length (slots head)
  places_count = sym (length-map places (section_at words)) ∙ fit_count (slots head) [] found sections_fit

  -- section i is that at place i
  pub section_is : (i : ℕ) (p : Place) → slice_get places i ≡ Some p → section_of_dump (dump_in words) i ≡ section_at words p
  section_is i p there =
      ap (λ (xs : List Section). slice_index_or xs i (sums_section [])) sections_are
      ∙ map_at (section_at words) places i p (sums_section []) there

  -- a function there is that of section i
  pub function_is : (i : ℕ) (s : Packed) → slice_get places i ≡ Some (Function s) → viewed words s.body s.width s.count ≡ function_in (section_of_dump (dump_in words) i)
  function_is i s there = sym (ap function_in (section_is i (Function s) there))

  -- the numbers of a list there are those of section i
  pub numbers_are : (i : ℕ) (s : Packed) → slice_get places i ≡ Some (ListPlace s) → fields s.width s.count (drop s.body words) ≡ numbers_in (section_of_dump (dump_in words) i)
  numbers_are i s there = sym (ap numbers_in (section_is i (ListPlace s) there))

  -- and they are as wide
  pub width_is : (i : ℕ) (s : Packed) → slice_get places i ≡ Some (ListPlace s) → s.width ≡ section_width (section_of_dump (dump_in words) i)
  width_is i s there = sym (ap section_width (section_is i (ListPlace s) there))

  -- the numbers of an Elias-Fano list there are those of section i
  pub sums_are : (i : ℕ) (s : SumsPlace) → slice_get places i ≡ Some (Sums s) → sums_read words s ≡ numbers_in (section_of_dump (dump_in words) i)
  sums_are i s there = sym (ap numbers_in (section_is i (Sums s) there))

  -- the signatures there are those of section i
  pub signatures_are : (i : ℕ) (s : CorrectionsPlace) → slice_get places i ≡ Some (Corrections s) → signatures_at words s.body s.count ≡ signatures_in (section_of_dump (dump_in words) i)
  signatures_are i s there = sym (ap signatures_in (section_is i (Corrections s) there))

  -- the kind is that of the words
  pub kind_is : (kind : Kind) → h.plan.kind ≡ kind → head.plan.kind ≡ kind
  kind_is kind same = ap (λ (g : HeaderOf). g.plan.kind) is.header ∙ same

  -- what the slot of a kind gives of its section
  slot_gives : (P : Section → Type 0) (kind : Kind) (i : ℕ) (slot : Slot) → head.plan.kind ≡ kind → slice_get (kind_slots kind head) i ≡ Some slot
      → ((b : List Section) (x : Section) → FitsRule (slot.rule b) x → P x) → P (slice_index_or found i (sums_section []))
  slot_gives P kind i slot same there gives =
      let kept : List Slot = (if head.plan.signed == 0 then [] else exact_list (codes "signatures") head.keys head.plan.signed head.plan.signed ∷ []) in
      let here : slice_get (kind_slots head.plan.kind head) i ≡ Some slot = ap (λ (k : Kind). slice_get (kind_slots k head) i) (same) ∙ there in
      fit_at P (slots head) [] found i slot (sums_section []) sections_fit (get_front (kind_slots head.plan.kind head) kept i slot here) gives

  -- the slot of a kind for a function
  function_in_slot : (kind : Kind) (i : ℕ) (name : List ℕ) (least most low high : ℕ) → head.plan.kind ≡ kind
      → slice_get (kind_slots kind head) i ≡ Some (record { name = name; rule = λ _. function_of least most low high })
      → IsFunctionOf least most low high (slice_index_or found i (sums_section []))
  function_in_slot kind i name least most low high same there =
      slot_gives (IsFunctionOf least most low high) kind i (record { name = name; rule = λ _. function_of least most low high }) same there (λ b x fit. fit)

  -- ---- a row for each section of a kind

  pub func_values : head.plan.kind ≡ Func → IsFunctionOf head.keys head.keys 0 64 (slice_index_or found 0 (sums_section []))
  func_values same = function_in_slot Func 0 (codes "values") head.keys head.keys 0 64 same refl

  pub lcp_lengths : head.plan.kind ≡ Lcp → IsFunctionOf head.keys head.keys 0 32 (slice_index_or found 0 (sums_section []))
  lcp_lengths same = function_in_slot Lcp 0 (codes "lengths") head.keys head.keys 0 32 same refl

  pub lcp_prefixes : head.plan.kind ≡ Lcp → IsFunctionOf (bucket_count head.plan head.keys) (bucket_count head.plan head.keys) 0 32 (slice_index_or found 1 (sums_section []))
  lcp_prefixes same = function_in_slot Lcp 1 (codes "prefixes") (bucket_count head.plan head.keys) (bucket_count head.plan head.keys) 0 32 same refl

  pub lcp2_offsets : head.plan.kind ≡ Lcp2 → IsFunctionOf head.keys head.keys 0 32 (slice_index_or found 0 (sums_section []))
  lcp2_offsets same = function_in_slot Lcp2 0 (codes "offsets") head.keys head.keys 0 32 same refl

  pub lcp2_codes : head.plan.kind ≡ Lcp2 → IsFunctionOf head.keys head.keys 0 32 (slice_index_or found 1 (sums_section []))
  lcp2_codes same = function_in_slot Lcp2 1 (codes "codes") head.keys head.keys 0 32 same refl

  pub lcp2_table : head.plan.kind ≡ Lcp2 → IsNarrowList 32 (slice_index_or found 2 (sums_section []))
  lcp2_table same =
      slot_gives (IsNarrowList 32) Lcp2 2 (record { name = codes "table"; rule = λ before. list_of 0 (2 ^ section_width (last_section before) - 1) 0 32 }) same refl
      (λ b x fit. narrow_list 0 (2 ^ section_width (last_section b) - 1) 0 32 x fit)

  pub lcp2_escaped : head.plan.kind ≡ Lcp2 → IsFunctionOf 0 head.keys 0 32 (slice_index_or found 3 (sums_section []))
  lcp2_escaped same = function_in_slot Lcp2 3 (codes "escaped") 0 head.keys 0 32 same refl

  pub lcp2_prefixes : head.plan.kind ≡ Lcp2 → IsFunctionOf (bucket_count head.plan head.keys) (bucket_count head.plan head.keys) 0 32 (slice_index_or found 4 (sums_section []))
  lcp2_prefixes same = function_in_slot Lcp2 4 (codes "prefixes") (bucket_count head.plan head.keys) (bucket_count head.plan head.keys) 0 32 same refl

  pub hollow_left : head.plan.kind ≡ Hollow → IsSumsOf (head.keys - 1 + 1) (slice_index_or found 0 (sums_section []))
  hollow_left same =
      slot_gives (IsSumsOf (head.keys - 1 + 1)) Hollow 0 (record { name = codes "left"; rule = λ _. sums_of (head.keys - 1 + 1) }) same refl (λ b x fit. fit)

  pub hollow_skip : head.plan.kind ≡ Hollow → IsSumsOf (head.keys - 1 + 1) (slice_index_or found 1 (sums_section []))
  hollow_skip same =
      slot_gives (IsSumsOf (head.keys - 1 + 1)) Hollow 1 (record { name = codes "skip"; rule = λ _. sums_of (head.keys - 1 + 1) }) same refl (λ b x fit. fit)

  pub hollow_dist_offsets : head.plan.kind ≡ HollowDist → IsFunctionOf head.keys head.keys 0 32 (slice_index_or found 0 (sums_section []))
  hollow_dist_offsets same = function_in_slot HollowDist 0 (codes "offsets") head.keys head.keys 0 32 same refl

  pub hollow_dist_left : head.plan.kind ≡ HollowDist → IsSumsOf (inner_count head.plan head.keys + 1) (slice_index_or found 1 (sums_section []))
  hollow_dist_left same =
      slot_gives (IsSumsOf (inner_count head.plan head.keys + 1)) HollowDist 1 (record { name = codes "left"; rule = λ _. sums_of (inner_count head.plan head.keys + 1) }) same refl (λ b x fit. fit)

  pub hollow_dist_skip : head.plan.kind ≡ HollowDist → IsSumsOf (inner_count head.plan head.keys + 1) (slice_index_or found 2 (sums_section []))
  hollow_dist_skip same =
      slot_gives (IsSumsOf (inner_count head.plan head.keys + 1)) HollowDist 2 (record { name = codes "skip"; rule = λ _. sums_of (inner_count head.plan head.keys + 1) }) same refl (λ b x fit. fit)

  pub hollow_dist_turns : head.plan.kind ≡ HollowDist → IsFunctionOf 0 (min (head.keys + delimiter_count head.plan head.keys) u32_max) 0 32 (slice_index_or found 3 (sums_section []))
  hollow_dist_turns same = function_in_slot HollowDist 3 (codes "turns") 0 (min (head.keys + delimiter_count head.plan head.keys) u32_max) 0 32 same refl

  -- a list of so many numbers
  list_in_slot : (i : ℕ) (name : List ℕ) (count low high : ℕ) → head.plan.kind ≡ Zfast
      → slice_get (kind_slots Zfast head) i ≡ Some (record { name = name; rule = λ _. list_of count count low high })
      → FitsRule (list_of count count low high) (slice_index_or found i (sums_section []))
  list_in_slot i name count low high same there =
      slot_gives (FitsRule (list_of count count low high)) Zfast i (record { name = name; rule = λ _. list_of count count low high }) same there (λ b x fit. fit)

  pub zfast_offsets : head.plan.kind ≡ Zfast → IsFunctionOf head.keys head.keys 0 32 (slice_index_or found 0 (sums_section []))
  zfast_offsets same = function_in_slot Zfast 0 (codes "offsets") head.keys head.keys 0 32 same refl

  pub zfast_extents : head.plan.kind ≡ Zfast → FitsRule (list_of (inner_count head.plan head.keys) (inner_count head.plan head.keys) 0 32) (slice_index_or found 1 (sums_section []))
  zfast_extents same = list_in_slot 1 (codes "extents") (inner_count head.plan head.keys) 0 32 same refl

  pub zfast_firsts : head.plan.kind ≡ Zfast → FitsRule (list_of (inner_count head.plan head.keys) (inner_count head.plan head.keys) 0 32) (slice_index_or found 2 (sums_section []))
  zfast_firsts same = list_in_slot 2 (codes "firsts") (inner_count head.plan head.keys) 0 32 same refl

  pub zfast_middles : head.plan.kind ≡ Zfast → FitsRule (list_of (inner_count head.plan head.keys) (inner_count head.plan head.keys) 0 32) (slice_index_or found 3 (sums_section []))
  zfast_middles same = list_in_slot 3 (codes "middles") (inner_count head.plan head.keys) 0 32 same refl

  pub zfast_afters : head.plan.kind ≡ Zfast → FitsRule (list_of (inner_count head.plan head.keys) (inner_count head.plan head.keys) 0 32) (slice_index_or found 4 (sums_section []))
  zfast_afters same = list_in_slot 4 (codes "afters") (inner_count head.plan head.keys) 0 32 same refl

  pub zfast_handles : head.plan.kind ≡ Zfast → IsFunctionOf (handle_count head.plan head.keys) (handle_count head.plan head.keys) 0 32 (slice_index_or found 5 (sums_section []))
  zfast_handles same = function_in_slot Zfast 5 (codes "handles") (handle_count head.plan head.keys) (handle_count head.plan head.keys) 0 32 same refl

  pub zfast_marks : head.plan.kind ≡ Zfast → IsListOf (handle_count head.plan head.keys) head.plan.handle_bits (slice_index_or found 6 (sums_section []))
  zfast_marks same = list_in_slot 6 (codes "marks") (handle_count head.plan head.keys) head.plan.handle_bits head.plan.handle_bits same refl

  pub zfast_codes : head.plan.kind ≡ Zfast → IsFunctionOf head.keys head.keys 0 32 (slice_index_or found 7 (sums_section []))
  zfast_codes same = function_in_slot Zfast 7 (codes "codes") head.keys head.keys 0 32 same refl

  zfast_signatures : head.plan.kind ≡ Zfast → FitsRule (corrections_of head.keys) (slice_index_or found 8 (sums_section []))
  zfast_signatures same =
      slot_gives (FitsRule (corrections_of head.keys)) Zfast 8 (record { name = codes "corrections"; rule = λ _. corrections_of head.keys }) same refl (λ b x fit. fit)

  -- the list of blocks has as many numbers as the section before it has signatures
  abbrev blocks_slot : Slot
  blocks_slot = record { name = codes "blocks"; rule = λ before. let m = section_count (last_section before) in list_of m m 0 32 }

  zfast_blocks : head.plan.kind ≡ Zfast
      → FitsRule (list_of (section_count (slice_index_or found 8 (sums_section []))) (section_count (slice_index_or found 8 (sums_section []))) 0 32) (slice_index_or found 9 (sums_section []))
  zfast_blocks same =
      let kept : List Slot = (if head.plan.signed == 0 then [] else exact_list (codes "signatures") head.keys head.plan.signed head.plan.signed ∷ []) in
      let here : slice_get (kind_slots head.plan.kind head) 9 ≡ Some blocks_slot = ap (λ (k : Kind). slice_get (kind_slots k head) 9) same in
      fit_next (λ (y x : Section). FitsRule (list_of (section_count y) (section_count y) 0 32) x) (slots head) [] found 8 blocks_slot (sums_section []) sections_fit
      (get_front (kind_slots head.plan.kind head) kept 9 blocks_slot here)
      (λ b y x fit. subst (λ (o : Option Section). FitsRule (list_of (section_count (unwrap_or o (sums_section []))) (section_count (unwrap_or o (sums_section []))) 0 32) x) (last_put None b y) fit)

  pub zfast_corrections : head.plan.kind ≡ Zfast → AreCorrections (slice_index_or found 8 (sums_section [])) (slice_index_or found 9 (sums_section []))
  zfast_corrections same =
      are_corrections head.keys (slice_index_or found 8 (sums_section [])) (slice_index_or found 9 (sums_section [])) (zfast_signatures same) (zfast_blocks same)

  -- ---- what such a row says

  -- where its function stands
  pub function_there : (i least most low high : ℕ) → IsFunctionOf least most low high (slice_index_or found i (sums_section [])) → IsFunctionAt places i
  function_there i least most low high row = function_place words places i least most low high row

  -- and where its list does
  pub list_there : (i high : ℕ) → IsNarrowList high (slice_index_or found i (sums_section [])) → IsListAt places i
  list_there i high row = list_place words places i high row

  -- and where its Elias-Fano list does
  pub sums_there : (i count : ℕ) → 0 < count → IsSumsOf count (slice_index_or found i (sums_section [])) → IsSumsAt places i
  sums_there i count some row = sums_place words places i count some row

  -- how many numbers that list has
  pub sums_count_there : (i count : ℕ) → IsSumsOf count (slice_index_or found i (sums_section [])) → length (numbers_in (section_of_dump (dump_in words) i)) ≡ count
  sums_count_there i count row =
      let same : section_of_dump (dump_in words) i ≡ slice_index_or found i (sums_section []) = ap (λ (xs : List Section). slice_index_or xs i (sums_section [])) sections_are in
      ap (λ (x : Section). length (numbers_in x)) same ∙ sums_length count (slice_index_or found i (sums_section [])) row

  -- how many pairs that function has, and how wide it is
  pub bounds_there : (i least most low high : ℕ) → IsFunctionOf least most low high (slice_index_or found i (sums_section []))
      → IsBetween least most (function_in (section_of_dump (dump_in words) i)).pairs × IsBetween low high (function_in (section_of_dump (dump_in words) i)).width
  bounds_there i least most low high row =
      let same : section_of_dump (dump_in words) i ≡ slice_index_or found i (sums_section []) = ap (λ (xs : List Section). slice_index_or xs i (sums_section [])) sections_are in
      subst (λ (x : Section). IsBetween least most (function_in x).pairs × IsBetween low high (function_in x).width) (sym same)
      (function_bounds least most low high (slice_index_or found i (sums_section [])) row)

  -- where a list of so many numbers stands
  pub list_of_there : (i least most low high : ℕ) → FitsRule (list_of least most low high) (slice_index_or found i (sums_section [])) → IsListAt places i
  list_of_there i least most low high row = list_there i high (narrow_list least most low high (slice_index_or found i (sums_section [])) row)

  -- how many they are, and how wide
  pub list_bounds_there : (i least most low high : ℕ) → FitsRule (list_of least most low high) (slice_index_or found i (sums_section []))
      → IsBetween least most (length (numbers_in (section_of_dump (dump_in words) i))) × IsBetween low high (section_width (section_of_dump (dump_in words) i))
  list_bounds_there i least most low high row =
      let same : section_of_dump (dump_in words) i ≡ slice_index_or found i (sums_section []) = ap (λ (xs : List Section). slice_index_or xs i (sums_section [])) sections_are in
      subst (λ (x : Section). IsBetween least most (length (numbers_in x)) × IsBetween low high (section_width x)) (sym same)
      (list_bounds least most low high (slice_index_or found i (sums_section [])) row)

  -- where signatures stand
  pub corrections_there : (i : ℕ) → AreCorrections (slice_index_or found i (sums_section [])) (slice_index_or found (suc i) (sums_section [])) → IsCorrectionsAt places i
  corrections_there i row = corrections_place words places i (slice_index_or found (suc i) (sums_section [])) row

  -- where the numbers beside them do
  pub beside_there : (i : ℕ) → AreCorrections (slice_index_or found i (sums_section [])) (slice_index_or found (suc i) (sums_section [])) → IsListAt places (suc i)
  beside_there i row =
      let y = slice_index_or found i (sums_section []) in
      let x = slice_index_or found (suc i) (sums_section []) in
      list_of_there (suc i) (length (signatures_in y)) (length (signatures_in y)) 0 32 (corrections_beside y x row)

  -- which are as many
  pub are_beside : (i : ℕ) → AreCorrections (slice_index_or found i (sums_section [])) (slice_index_or found (suc i) (sums_section []))
      → length (numbers_in (section_of_dump (dump_in words) (suc i))) ≡ length (signatures_in (section_of_dump (dump_in words) i))
  are_beside i row =
      let y = slice_index_or found i (sums_section []) in
      let x = slice_index_or found (suc i) (sums_section []) in
      let same : section_of_dump (dump_in words) i ≡ y = ap (λ (xs : List Section). slice_index_or xs i (sums_section [])) sections_are in
      let bounds = list_bounds_there (suc i) (length (signatures_in y)) (length (signatures_in y)) 0 32 (corrections_beside y x row) in
      let many : length (numbers_in (section_of_dump (dump_in words) (suc i))) ≡ length (signatures_in y) = omega (arith, bounds.0.0, bounds.0.1) in
      many ∙ sym (ap (λ (z : Section). length (signatures_in z)) same)

  -- ---- the signatures that are kept

  -- the list of a signed dump is its last section: one number of the header's width for each key
  abbrev kept_slot : Slot
  kept_slot = exact_list (codes "signatures") head.keys head.plan.signed head.plan.signed

  -- the width is that of the words
  pub signed_some : h.plan.signed ≢ 0 → head.plan.signed ≢ 0
  signed_some some = λ none. some (sym (ap (λ (g : HeaderOf). g.plan.signed) is.header) ∙ none)

  -- in the slots of a signed dump it is the last
  slots_signed : head.plan.signed ≢ 0 → slots head ≡ kind_slots head.plan.kind head ++ kept_slot ∷ []
  slots_signed some =
      let signed : (head.plan.signed == 0) ≡ false = ne_eqb head.plan.signed 0 some in
      ap (λ (t : Bool). kind_slots head.plan.kind head ++ (if t then [] else kept_slot ∷ [])) signed

  -- where it stands
  pub kept_place : head.plan.signed ≢ 0 → length places - 1 ≡ length (kind_slots head.plan.kind head)
  kept_place some =
      let more : length (kind_slots head.plan.kind head ++ kept_slot ∷ []) ≡ length (kind_slots head.plan.kind head) + 1 = length-append (kind_slots head.plan.kind head) (kept_slot ∷ []) in
      let count : length (slots head) ≡ length (kind_slots head.plan.kind head ++ kept_slot ∷ []) = ap (λ (s : List Slot). length s) (slots_signed some) in
      let all = places_count in
      omega arith

  -- some section stands there
  pub places_some : head.plan.signed ≢ 0 → 0 < length places
  places_some some =
      let more : length (kind_slots head.plan.kind head ++ kept_slot ∷ []) ≡ length (kind_slots head.plan.kind head) + 1 = length-append (kind_slots head.plan.kind head) (kept_slot ∷ []) in
      let count : length (slots head) ≡ length (kind_slots head.plan.kind head ++ kept_slot ∷ []) = ap (λ (s : List Slot). length s) (slots_signed some) in
      let all = places_count in
      omega arith

  -- what it is
  pub kept_list : head.plan.signed ≢ 0 → IsListOf head.keys head.plan.signed (slice_index_or found (length places - 1) (sums_section []))
  kept_list some =
      let last : slice_get (slots head) (length places - 1) ≡ Some kept_slot =
      (λ i. slice_get (slots_signed some i) (kept_place some i)) ∙ get_last (kind_slots head.plan.kind head) kept_slot in
      fit_at (IsListOf head.keys head.plan.signed) (slots head) [] found (length places - 1) kept_slot (sums_section []) sections_fit last (λ b x fit. fit)

  -- where its numbers stand
  pub kept_there : head.plan.signed ≢ 0 → IsListAt places (length places - 1)
  kept_there some =
      list_there (length places - 1) head.plan.signed
      (narrow_list head.keys head.keys head.plan.signed head.plan.signed (slice_index_or found (length places - 1) (sums_section [])) (kept_list some))

  -- they are those that the dump keeps of its keys
  pub kept_numbers_are : head.plan.signed ≢ 0 → numbers_in (section_of_dump (dump_in words) (length places - 1)) ≡ kept_numbers (dump_in words)
  kept_numbers_are some =
      let count : length (dump_in words).sections ≡ length places = ap (λ (xs : List Section). length xs) sections_are ∙ length-map places (section_at words) in
      let many : length (dump_in words).sections ≡ length places - 1 + 1 = let here = places_some some in omega arith in
      ap numbers_in (last_is (dump_in words).sections (length places - 1) many)

  -- and as wide as the header says
  pub kept_width : head.plan.signed ≢ 0 → section_width (section_of_dump (dump_in words) (length places - 1)) ≡ head.plan.signed
  kept_width some =
      let same : section_of_dump (dump_in words) (length places - 1) ≡ slice_index_or found (length places - 1) (sums_section []) = ap (λ (xs : List Section). slice_index_or xs (length places - 1) (sums_section [])) sections_are in
      ap section_width same ∙ list_width head.keys head.plan.signed (slice_index_or found (length places - 1) (sums_section [])) (kept_list some)

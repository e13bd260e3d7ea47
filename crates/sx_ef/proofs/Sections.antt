-- The checks of a sums section, by those of its two parts.
use Rattle.std.proofs.Common.{◌≡◌, ℕ, zero, suc, ◌+◌, ◌-◌, ◌*◌, ◌^◌, ◌<◌, ◌≤◌, Bool, true, false, cond, List, [], ◌∷◌, length, take, drop, get_or, Option, None, refl, sym, ap, subst, ◌∙◌, arith, inl, inr}
use Rattle.std.specs.Prelude.{◌==◌, ◌&&◌, filter, slice_index}
use Rattle.std.specs.Int.{bit_at}
use Rattle.std.specs.List.{range_with_len}
use Rattle.std.proofs.lemmas.Bool.{and_parts, le-leb, eq-eqb, ne_eqb, cases_eq}
use Rattle.std.proofs.lemmas.List.{length-drop, drop-drop, take-take, drop-take}
use Rattle.std.proofs.lemmas.Nat.{pow_pos}
use Rattle.std.proofs.Math.Nat.{le-mul_of_pos_right}
use Rattle.sx_spec_strings.specs.First.{first_failing}
use Rattle.sx_spec.specs.Fields.{sums_items, is_zero_after, words_number, fields, ones_of, below_of, low_width, upper_bits}
use Rattle.sx_spec.specs.Layout.{sums_upper, sums_low, sums_checks, sums_numbers}
use Rattle.sx_ef.specs.Parts.{sums_of, low_size, upper_size, low_part, upper_part, numbers_in, never_falls, is_sums_of, is_sums_list}
use Rattle.sx_ef.specs.Sections.{part_checks}
use Rattle.sx_ef.proofs.Numbers.{sums_at}

-- ---- the first number

-- ones from a on don't begin before it
ones_after : (a n x : ℕ) → 0 < length (filter (λ k. bit_at x k == 1) (range_with_len a n)) → a ≤ get_or (filter (λ k. bit_at x k == 1) (range_with_len a n)) 0 0
ones_after a zero x some = absurd (omega arith)
ones_after a (suc n) x some =
    elim (cases_eq (bit_at x a) 1) [
      | inl one ↦ rw (eq-eqb (bit_at x a) 1 one) (omega arith)
      | inr other ↦
          let none : filter (λ k. bit_at x k == 1) (range_with_len a (suc n)) ≡ filter (λ k. bit_at x k == 1) (range_with_len (a + 1) n) =
          ap (λ t. cond t (a ∷ filter (λ k. bit_at x k == 1) (range_with_len (a + 1) n)) (filter (λ k. bit_at x k == 1) (range_with_len (a + 1) n))) (ne_eqb (bit_at x a) 1 other) in
          let later = ones_after (a + 1) n x (subst (λ (xs : List ℕ). 0 < length xs) none some) in
          rw none (omega arith)
    ]

-- the first one is at 0 where bit 0 is one
first_one : (n x : ℕ) → 0 < length (ones_of n x) → (get_or (ones_of n x) 0 0 == 0) ≡ (bit_at x 0 == 1)
first_one zero x some = absurd (omega arith)
first_one (suc n) x some =
    elim (cases_eq (bit_at x 0) 1) [
      | inl one ↦ rw (eq-eqb (bit_at x 0) 1 one) refl
      | inr other ↦
          let none : ones_of (suc n) x ≡ filter (λ k. bit_at x k == 1) (range_with_len 1 n) =
          ap (λ t. cond t (0 ∷ filter (λ k. bit_at x k == 1) (range_with_len 1 n)) (filter (λ k. bit_at x k == 1) (range_with_len 1 n))) (ne_eqb (bit_at x 0) 1 other) in
          let later = ones_after 1 n x (subst (λ (xs : List ℕ). 0 < length xs) none some) in
          ap (λ xs. get_or xs 0 0 == 0) none
          ∙ ne_eqb (get_or (filter (λ k. bit_at x k == 1) (range_with_len 1 n)) 0 0) 0 (λ is. omega arith)
          ∙ sym (ne_eqb (bit_at x 0) 1 other)
    ]

-- the first number is 0 where the first one is at 0 and its low bits are zero
pub first_zero : (n x l : ℕ) (lows : List ℕ) → 0 < length (ones_of n x) → 0 < length lows → (get_or (sums_of l (ones_of n x) lows) 0 0 == 0) ≡ (bit_at x 0 == 1 && get_or lows 0 0 == 0)
first_zero n x l lows some low =
    let at = sums_at 0 l (ones_of n x) lows 0 some low in
    let p = get_or (ones_of n x) 0 0 in
    let r = get_or lows 0 0 in
    let none : p - (0 + 0) ≡ p = omega arith in
    let is : get_or (sums_of l (ones_of n x) lows) 0 0 ≡ p * 2 ^ l + r = at ∙ ap (λ m. m * 2 ^ l + r) none in
    ap (λ m. m == 0) is ∙ both_zero p (2 ^ l) r (pow_pos l) ∙ ap (λ b. b && r == 0) (first_one n x some)
  where
    both_zero : (p m r : ℕ) → 0 < m → (p * m + r == 0) ≡ (p == 0 && r == 0)
    both_zero p m r some =
        elim (cases_eq p 0) [
          | inl here ↦
              let e : p * m + r ≡ r = ap (λ q. q * m + r) here ∙ (let f : 0 * m + r ≡ r = omega arith in f) in
              ap (λ n. n == 0) e ∙ sym (ap (λ b. b && r == 0) (eq-eqb p 0 here))
          | inr other ↦
              let more : m ≤ p * m = (let h : m ≤ m * p = le-mul_of_pos_right m (let s : 0 < p = omega arith in s) in omega arith) in
              ne_eqb (p * m + r) 0 (λ z. omega arith) ∙ sym (ap (λ b. b && r == 0) (ne_eqb p 0 other))
        ]

-- what the code tests, and what the check asks for
pub sums_test : (count below l n x : ℕ) (lows : List ℕ) → 0 < count → 0 < length lows → (is_sums_of count below l (ones_of n x) lows && (bit_at x 0 == 1 && get_or lows 0 0 == 0)) ≡ (length (ones_of n x) == count && (get_or (sums_of l (ones_of n x) lows) 0 0 == 0 && (never_falls (sums_of l (ones_of n x) lows) && below_of (sums_of l (ones_of n x) lows) == below)))
sums_test count below l n x lows some low =
    elim (cases_eq (length (ones_of n x)) count) [
      | inl all ↦
          let zero_first = first_zero n x l lows (omega arith) low in
          let many = eq-eqb (length (ones_of n x)) count all in
          rw (many, zero_first) (turned (never_falls (sums_of l (ones_of n x) lows) && below_of (sums_of l (ones_of n x) lows) == below) (bit_at x 0 == 1 && get_or lows 0 0 == 0))
      | inr other ↦ rw (ne_eqb (length (ones_of n x)) count other) refl
    ]
  where
    turned : (a b : Bool) → (a && b) ≡ (b && a)
    turned true true = refl
    turned true false = refl
    turned false true = refl
    turned false false = refl

-- ---- the checks

-- the first of the two checks of parts that fails
abbrev failing : ℕ → ℕ → List ℕ → List ℕ → Option ℕ
failing count below low upper = first_failing (
    (15, is_zero_after (count * low_width count below) low && is_zero_after (upper_bits count below) upper)
    ∷ (
      16,
      length (ones_of (upper_bits count below) (words_number upper)) == count
          && (slice_index (sums_items count below low upper) 0 == 0
          && (never_falls (sums_items count below low upper)
          && below_of (sums_items count below low upper) == below)),
    )
    ∷ [])

module _ (words : List ℕ) where
  abbrev count : ℕ
  count = slice_index words 0

  abbrev below : ℕ
  below = slice_index words 1

  abbrev parts : List ℕ
  parts = drop 2 words

  pub sums_low_is : sums_low words ≡ low_part count below (take (low_size count below + upper_size count below) parts)
  sums_low_is = sym (take-take (low_size count below) (low_size count below + upper_size count below) parts (omega arith))

  pub sums_upper_is : sums_upper words ≡ upper_part count below parts
  sums_upper_is =
      let e : 2 + low_size count below ≡ low_size count below + 2 = omega arith in
      ap (take (upper_size count below)) (sym (drop-drop (low_size count below) 2 words ∙ ap (λ n. drop n words) e))

  upper_cut : upper_part count below parts ≡ upper_part count below (take (low_size count below + upper_size count below) parts)
  upper_cut =
      sym (ap (take (upper_size count below)) (drop-take (low_size count below) (upper_size count below) parts)
      ∙ take-take (upper_size count below) (upper_size count below) (drop (low_size count below) parts) (omega arith))

  -- words that are long enough, with a bound of 1 or more, fail where their parts do
  pub checks_by_parts : 2 ≤ length words → 0 < below → low_size count below + upper_size count below ≤ length parts → first_failing (sums_checks count words) ≡ first_failing (part_checks count below (take (low_size count below + upper_size count below) parts))
  checks_by_parts long above fit =
      rw (le-leb 2 (length words) long, eq-eqb count count refl, le-leb 1 below above, le-leb (low_size count below + upper_size count below) (length parts) fit)
      (λ i. failing count below (sums_low_is i) ((sums_upper_is ∙ upper_cut) i))

-- ---- what passing words are

two_pass : (a b : Bool) (m n : ℕ) → first_failing ((m, a) ∷ (n, b) ∷ []) ≡ None → (a ≡ true) × (b ≡ true)
two_pass true true m n none = (refl, refl)
two_pass true false m n none = absurd cc
two_pass false b m n none = absurd cc

-- parts that pass are a list
pub parts_valid : (count below : ℕ) (words : List ℕ) → first_failing (part_checks count below words) ≡ None → is_sums_list count below words ≡ true
parts_valid count below words none =
    let l = low_width count below in
    let ones = ones_of (upper_bits count below) (words_number (upper_part count below words)) in
    let numbers = numbers_in count below words in
    let zeros = is_zero_after (count * l) (low_part count below words) && is_zero_after (upper_bits count below) (upper_part count below words) in
    let sums = length ones == count && (slice_index numbers 0 == 0 && (never_falls numbers && below_of numbers == below)) in
    let (padding, test) = two_pass zeros sums 15 16 none in
    let paddings = and_parts (is_zero_after (count * l) (low_part count below words)) (is_zero_after (upper_bits count below) (upper_part count below words)) padding in
    let many = and_parts (length ones == count) _ test in
    let first = and_parts (slice_index numbers 0 == 0) _ many.1 in
    rw (paddings.0, paddings.1, many.0, first.1) refl

-- and so are the words that they are cut from
pub cut_valid : (count below : ℕ) (words : List ℕ) → is_sums_list count below (take (low_size count below + upper_size count below) words) ≡ true → is_sums_list count below words ≡ true
cut_valid count below words valid =
    let ls = low_size count below in
    let us = upper_size count below in
    let low : low_part count below (take (ls + us) words) ≡ low_part count below words = take-take ls (ls + us) words (omega arith) in
    let upper : upper_part count below (take (ls + us) words) ≡ upper_part count below words =
    ap (take us) (drop-take ls us words) ∙ take-take us us (drop ls words) (omega arith) in
    let l = low_width count below in
    let u = upper_bits count below in
    ap (λ (p : List ℕ × List ℕ). is_zero_after (count * l) p.0 && (is_zero_after u p.1 && is_sums_of count below l (ones_of u (words_number p.1)) (fields l count p.0))) (λ i. (sym low i, sym upper i)) ∙ valid

-- the section that they hold
pub section_is : (words : List ℕ) → sums_numbers words ≡ numbers_in (slice_index words 0) (slice_index words 1) (drop 2 words)
section_is words = ap (sums_items (slice_index words 0) (slice_index words 1) (sums_low words)) (sums_upper_is words)

-- the same, for a count that the words hold and the words that the code cuts
pub checks_at : (words : List ℕ) (count below size : ℕ) (found : Option ℕ) → slice_index words 0 ≡ count → slice_index words 1 ≡ below → 2 ≤ length words → 0 < below → size ≡ low_size count below + upper_size count below → size ≤ length words - 2 → found ≡ first_failing (part_checks count below (take (2 + size - 2) (drop 2 words))) → first_failing (sums_checks count words) ≡ found
checks_at words count below size found count_is below_is long above size_is fit is =
    let c = slice_index words 0 in
    let b = slice_index words 1 in
    let rest = length-drop 2 words in
    let sizes : low_size c b + upper_size c b ≡ size = (λ i. low_size (count_is i) (below_is i) + upper_size (count_is i) (below_is i)) ∙ sym size_is in
    let cut : low_size c b + upper_size c b ≡ 2 + size - 2 = omega arith in
    ap (λ n. first_failing (sums_checks n words)) (sym count_is)
    ∙ checks_by_parts words long (omega arith) (omega arith)
    ∙ (λ i. first_failing (part_checks (count_is i) (below_is i) (take (cut i) (drop 2 words))))
    ∙ sym is

pub valid_at : (words : List ℕ) (count below size : ℕ) → size ≡ low_size count below + upper_size count below → None ≡ first_failing (part_checks count below (take (2 + size - 2) (drop 2 words))) → is_sums_list count below (drop 2 words) ≡ true
valid_at words count below size size_is none =
    let cut : 2 + size - 2 ≡ low_size count below + upper_size count below = omega arith in
    cut_valid count below (drop 2 words)
    (parts_valid count below (take (low_size count below + upper_size count below) (drop 2 words))
    (ap (λ n. first_failing (part_checks count below (take n (drop 2 words)))) (sym cut) ∙ sym none))

-- The ones among the upper bits of an Elias-Fano list, one after another, and the numbers that they stand for.
use Rattle.std.proofs.Common.{◌≡◌, ◌≢◌, ℕ, suc, ◌+◌, ◌-◌, ◌*◌, ◌/◌, ◌%◌, ◌^◌, ◌<◌, ◌≤◌, Bool, true, false, List, All, length, drop, get_or, sym, ap, ◌∙◌, arith}
use Rattle.std.specs.Prelude.{◌==◌, bit_and}
use Rattle.std.specs.Int.{bit_at}
use Rattle.std.proofs.lemmas.Bool.{and_parts, eq-eqb, eqb-true}
use Rattle.std.proofs.lemmas.List.{get_or-drop}
use Rattle.std.proofs.lemmas.List.Elements.{All-drop, All-same, recursion_from_All}
use Rattle.std.proofs.lemmas.Nat.Bits.{bit_at-lt, shr_and_one}
use Rattle.sx_fields.proofs.Places.{length-fields}
use Rattle.sx_fields.proofs.WordNumbers.{AreWords}
use Rattle.sx_spec.specs.Fields.{below_of, fields, low_width, ones_of, upper_bits, words_number}
use Rattle.sx_ranksel.specs.Directory.{number_at, rank_of}
use Rattle.sx_ranksel.proofs.Ranks.{rank_le, rank_mono, rank_more, select_is}
use Rattle.sx_ef.specs.declared.section.Sums.{Sums as SumsPlace}
use Rattle.sx_ef.specs.Parts.{is_sums_of, low_part, low_size, never_falls, sums_of, upper_part, upper_size}
use Rattle.sx_ef.proofs.Numbers.{length-sums}
use Rattle.sx_ef.proofs.Scan.{bit_of}
use Rattle.sx_ef.proofs.Views.{list_sums, number_is, numbers_are, upper_ones, valid_ones, valid_small}
use Rattle.sx_sections.specs.Places.{IsSummed}
use Rattle.sx_dump.specs.Showing.{sums_read}

-- a bit of the words from a word on, as it is read
pub bit_read : (bank : List ℕ) (first bit : ℕ) → All (λ w. w < 2 ^ 64) bank → bit_and (get_or bank (first + bit / 64) 0 / 2 ^ (bit % 64)) 1 ≡ bit_at (number_at first bank) bit
bit_read bank first bit small =
    let words : AreWords (drop first bank) = recursion_from_All (λ w. w < 2 ^ 64) (drop first bank) (All-drop (λ w. w < 2 ^ 64) first bank small) in
    shr_and_one (get_or bank (first + bit / 64) 0) (bit % 64)
    ∙ ap (λ (w : ℕ). bit_at w (bit % 64)) (sym (get_or-drop first bank (bit / 64) 0))
    ∙ sym (bit_of (drop first bank) bit words)

module _ (words : List ℕ) (s : SumsPlace) (is : IsSummed words s) where
  abbrev l : ℕ
  l = low_width s.count s.below

  abbrev bits : ℕ
  bits = upper_bits s.count s.below

  -- the upper bits
  abbrev pub upper : ℕ
  upper = number_at (s.body + low_size s.count s.below) words

  abbrev pub lows : List ℕ
  lows = fields l s.count (drop s.body words)

  pub within : s.body + low_size s.count s.below + upper_size s.count s.below ≤ length words
  within = let size = is.size in let end = is.within in omega arith

  valid : is_sums_of s.count s.below l (ones_of bits (words_number (upper_part s.count s.below (drop s.body words)))) (fields l s.count (low_part s.count s.below (drop s.body words))) ≡ true
  valid = list_sums s.count s.below (drop s.body words) is.valid

  read_is : sums_of l (ones_of bits upper) lows ≡ sums_read words s
  read_is = numbers_are words s.body s.count s.below within

  -- as many ones as numbers
  pub ones_count : rank_of bits upper ≡ s.count
  ones_count =
      ap (λ (xs : List ℕ). length xs) (upper_ones words s.body s.count s.below within)
      ∙ valid_ones s.count s.below l (ones_of bits (words_number (upper_part s.count s.below (drop s.body words)))) (fields l s.count (low_part s.count s.below (drop s.body words))) valid

  lows_count : length lows ≡ s.count
  lows_count = length-fields l s.count (drop s.body words)

  -- which are the numbers that are read
  pub read_count : length (sums_read words s) ≡ s.count
  read_count =
      let ones = ones_count in
      let size = lows_count in
      ap (λ (xs : List ℕ). length xs) (sym read_is) ∙ length-sums 0 l (ones_of bits upper) lows (omega arith) ∙ ones_count

  -- the last is one below the bound
  pub read_end : below_of (sums_read words s) ≡ s.below
  read_end =
      let items = sums_read words s in
      let ones = ones_of bits (words_number (upper_part s.count s.below (drop s.body words))) in
      eqb-true (below_of items) s.below (and_parts (never_falls items) (below_of items == s.below) (and_parts (length ones == s.count) _ valid).1).1

  -- the test of a bit, whose words begin at a word
  pub one_at : (start bit : ℕ) (r : Bool) → start ≡ s.body + low_size s.count s.below → r ≡ (bit_at (number_at start words) bit == 1) → r ≡ true → bit_at upper bit ≡ 1
  one_at start bit r begins test holds =
      eqb-true (bit_at upper bit) 1 ((λ j. bit_at (number_at (sym begins j) words) bit == 1) ∙ sym test ∙ holds)

  pub zero_at : (start bit : ℕ) (r : Bool) → start ≡ s.body + low_size s.count s.below → r ≡ (bit_at (number_at start words) bit == 1) → r ≡ false → bit_at upper bit ≡ 0
  zero_at start bit r begins test fails =
      let few = bit_at-lt upper bit in
      let other : bit_at upper bit ≢ 1 = λ one.
      let holds : r ≡ true = test ∙ (λ j. bit_at (number_at (begins j) words) bit == 1) ∙ eq-eqb (bit_at upper bit) 1 one in
      absurd cc in
      omega arith

  -- where a one stands, with so many before it
  module _ (bit i : ℕ) (inside : bit < bits) (seen : i ≡ rank_of bit upper) (one : bit_at upper bit ≡ 1) where
    pub seen_more : i + 1 ≡ rank_of (bit + 1) upper
    seen_more =
        let more = rank_more upper bit in
        let e : suc bit ≡ bit + 1 = omega arith in
        let same = ap (λ (n : ℕ). rank_of n upper) e in
        omega arith

    pub seen_few : i < s.count
    seen_few =
        let more = rank_more upper bit in
        let up = rank_mono upper (suc bit) bits (omega arith) in
        let all = ones_count in
        omega arith

    pub seen_le : i ≤ bit
    seen_le = let le = rank_le bit upper in omega arith

    -- it stands for this number
    module _ (small : s.below < 2 ^ 64) where
      number : ((bit - i) * 2 ^ l % 2 ^ 64 + get_or lows i 0 ≡ get_or (sums_read words s) i 0) × (get_or (sums_read words s) i 0 < 2 ^ 64)
      number =
          let ones = ones_of bits upper in
          let all = ones_count in
          let size = lows_count in
          let few = seen_few in
          let at : get_or ones i 0 ≡ bit = select_is upper bits bit i inside one (sym seen) in
          let fit : All (λ n. n < 2 ^ 64) (sums_of l ones lows) =
          All-same (λ n. n < 2 ^ 64) (sums_of l ones lows) (sums_read words s) read_is
          (valid_small s.count s.below l (ones_of bits (words_number (upper_part s.count s.below (drop s.body words)))) (fields l s.count (low_part s.count s.below (drop s.body words))) small valid) in
          let is_at = number_is l i ones lows (omega arith) (omega arith) fit in (
            (λ j. (sym at j - i) * 2 ^ l % 2 ^ 64 + get_or lows i 0) ∙ is_at.0 ∙ ap (λ (xs : List ℕ). get_or xs i 0) read_is,
            let e : get_or (sums_of l ones lows) i 0 ≡ get_or (sums_read words s) i 0 = ap (λ (xs : List ℕ). get_or xs i 0) read_is in omega (arith, is_at.1),
          )

      -- as it is put together
      pub number_put : (width high low : ℕ) → width ≡ l → high ≡ bit - i → low ≡ get_or lows i 0 → (high * 2 ^ width % 2 ^ 64 + low ≡ get_or (sums_read words s) i 0) × (high * 2 ^ width % 2 ^ 64 + low < 2 ^ 64)
      number_put width high low width_is high_is low_is =
          let same : high * 2 ^ width % 2 ^ 64 + low ≡ (bit - i) * 2 ^ l % 2 ^ 64 + get_or lows i 0 = λ j. high_is j * 2 ^ width_is j % 2 ^ 64 + low_is j in
          let is_there : high * 2 ^ width % 2 ^ 64 + low ≡ get_or (sums_read words s) i 0 = same ∙ number.0 in
          (is_there, let few = number.1 in omega arith)

  -- a bit that is zero leaves as many
  pub seen_same : (bit i : ℕ) → i ≡ rank_of bit upper → bit_at upper bit ≡ 0 → i ≡ rank_of (bit + 1) upper
  seen_same bit i seen zero =
      let more = rank_more upper bit in
      let e : suc bit ≡ bit + 1 = omega arith in
      let same = ap (λ (n : ℕ). rank_of n upper) e in
      omega arith

  -- behind the last bit all were seen
  pub seen_all : (bit i : ℕ) → bits ≤ bit → i ≡ rank_of bit upper → length (sums_read words s) ≤ i
  seen_all bit i behind seen =
      let up = rank_mono upper bits bit behind in
      let ones = ones_count in
      let count = read_count in
      omega arith

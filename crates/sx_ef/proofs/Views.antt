-- A valid list in the words of a bank, and its numbers.
use Rattle.std.proofs.Common.{◌≡◌, ℕ, zero, suc, ◌+◌, ◌-◌, ◌*◌, ◌%◌, ◌^◌, ◌<◌, ◌≤◌, true, cond, List, [], ◌∷◌, ◌++◌, All, length, take, drop, get_or, refl, sym, ap, ◌∙◌, arith, inl, inr, zero-add}
use Rattle.std.specs.Prelude.{◌==◌, filter}
use Rattle.std.specs.Int.{bit_at}
use Rattle.std.specs.List.{range_with_len}
use Rattle.std.proofs.lemmas.Bool.{and_parts, eqb-true, cases_lt}
use Rattle.std.proofs.lemmas.List.{drop-drop, length-drop, get_or_append_left, get_or_at}
use Rattle.std.proofs.lemmas.List.Elements.{All-from_get_or}
use Rattle.std.proofs.lemmas.Nat.Bits.{bit_at_cat_low}
use Rattle.std.proofs.Math.Nat.{mod-eq_of_lt}
use Rattle.sx_spec.specs.Fields.{words_number, fields, ones_of, below_of, low_width, upper_bits, is_zero_after}
use Rattle.sx_fields.proofs.Places.{number_split, fields_taken}
use Rattle.sx_ranksel.specs.Directory.{rank_of, number_at}
use Rattle.sx_ranksel.proofs.Ranks.{ones_split, rank_le, rank_more}
use Rattle.sx_ef.specs.Parts.{sums_of, low_size, upper_size, low_part, upper_part, numbers_in, never_falls, is_sums_of, is_sums_list}
use Rattle.sx_ef.proofs.Numbers.{below_last, length-sums, sums_at}
use Rattle.sx_ef.proofs.Scan.{ones_one}

-- ---- the parts

-- numbers with the same bits have the same ones
same_range : (a n x y : ℕ) → ((k : ℕ) → k < a + n → bit_at x k ≡ bit_at y k) → filter (λ k. bit_at x k == 1) (range_with_len a n) ≡ filter (λ k. bit_at y k == 1) (range_with_len a n)
same_range a zero x y same = refl
same_range a (suc n) x y same =
    let bit = same a (omega arith) in
    let rest = same_range (a + 1) n x y (λ k below. same k (omega arith)) in
    λ i. cond (bit i == 1) (a ∷ rest i) (rest i)

-- ones in words are those of the words that hold them
pub ones_taken : (words : List ℕ) (k n : ℕ) → k ≤ length words → n ≤ 64 * k → ones_of n (words_number words) ≡ ones_of n (words_number (take k words))
ones_taken words k n within hold =
    let split = number_split words k within in
    let turned : words_number words ≡ words_number (drop k words) * 2 ^ (64 * k) + words_number (take k words) =
    split ∙ (let f : words_number (take k words) + 2 ^ (64 * k) * words_number (drop k words) ≡ words_number (drop k words) * 2 ^ (64 * k) + words_number (take k words) = omega arith in f) in
    same_range 0 n (words_number words) (words_number (take k words))
    (λ i below. ap (λ m. bit_at m i) turned ∙ bit_at_cat_low (words_number (drop k words)) (64 * k) (words_number (take k words)) i (omega arith))

module _ (words : List ℕ) (first count below : ℕ) (within : first + low_size count below + upper_size count below ≤ length words) where
  abbrev rest : List ℕ
  rest = drop first words

  abbrev l : ℕ
  l = low_width count below

  pub upper_ones : ones_of (upper_bits count below) (number_at (first + low_size count below) words) ≡ ones_of (upper_bits count below) (words_number (upper_part count below rest))
  upper_ones =
      let after = drop-drop (low_size count below) first words in
      let size = length-drop (first + low_size count below) words in
      ones_taken (drop (first + low_size count below) words) (upper_size count below) (upper_bits count below) (omega arith) (omega arith)
      ∙ ap (λ ws. ones_of (upper_bits count below) (words_number (take (upper_size count below) ws))) (sym after)

  pub low_fields : fields l count rest ≡ fields l count (low_part count below rest)
  low_fields =
      let size = length-drop first words in
      sym (fields_taken l count (low_size count below) rest (omega arith) (omega arith))

  -- its numbers, by the ones and the fields where they lie
  pub numbers_are : sums_of l (ones_of (upper_bits count below) (number_at (first + low_size count below) words)) (fields l count rest) ≡ numbers_in count below rest
  numbers_are = λ i. sums_of l (upper_ones i) (low_fields i)

-- ---- what a valid list has

pub valid_ones : (count below l : ℕ) (ones lows : List ℕ) → is_sums_of count below l ones lows ≡ true → length ones ≡ count
valid_ones count below l ones lows valid = eqb-true (length ones) count (and_parts (length ones == count) _ valid).0

-- no number is 2 ^ 64 or more
pub valid_small : (count below l : ℕ) (ones lows : List ℕ) → below < 2 ^ 64 → is_sums_of count below l ones lows ≡ true → All (λ x. x < 2 ^ 64) (sums_of l ones lows)
valid_small count below l ones lows small valid =
    let numbers = sums_of l ones lows in
    let rest = and_parts (never_falls numbers) (below_of numbers == below) (and_parts (length ones == count) _ valid).1 in
    let end : below_of numbers ≡ below = eqb-true (below_of numbers) below rest.1 in
    All-from_get_or (λ x. x < 2 ^ 64) numbers 0
    (λ i within. let le = below_last numbers i rest.0 within in omega arith)

pub list_sums : (count below : ℕ) (words : List ℕ) → is_sums_list count below words ≡ true → is_sums_of count below (low_width count below) (ones_of (upper_bits count below) (words_number (upper_part count below words))) (fields (low_width count below) count (low_part count below words)) ≡ true
list_sums count below words valid =
    (and_parts (is_zero_after (upper_bits count below) (upper_part count below words)) _
    (and_parts (is_zero_after (count * low_width count below) (low_part count below words)) _ valid).1).1

-- one number k stands at k or later
pub ones_ge : (n x k : ℕ) → k < rank_of n x → k ≤ get_or (ones_of n x) k 0
ones_ge zero x k some = absurd (omega arith)
ones_ge (suc n) x k some =
    let e : suc n ≡ n + 1 = omega arith in
    let more = rank_more x n in
    elim (cases_lt k (rank_of n x)) [
      | inl lt ↦
          let split : ones_of (suc n) x ≡ ones_of n x ++ filter (λ j. bit_at x j == 1) (range_with_len n 1) = ap (λ m. ones_of m x) e ∙ ones_split x n 1 in
          let same : get_or (ones_of (suc n) x) k 0 ≡ get_or (ones_of n x) k 0 =
          ap (λ xs. get_or xs k 0) split ∙ get_or_append_left (ones_of n x) (filter (λ j. bit_at x j == 1) (range_with_len n 1)) 0 k lt in
          let before = ones_ge n x k lt in
          omega arith
      | inr le ↦
          let bit : bit_at x n ≡ 1 = omega arith in
          let last : rank_of n x ≡ k = omega arith in
          let same : get_or (ones_of (suc n) x) k 0 ≡ n = ap (λ xs. get_or xs k 0) (ap (λ m. ones_of m x) e ∙ ones_one x n bit) ∙ get_or_at (ones_of n x) n [] 0 k last in
          let few = rank_le n x in
          omega arith
    ]

-- number i, which fits
pub number_is : (l i : ℕ) (ones lows : List ℕ) → length ones ≡ length lows → i < length ones → All (λ x. x < 2 ^ 64) (sums_of l ones lows) → (((get_or ones i 0 - i) * 2 ^ l) % 2 ^ 64 + get_or lows i 0 ≡ get_or (sums_of l ones lows) i 0) × (get_or (sums_of l ones lows) i 0 < 2 ^ 64)
number_is l i ones lows same within small =
    let at = sums_at 0 l ones lows i within (omega arith) in
    let e : 0 + i ≡ i = zero-add i in
    let at' : get_or (sums_of l ones lows) i 0 ≡ (get_or ones i 0 - i) * 2 ^ l + get_or lows i 0 = at ∙ ap (λ m. (get_or ones i 0 - m) * 2 ^ l + get_or lows i 0) e in
    let size = length-sums 0 l ones lows (omega arith) in
    let fits : get_or (sums_of l ones lows) i 0 < 2 ^ 64 = small i 0 (omega arith) in
    let high : (get_or ones i 0 - i) * 2 ^ l % 2 ^ 64 ≡ (get_or ones i 0 - i) * 2 ^ l = mod-eq_of_lt (omega arith) in
    (omega arith, fits)

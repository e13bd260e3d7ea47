-- An encoded list is valid, and its numbers are the list.
use Rattle.std.proofs.Common.{◌≡◌, ℕ, suc, ◌+◌, ◌*◌, ◌%◌, ◌^◌, ◌<◌, ◌≤◌, true, List, [], ◌∷◌, ◌++◌, length, map, take, get_or, refl, sym, ap, subst, ◌∙◌, arith}
use Rattle.std.specs.Prelude.{◌==◌}
use Rattle.std.proofs.lemmas.Bool.{lt-ltb, eq-eqb}
use Rattle.std.proofs.lemmas.List.{length-map, take_at, drop_at, take_all}
use Rattle.sx_spec.specs.Fields.{words_for, words_number, is_zero_after, below_of, low_width, upper_bits, low_words, upper_words, ones_of, sums_items}
use Rattle.sx_spec.proofs.Digits.{packed_fields_are_read_back}
use Rattle.sx_spec.proofs.EliasFano.{number_small, upper_again, ones_are, items_again, length-low, length-upper, length-places, lows_small}
use Rattle.sx_ef.specs.Parts.{IsEncoded, low_part, upper_part, numbers_in, never_falls, is_sums_list}
use Rattle.sx_ef.proofs.Numbers.{falls_join}

-- ---- a list

module _ (x : ℕ) (xs : List ℕ) (keeps : never_falls (x ∷ xs) ≡ true) where
  abbrev items : List ℕ
  items = x ∷ xs

  abbrev l : ℕ
  l = low_width (length items) (below_of items)

  abbrev u : ℕ
  u = upper_bits (length items) (below_of items)

  abbrev words : List ℕ
  words = low_words items ++ upper_words items

  low_is : low_part (length items) (below_of items) words ≡ low_words items
  low_is = take_at (low_words items) (upper_words items) (words_for (length items * l)) (length-low x xs keeps)

  upper_is : upper_part (length items) (below_of items) words ≡ upper_words items
  upper_is =
      let size = length-upper x xs keeps in
      ap (take (words_for u)) (drop_at (low_words items) (upper_words items) (words_for (length items * l)) (length-low x xs keeps))
      ∙ take_all (words_for u) (upper_words items) (omega arith)

  numbers_again : numbers_in (length items) (below_of items) words ≡ items
  numbers_again = (λ i. sums_items (length items) (below_of items) (low_is i) (upper_is i)) ∙ items_again x xs keeps

  low_zeros : is_zero_after (length items * l) (low_part (length items) (below_of items) words) ≡ true
  low_zeros =
      let size = length-map items (λ y. y % 2 ^ l) in
      ap (is_zero_after (length items * l)) low_is
      ∙ ap (λ n. is_zero_after (n * l) (low_words items)) (sym size)
      ∙ packed_fields_are_read_back.padding l (map (λ y. y % 2 ^ l) items) (lows_small l items)

  upper_zeros : is_zero_after u (upper_part (length items) (below_of items) words) ≡ true
  upper_zeros = ap (is_zero_after u) upper_is ∙ lt-ltb _ _ (let e = upper_again x xs keeps in let small = number_small x xs keeps in omega arith)

  encoded_valid : is_sums_list (length items) (below_of items) words ≡ true
  encoded_valid =
      let many : length (ones_of u (words_number (upper_part (length items) (below_of items) words))) ≡ length items =
      ap (λ ws. length (ones_of u (words_number ws))) upper_is ∙ ap length (ones_are x xs keeps) ∙ length-places l 0 items in
      let keeps_again : never_falls (numbers_in (length items) (below_of items) words) ≡ true = ap never_falls numbers_again ∙ keeps in
      let end : (below_of (numbers_in (length items) (below_of items) words) == below_of items) ≡ true = eq-eqb _ _ (ap below_of numbers_again) in
      let all : (length (ones_of u (words_number (upper_part (length items) (below_of items) words))) == length items) ≡ true = eq-eqb _ _ many in
      rw (low_zeros, upper_zeros, all, keeps_again, end) refl

-- numbers that don't fall from place to place never fall
rising_keeps : (xs : List ℕ) → ((i : ℕ) → i + 1 < length xs → get_or xs i 0 ≤ get_or xs (i + 1) 0) → never_falls xs ≡ true
rising_keeps [] rising = refl
rising_keeps (x ∷ []) rising = refl
rising_keeps (x ∷ y ∷ xs) rising =
    falls_join x y xs (rising 0 (omega arith)) (rising_keeps (y ∷ xs) (λ i within.
    let e : suc i + 1 ≡ suc (i + 1) = omega arith in
    subst (λ n. get_or (y ∷ xs) i 0 ≤ get_or (x ∷ y ∷ xs) n 0) e (rising (suc i) (omega arith))))

pub round_trip : (list : List ℕ) → 0 < length list → ((i : ℕ) → i + 1 < length list → get_or list i 0 ≤ get_or list (i + 1) 0) → (is_sums_list (length list) (below_of list) (low_words list ++ upper_words list) ≡ true) × (numbers_in (length list) (below_of list) (low_words list ++ upper_words list) ≡ list)
round_trip [] some rising = absurd (omega arith)
round_trip (x ∷ xs) some rising =
    let keeps = rising_keeps (x ∷ xs) rising in (encoded_valid x xs keeps, numbers_again x xs keeps)

pub encoded_is_valid : (count below : ℕ) (words items : List ℕ) → 0 < count → IsEncoded count below words items → is_sums_list count below words ≡ true
encoded_is_valid count below words [] some encoded = absurd (let e = encoded.size in omega arith)
encoded_is_valid count below words (x ∷ xs) some encoded =
    (λ i. is_sums_list (sym encoded.size i) (sym encoded.end i) (sym encoded.parts i)) ∙ encoded_valid x xs encoded.keeps

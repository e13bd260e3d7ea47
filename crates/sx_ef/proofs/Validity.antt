-- Words that pass are the words of the list that they stand for.
use Rattle.std.proofs.Common.{◌≡◌, ℕ, ◌+◌, ◌*◌, ◌/◌, ◌%◌, ◌^◌, ◌<◌, true, List, ◌++◌, length, map, take, drop, sym, ap, ◌∙◌, arith, lit<, ◌↔◌}
use Rattle.std.specs.Prelude.{◌==◌, sum_by}
use Rattle.std.specs.List.{enumerate_from}
use Rattle.std.proofs.lemmas.Bool.{and_parts, ltb-true, eqb-true}
use Rattle.std.proofs.lemmas.List.{length-drop, length-take-le, take-append-drop, take_all}
use Rattle.std.proofs.Math.Nat.{pow-zero, mod-eq_of_lt}
use Rattle.std.proofs.Math.Pow.{pow_pos}
use Rattle.sx_spec_strings.specs.Numbers.{lowest_digits}
use Rattle.sx_spec_strings.proofs.Lists.{all_taken}
use Rattle.sx_spec.specs.Fields.{number_words, words_number, packed, fields, is_zero_after, below_of, low_width, upper_bits, low_words, upper_words, ones_of}
use Rattle.sx_spec.proofs.Digits.{digits_of_number, length-lowest_digits}
use Rattle.sx_spec.proofs.EliasFano.{powers, sum_is}
use Rattle.sx_spec.proofs.FuncDumps.{digits_small}
use Rattle.sx_spec.proofs.Reading.{packed_again, ones_sum, all_dropped, items_of, ones_rise, places_back, lows_back, length-items}
use Rattle.sx_fields.proofs.WordNumbers.{AreWords}
use Rattle.sx_ef.specs.Parts.{IsEncoded, low_size, upper_size, numbers_in, never_falls, is_sums_list}
use Rattle.sx_ef.proofs.RoundTrip.{encoded_is_valid}

whole_number : (x bits : ℕ) → x < 2 ^ bits → (x / 2 ^ 0 % 2 ^ bits) * 2 ^ 0 ≡ x
whole_number x bits below = rw (pow-zero 2) (let d : x / 1 ≡ x = omega arith in rw (d, mod-eq_of_lt below) (omega arith))

-- ---- both ways

valid_is_encoded : (count below : ℕ) (words : List ℕ) → AreWords words → length words ≡ low_size count below + upper_size count below → is_sums_list count below words ≡ true → IsEncoded count below words (numbers_in count below words)
valid_is_encoded count below words small size valid =
    let l = low_width count below in
    let bits = upper_bits count below in
    let k = low_size count below in
    let j = upper_size count below in
    let low = take k words in
    let upper = take j (drop k words) in
    let x = words_number upper in
    let first = and_parts (is_zero_after (count * l) low) _ valid in
    let second = and_parts (is_zero_after bits upper) _ first.1 in
    let ones = ones_of bits x in
    let lows = fields l count low in
    let items = items_of l 0 ones lows in
    let third = and_parts (length ones == count) _ second.1 in
    let fourth = and_parts (never_falls items) (below_of items == below) third.1 in
    let many : length ones ≡ count = eqb-true (length ones) count third.0 in
    let many_lows : length lows ≡ count = length-lowest_digits (2 ^ l) count (words_number low) in
    let lows_small = digits_small (2 ^ l) count (words_number low) (pow_pos l) in
    let below_is : below_of items ≡ below = eqb-true (below_of items) below fourth.1 in
    let all : length items ≡ count = length-items l 0 ones lows (many ∙ sym many_lows) ∙ many_lows in
    let under : x < 2 ^ bits = ltb-true x (2 ^ bits) second.0 in
    let after = length-drop k words in
    let low_again : low_words items ≡ low =
    (λ i. packed (low_width (all i) (below_is i)) (map (λ x. x % 2 ^ low_width (all i) (below_is i)) items))
    ∙ ap (packed l) (lows_back l 0 ones lows (many ∙ sym many_lows) lows_small)
    ∙ packed_again l count low (length-take-le k words (omega arith)) (all_taken (λ w. w < 2 ^ 64) k words small) first.0 in
    let number : sum_by (λ (p : ℕ × ℕ). 2 ^ (p.1 / 2 ^ l + p.0)) (enumerate_from 0 items) ≡ x =
    sum_is l 0 items ∙ ap powers (places_back l 0 ones lows (many ∙ sym many_lows) (ones_rise bits 0 x) lows_small) ∙ ones_sum bits 0 x ∙ whole_number x bits under in
    let upper_again : upper_words items ≡ upper =
    (λ i. number_words (upper_bits (all i) (below_is i)) (sum_by (λ (p : ℕ × ℕ). 2 ^ (p.1 / 2 ^ low_width (all i) (below_is i) + p.0)) (enumerate_from 0 items)))
    ∙ ap (number_words bits) number
    ∙ ap (λ m. lowest_digits (2 ^ 64) m x) (sym (length-take-le j (drop k words) (omega arith)))
    ∙ digits_of_number (2 ^ 64) (lit< tt) upper (all_taken (λ w. w < 2 ^ 64) j (drop k words) (all_dropped (λ w. w < 2 ^ 64) k words small)) in
    let whole : upper ≡ drop k words = take_all j (drop k words) (omega arith) in
    record {
      size = all;
      end = below_is;
      keeps = fourth.0;
      parts = (λ i. low_again i ++ (upper_again ∙ whole) i) ∙ take-append-drop k words;
    }

-- words pass exactly where they are the words of a list
pub valid_exactly : (count below : ℕ) (words : List ℕ) → 0 < count → AreWords words → length words ≡ low_size count below + upper_size count below → (is_sums_list count below words ≡ true) ↔ ((items : List ℕ) × IsEncoded count below words items)
valid_exactly count below words some small size = (
  λ valid. (numbers_in count below words, valid_is_encoded count below words small size valid),
  λ (items, encoded). encoded_is_valid count below words items some encoded,
)

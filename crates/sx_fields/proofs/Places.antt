-- Where fields lie in the words of a bank.
use Rattle.std.proofs.Common.{◌≡◌, ℕ, zero, suc, ◌+◌, ◌-◌, ◌*◌, ◌/◌, ◌%◌, ◌^◌, ◌<◌, ◌≤◌, List, [], ◌∷◌, All, length, get_or, set, replicate, take, drop, refl, sym, ap, subst, ◌∙◌, arith}
use Rattle.std.proofs.lemmas.List.{get_or-drop}
use Rattle.std.proofs.lemmas.List.Elements.{recursion_from_All, All-drop, All-from_get_or}
use Rattle.std.proofs.lemmas.Nat.{row_fits, mul-le, pow_pos, mod_below}
use Rattle.std.proofs.Math.Nat.{pow-zero, pow-succ', mod-one, zero-mod, zero-div, mul_assoc, add-mul-mod_self_left, add-mul-div_left}
use Rattle.sx_spec.specs.Fields.{words_for, fields, words_number}
use Rattle.sx_spec.proofs.Digits.{length-lowest_digits, power_of_power}
use Rattle.sx_spec_strings.specs.Numbers.{lowest_digits}
use Rattle.sx_fields.proofs.WordNumbers.{AreWords, power_split, digit_at, digit_set}
use Rattle.sx_fields.proofs.WordFields.{field_number, number_inside, number_across}

-- ---- where

module _ (i len width : ℕ) (within : i < len) where
  -- a field ends no later than all fields
  pub field_ends : i * width + width ≤ len * width
  field_ends = row_fits i width len width within (omega arith)

  -- how many bits there are at most
  pub bits_small : len ≤ 2 ^ 32 → width ≤ 64 → i * width < 2 ^ 40
  bits_small short narrow = let most = mul-le len width (2 ^ 32) 64 short narrow in let end = field_ends in omega arith

  pub word_within : 0 < width → i * width / 64 < words_for (len * width)
  word_within some = let end = field_ends in omega arith

  pub next_within : 64 < i * width % 64 + width → i * width / 64 + 1 < words_for (len * width)
  next_within over = let end = field_ends in omega arith

-- ---- what

pub length-fields : (width len : ℕ) (words : List ℕ) → length (fields width len words) ≡ len
length-fields width len words = length-lowest_digits (2 ^ width) len (words_number words)

-- the fields are below 2 to the width
pub fields_fit : (width len : ℕ) (words : List ℕ) → All (λ x. x < 2 ^ width) (fields width len words)
fields_fit width len words =
    All-from_get_or (λ x. x < 2 ^ width) (fields width len words) 0
    (λ i within. rw (digit_at (2 ^ width) (pow_pos width) len (words_number words) i (let e = length-fields width len words in omega arith))
    (mod_below (words_number words / (2 ^ width) ^ i) (2 ^ width) (pow_pos width)))

-- a field of no bits is 0
pub field_empty : (width len i : ℕ) (words : List ℕ) → width ≡ 0 → i < len → get_or (fields width len words) i 0 ≡ 0
field_empty width len i words none within =
    digit_at (2 ^ width) (pow_pos width) len (words_number words) i within
    ∙ (let one : 2 ^ width ≡ 1 = ap (λ k. 2 ^ k) none ∙ pow-zero 2 in ap (λ m. words_number words / (2 ^ width) ^ i % m) one)
    ∙ mod-one (words_number words / (2 ^ width) ^ i)

-- a field in the words of a bank from a word on
module _ (bank : List ℕ) (first width len i : ℕ) (small : All (λ w. w < 2 ^ 64) bank) (within : i < len) where
  words_from : AreWords (drop first bank)
  words_from = recursion_from_All (λ w. w < 2 ^ 64) (drop first bank) (All-drop (λ w. w < 2 ^ 64) first bank small)

  pub bank_inside : i * width % 64 + width ≤ 64 → get_or bank (first + i * width / 64) 0 / 2 ^ (i * width % 64) % 2 ^ width ≡ get_or (fields width len (drop first bank)) i 0
  bank_inside fits =
      ap (λ w. w / 2 ^ (i * width % 64) % 2 ^ width) (sym (get_or-drop first bank (i * width / 64) 0))
      ∙ sym (field_number (drop first bank) width len i within ∙ number_inside (drop first bank) width (i * width / 64) (i * width % 64) (i * width) words_from (omega arith) fits)

  pub bank_across : width ≤ 64 → (get_or bank (first + i * width / 64) 0 / 2 ^ (i * width % 64) + get_or bank (first + i * width / 64 + 1) 0 * 2 ^ (64 - i * width % 64)) % 2 ^ width ≡ get_or (fields width len (drop first bank)) i 0
  bank_across narrow =
      let k = i * width / 64 in
      let next : get_or bank (first + k + 1) 0 ≡ get_or (drop first bank) (suc k) 0 =
      (let e : first + k + 1 ≡ first + suc k = omega arith in ap (λ n. get_or bank n 0) e) ∙ sym (get_or-drop first bank (suc k) 0) in
      (λ j. (sym (get_or-drop first bank k 0) j / 2 ^ (i * width % 64) + next j * 2 ^ (64 - i * width % 64)) % 2 ^ width)
      ∙ sym (field_number (drop first bank) width len i within ∙ number_across (drop first bank) width k (i * width % 64) (i * width) words_from (omega arith) (64 - i * width % 64) (omega arith) narrow)

-- ---- changes

-- a field of no bits is not there to be changed
pub put_nothing : (x at v width : ℕ) → width ≡ 0 → v < 2 ^ width → x + x / 2 ^ at % 2 ^ width * 2 ^ at ≡ x + v * 2 ^ at
put_nothing x at v width none fits =
    let one : 2 ^ width ≡ 1 = ap (λ k. 2 ^ k) none ∙ pow-zero 2 in
    let zero_bits : x / 2 ^ at % 2 ^ width ≡ 0 = ap (λ m. x / 2 ^ at % m) one ∙ mod-one (x / 2 ^ at) in
    let v_none : v ≡ 0 = omega arith in
    λ i. x + (zero_bits ∙ sym v_none) i * 2 ^ at

-- words of which one field changes hold the same fields but for it
pub changed_fields : (words new : List ℕ) (width len i v : ℕ) → i < len → v < 2 ^ width → words_number words < 2 ^ (len * width) → words_number new + words_number words / 2 ^ (i * width) % 2 ^ width * 2 ^ (i * width) ≡ words_number words + v * 2 ^ (i * width) → (fields width len new ≡ set (fields width len words) i v) × (words_number new < 2 ^ (len * width))
changed_fields words new width len i v within fits below change =
    let base = 2 ^ width in
    let all : base ^ len ≡ 2 ^ (len * width) = power_of_power width len in
    let each : base ^ i ≡ 2 ^ (i * width) = power_of_power width i in
    let x = words_number words in
    let y = words_number new in
    let change' : y + x / base ^ i % base * base ^ i ≡ x + v * base ^ i = subst (λ m. y + x / m % base * m ≡ x + v * m) (sym each) change in
    let (digits, small) = digit_set base (pow_pos width) len x y i v fits within (subst (λ m. x < m) (sym all) below) change' in
    (digits, subst (λ m. y < m) all small)

-- no words but zeros
pub zeros_number : (n : ℕ) → words_number (replicate n 0) ≡ 0
zeros_number zero = refl
zeros_number (suc n) = let rest = zeros_number n in omega arith

pub zero_digits : (base n : ℕ) → lowest_digits base n 0 ≡ replicate n 0
unfolding lowest_digits
zero_digits base zero = refl
zero_digits base (suc n) = let low = zero-mod base in let high = zero-div base in λ i. low i ∷ (ap (lowest_digits base n) high ∙ zero_digits base n) i

-- ---- more words than the fields need

-- the words before k, and those from k on above them
pub number_split : (words : List ℕ) (k : ℕ) → k ≤ length words → words_number words ≡ words_number (take k words) + 2 ^ (64 * k) * words_number (drop k words)
number_split words zero within = let one : 2 ^ (64 * 0) ≡ 1 = refl in rw one (omega arith)
number_split [] (suc k) within = absurd (omega arith)
number_split (w ∷ words) (suc k) within =
    let rest = number_split words k (omega arith) in
    let power : 2 ^ (64 * suc k) ≡ 2 ^ 64 * 2 ^ (64 * k) = power_split 64 (64 * k) (64 * suc k) (omega arith) in
    let above : 2 ^ (64 * suc k) * words_number (drop k words) ≡ 2 ^ 64 * (2 ^ (64 * k) * words_number (drop k words)) =
    ap (λ m. m * words_number (drop k words)) power ∙ mul_assoc (2 ^ 64) (2 ^ (64 * k)) (words_number (drop k words)) in
    omega arith

-- the digits of a number don't tell what stands above them
low_digits : (base n x y : ℕ) → 0 < base → lowest_digits base n (x + base ^ n * y) ≡ lowest_digits base n x
unfolding lowest_digits
low_digits base zero x y some = refl
low_digits base (suc n) x y some =
    let whole : base ^ suc n * y ≡ base * (base ^ n * y) = ap (λ m. m * y) (pow-succ' base n) ∙ mul_assoc base (base ^ n) y in
    let low : (x + base ^ suc n * y) % base ≡ x % base = ap (λ m. (x + m) % base) whole ∙ add-mul-mod_self_left x base (base ^ n * y) in
    let high : (x + base ^ suc n * y) / base ≡ x / base + base ^ n * y = ap (λ m. (x + m) / base) whole ∙ add-mul-div_left x (base ^ n * y) some in
    λ i. low i ∷ (ap (lowest_digits base n) high ∙ low_digits base n (x / base) y some) i

-- fields are those of the words that hold them, whatever words follow
pub fields_taken : (width len k : ℕ) (words : List ℕ) → k ≤ length words → len * width ≤ 64 * k → fields width len (take k words) ≡ fields width len words
fields_taken width len k words within hold =
    let base = 2 ^ width in
    let r = 64 * k - len * width in
    let power : 2 ^ (64 * k) ≡ base ^ len * 2 ^ r = power_split (len * width) r (64 * k) (omega arith) ∙ ap (λ m. m * 2 ^ r) (sym (power_of_power width len)) in
    let whole : words_number words ≡ words_number (take k words) + base ^ len * (2 ^ r * words_number (drop k words)) =
    number_split words k within
    ∙ ap (λ m. words_number (take k words) + m) (ap (λ m. m * words_number (drop k words)) power ∙ mul_assoc (base ^ len) (2 ^ r) (words_number (drop k words))) in
    sym (ap (lowest_digits base len) whole ∙ low_digits base len (words_number (take k words)) (2 ^ r * words_number (drop k words)) (pow_pos width))

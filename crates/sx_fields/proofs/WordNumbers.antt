-- The number that words write, its digits, and what a change of one digit or one word does to it.
use Rattle.std.proofs.Common.{◌≡◌, ℕ, zero, suc, ◌+◌, ◌*◌, ◌/◌, ◌%◌, ◌^◌, ◌<◌, List, [], ◌∷◌, length, get_or, set, drop, refl, sym, ap, subst, ◌∙◌, arith, lit<, zero-add}
use Rattle.std.specs.List.{AllByRecursion}
use Rattle.std.proofs.lemmas.Nat.{pow-add, div-add-mod', div-mul-add, mod-mul-add}
use Rattle.std.proofs.Math.Nat.{add-mul-mod_self_left, add-mul-div_left, div-eq_of_lt, div-lt_iff_lt-mul, div-div-eq-div-mul, div-one, mul_comm, mul_assoc, pow-succ', pow-zero, zero-div}
use Rattle.sx_spec.specs.Fields.{words_number}
use Rattle.sx_spec_strings.specs.Numbers.{lowest_digits}

-- words of 64 bits
abbrev pub AreWords : List ℕ → Type 0
AreWords words = AllByRecursion (λ w. w < 2 ^ 64) words

-- ---- powers

pub power_split : (a b c : ℕ) → a + b ≡ c → 2 ^ c ≡ 2 ^ a * 2 ^ b
power_split a b c e = ap (λ k. 2 ^ k) (sym e) ∙ pow-add 2 a b

-- ---- digits

module _ (base : ℕ) (some : 0 < base) where
  -- digit i of a number
  pub digit_at : (n x i : ℕ) → i < n → get_or (lowest_digits base n x) i 0 ≡ x / base ^ i % base
  unfolding lowest_digits
  digit_at zero x i within = absurd (omega arith)
  digit_at (suc n) x zero within = let e : x / base ^ 0 ≡ x = ap (λ m. x / m) (pow-zero base) ∙ div-one x in sym (ap (λ m. m % base) e)
  digit_at (suc n) x (suc i) within =
      digit_at n (x / base) i (omega arith)
      ∙ ap (λ m. m % base) (div-div-eq-div-mul x base (base ^ i) ∙ ap (λ m. x / m) (sym (pow-succ' base i)))

  -- a number whose digit i becomes v
  pub digit_set : (n x y i v : ℕ) → v < base → i < n → x < base ^ n → y + x / base ^ i % base * base ^ i ≡ x + v * base ^ i → (lowest_digits base n y ≡ set (lowest_digits base n x) i v) × (y < base ^ n)
  unfolding lowest_digits
  digit_set zero x y i v fits within small change = absurd (omega arith)
  digit_set (suc n) x y zero v fits within small change =
      let whole : base ^ suc n ≡ base ^ n * base = pow-succ' base n ∙ mul_comm base (base ^ n) in
      let unit : x / base ^ 0 ≡ x = ap (λ m. x / m) (pow-zero base) ∙ div-one x in
      let one = pow-zero base in
      let digit : x / base ^ 0 % base * base ^ 0 ≡ x % base = (λ i. unit i % base * one i) ∙ (let f : x % base * 1 ≡ x % base = omega arith in f) in
      let new : v * base ^ 0 ≡ v = ap (λ m. v * m) one ∙ (let f : v * 1 ≡ v = omega arith in f) in
      let split = div-add-mod' x base in
      let is : y ≡ x / base * base + v = omega arith in
      let low : y % base ≡ v = ap (λ m. m % base) is ∙ mod-mul-add (x / base) base v fits in
      let high : y / base ≡ x / base = ap (λ m. m / base) is ∙ div-mul-add (x / base) base v fits in
      let below : x / base < base ^ n = (div-lt_iff_lt-mul some).1 (subst (λ m. x < m) whole small) in
      let above : y / base < base ^ n = rw high below in
      ((λ j. low j ∷ lowest_digits base n (high j)), subst (λ m. y < m) (sym whole) ((div-lt_iff_lt-mul some).0 above))
  digit_set (suc n) x y (suc i) v fits within small change =
      let whole : base ^ suc n ≡ base ^ n * base = pow-succ' base n ∙ mul_comm base (base ^ n) in
      let power : base ^ suc i ≡ base ^ i * base = pow-succ' base i ∙ mul_comm base (base ^ i) in
      let f = x / base / base ^ i % base in
      let digit : x / base ^ suc i % base ≡ f = ap (λ m. x / m % base) (pow-succ' base i) ∙ ap (λ m. m % base) (sym (div-div-eq-div-mul x base (base ^ i))) in
      let old : x / base ^ suc i % base * base ^ suc i ≡ f * base ^ i * base = (λ j. digit j * power j) ∙ sym (mul_assoc f (base ^ i) base) in
      let new : v * base ^ suc i ≡ v * base ^ i * base = ap (λ m. v * m) power ∙ sym (mul_assoc v (base ^ i) base) in
      let sum : y + base * (f * base ^ i) ≡ x + base * (v * base ^ i) = omega arith in
      let low : y % base ≡ x % base = sym (add-mul-mod_self_left y base (f * base ^ i)) ∙ ap (λ m. m % base) sum ∙ add-mul-mod_self_left x base (v * base ^ i) in
      let high : y / base + f * base ^ i ≡ x / base + v * base ^ i =
      sym (add-mul-div_left y (f * base ^ i) some) ∙ ap (λ m. m / base) sum ∙ add-mul-div_left x (v * base ^ i) some in
      let below : x / base < base ^ n = (div-lt_iff_lt-mul some).1 (subst (λ m. x < m) whole small) in
      let rest = digit_set n (x / base) (y / base) i v fits (omega arith) below high in
      ((λ j. low j ∷ rest.0 j), subst (λ m. y < m) (sym whole) ((div-lt_iff_lt-mul some).0 rest.1))

-- ---- words

-- the words from k on write word k, and the words after it above it
pub number_front : (words : List ℕ) (k : ℕ) → words_number (drop k words) ≡ get_or words k 0 + 2 ^ 64 * words_number (drop (suc k) words)
number_front [] zero = refl
number_front [] (suc k) = refl
number_front (w ∷ words) zero = refl
number_front (w ∷ words) (suc k) = number_front words k

-- the words from k on write what is above the words before
pub number_drop : (words : List ℕ) (k : ℕ) → AreWords words → words_number words / 2 ^ (64 * k) ≡ words_number (drop k words)
number_drop words zero small = ap (λ m. words_number words / m) (let e : 64 * 0 ≡ 0 = refl in ap (λ m. 2 ^ m) e ∙ pow-zero 2) ∙ div-one (words_number words)
number_drop [] (suc k) small = zero-div (2 ^ (64 * suc k))
number_drop (w ∷ words) (suc k) small =
    let power : 2 ^ (64 * suc k) ≡ 2 ^ 64 * 2 ^ (64 * k) = power_split 64 (64 * k) (64 * suc k) (omega arith) in
    let n = words_number words in
    let first : (w + 2 ^ 64 * n) / 2 ^ 64 ≡ n = add-mul-div_left w n (lit< tt) ∙ ap (λ q. q + n) (div-eq_of_lt small.0) ∙ zero-add n in
    ap (λ m. (w + 2 ^ 64 * n) / m) power
    ∙ sym (div-div-eq-div-mul (w + 2 ^ 64 * n) (2 ^ 64) (2 ^ (64 * k)))
    ∙ ap (λ m. m / 2 ^ (64 * k)) first
    ∙ number_drop words k small.1

-- the number from bit s of word k on
pub number_from_bit : (words : List ℕ) (k s at : ℕ) → AreWords words → 64 * k + s ≡ at → words_number words / 2 ^ at ≡ words_number (drop k words) / 2 ^ s
number_from_bit words k s at small is =
    ap (λ m. words_number words / m) (power_split (64 * k) s at is)
    ∙ sym (div-div-eq-div-mul (words_number words) (2 ^ (64 * k)) (2 ^ s))
    ∙ ap (λ m. m / 2 ^ s) (number_drop words k small)

-- a word becomes v
pub number_set : (words : List ℕ) (k v : ℕ) → k < length words → words_number (set words k v) + get_or words k 0 * 2 ^ (64 * k) ≡ words_number words + v * 2 ^ (64 * k)
number_set [] k v within = absurd (omega arith)
number_set (w ∷ words) zero v within = rw (let e : 2 ^ (64 * 0) ≡ 1 = refl in e) (omega arith)
number_set (w ∷ words) (suc k) v within =
    let power : 2 ^ (64 * suc k) ≡ 2 ^ 64 * 2 ^ (64 * k) = power_split 64 (64 * k) (64 * suc k) (omega arith) in
    let rest = number_set words k v (omega arith) in
    let old : get_or words k 0 * 2 ^ (64 * suc k) ≡ 2 ^ 64 * (get_or words k 0 * 2 ^ (64 * k)) = ap (λ m. get_or words k 0 * m) power ∙ (let f : get_or words k 0 * (2 ^ 64 * 2 ^ (64 * k)) ≡ 2 ^ 64 * (get_or words k 0 * 2 ^ (64 * k)) = omega arith in f) in
    let new : v * 2 ^ (64 * suc k) ≡ 2 ^ 64 * (v * 2 ^ (64 * k)) = ap (λ m. v * m) power ∙ (let f : v * (2 ^ 64 * 2 ^ (64 * k)) ≡ 2 ^ 64 * (v * 2 ^ (64 * k)) = omega arith in f) in
    omega arith

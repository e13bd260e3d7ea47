-- A field inside one word or across two: how it is read, and what the words are after a change of it.
use Rattle.std.proofs.Common.{◌≡◌, ◌≢◌, ℕ, suc, ◌+◌, ◌-◌, ◌*◌, ◌/◌, ◌%◌, ◌^◌, ◌<◌, ◌≤◌, List, length, get_or, set, drop, refl, sym, ap, subst, ◌∙◌, arith}
use Rattle.std.specs.Prelude.{bit_xor, bit_or, bit_and}
use Rattle.std.specs.Int.Bits.{xor_zero_r}
use Rattle.std.proofs.lemmas.List.{length-set, get_or-set_other}
use Rattle.std.proofs.lemmas.Nat.{pow_pos, div-add-mod', div-mul-add, mod-mul-add, shr_below, shl_below, or_comm, or_shifted, xor_lt, xor_block, xor_mod, xor_shr, and_mask, shl_whole, mod_below}
use Rattle.std.proofs.lemmas.Nat.Bits.{ones_shr}
use Rattle.std.proofs.Math.Nat.{add-mul-mod_self_left, add-mul-div_left, mod-eq_of_lt, mul_assoc, add-mul}
use Rattle.std.proofs.Math.Arith.{mod-mul}
use Rattle.sx_spec.specs.Fields.{words_number, fields}
use Rattle.sx_spec.proofs.Digits.{power_of_power}
use Rattle.sx_spec.proofs.Sums.{xor_twice}
use Rattle.sx_fields.proofs.WordNumbers.{AreWords, power_split, digit_at, number_front, number_from_bit, number_set}

-- ---- reading

-- a field inside a word, whatever stands above the word
pub inside_of : (w high s width : ℕ) → s + width ≤ 64 → (w + 2 ^ 64 * high) / 2 ^ s % 2 ^ width ≡ w / 2 ^ s % 2 ^ width
inside_of w high s width fits =
    let r = 64 - s - width in
    let power : 2 ^ 64 ≡ 2 ^ s * (2 ^ width * 2 ^ r) = power_split s (width + r) 64 (omega arith) ∙ ap (λ m. 2 ^ s * m) (power_split width r (width + r) refl) in
    let whole : 2 ^ 64 * high ≡ 2 ^ s * (2 ^ width * (2 ^ r * high)) = ap (λ m. m * high) power ∙ mul_assoc (2 ^ s) (2 ^ width * 2 ^ r) high ∙ ap (λ m. 2 ^ s * m) (mul_assoc (2 ^ width) (2 ^ r) high) in
    ap (λ m. (w + m) / 2 ^ s % 2 ^ width) whole
    ∙ ap (λ m. m % 2 ^ width) (add-mul-div_left w (2 ^ width * (2 ^ r * high)) (pow_pos s))
    ∙ add-mul-mod_self_left (w / 2 ^ s) (2 ^ width) (2 ^ r * high)

-- a field across two words, whatever stands above them
pub across_of : (w v high s t width : ℕ) → s + t ≡ 64 → width ≤ 64 → (w + 2 ^ 64 * (v + 2 ^ 64 * high)) / 2 ^ s % 2 ^ width ≡ (w / 2 ^ s + v * 2 ^ t) % 2 ^ width
across_of w v high s t width both narrow =
    let r = 64 - width in
    let power : 2 ^ 64 ≡ 2 ^ s * 2 ^ t = power_split s t 64 both in
    let power' : 2 ^ 64 ≡ 2 ^ width * 2 ^ r = power_split width r 64 (omega arith) in
    let whole : 2 ^ 64 * (v + 2 ^ 64 * high) ≡ 2 ^ s * (2 ^ t * (v + 2 ^ 64 * high)) = ap (λ m. m * (v + 2 ^ 64 * high)) power ∙ mul_assoc (2 ^ s) (2 ^ t) (v + 2 ^ 64 * high) in
    let above : 2 ^ t * (2 ^ 64 * high) ≡ 2 ^ width * (2 ^ r * (2 ^ t * high)) =
    (let f : 2 ^ t * (2 ^ 64 * high) ≡ 2 ^ 64 * (2 ^ t * high) = omega arith in f) ∙ ap (λ m. m * (2 ^ t * high)) power' ∙ mul_assoc (2 ^ width) (2 ^ r) (2 ^ t * high) in
    let split : w / 2 ^ s + 2 ^ t * (v + 2 ^ 64 * high) ≡ (w / 2 ^ s + v * 2 ^ t) + 2 ^ width * (2 ^ r * (2 ^ t * high)) = omega arith in
    ap (λ m. (w + m) / 2 ^ s % 2 ^ width) whole
    ∙ ap (λ m. m % 2 ^ width) (add-mul-div_left w (2 ^ t * (v + 2 ^ 64 * high)) (pow_pos s) ∙ split)
    ∙ add-mul-mod_self_left (w / 2 ^ s + v * 2 ^ t) (2 ^ width) (2 ^ r * (2 ^ t * high))

-- so many bits of the number of words, which begin at bit s of word k
module _ (words : List ℕ) (width k s at : ℕ) (small : AreWords words) (place : 64 * k + s ≡ at) where
  pub number_inside : s + width ≤ 64 → words_number words / 2 ^ at % 2 ^ width ≡ get_or words k 0 / 2 ^ s % 2 ^ width
  number_inside fits =
      ap (λ m. m % 2 ^ width) (number_from_bit words k s at small place)
      ∙ ap (λ m. m / 2 ^ s % 2 ^ width) (number_front words k)
      ∙ inside_of (get_or words k 0) (words_number (drop (suc k) words)) s width fits

  pub number_across : (t : ℕ) → s + t ≡ 64 → width ≤ 64 → words_number words / 2 ^ at % 2 ^ width ≡ (get_or words k 0 / 2 ^ s + get_or words (suc k) 0 * 2 ^ t) % 2 ^ width
  number_across t both narrow =
      ap (λ m. m % 2 ^ width) (number_from_bit words k s at small place)
      ∙ ap (λ m. m / 2 ^ s % 2 ^ width) (number_front words k ∙ ap (λ m. get_or words k 0 + 2 ^ 64 * m) (number_front words (suc k)))
      ∙ across_of (get_or words k 0) (get_or words (suc k) 0) (words_number (drop (suc (suc k)) words)) s t width both narrow

-- field i of words
pub field_number : (words : List ℕ) (width count i : ℕ) → i < count → get_or (fields width count words) i 0 ≡ words_number words / 2 ^ (i * width) % 2 ^ width
field_number words width count i within =
    digit_at (2 ^ width) (pow_pos width) count (words_number words) i within
    ∙ ap (λ m. words_number words / m % 2 ^ width) (power_of_power width i)

-- the mask of so many bits
mask_is : (width : ℕ) → width ≤ 64 → (2 ^ 64 - 1) / 2 ^ (64 - width) ≡ 2 ^ width - 1
mask_is width narrow = let back : 64 - (64 - width) ≡ width = omega arith in rw back at (ones_shr 64 (64 - width) (omega arith))

-- the bits under the mask of so many bits
pub masked : (x width : ℕ) → width ≤ 64 → bit_and x ((2 ^ 64 - 1) / 2 ^ (64 - width)) ≡ x % 2 ^ width
masked x width narrow = ap (bit_and x) (mask_is width narrow) ∙ and_mask x width

-- a shift to the left in 64 bits keeps the low bits
shifted : (v s t : ℕ) → s + t ≡ 64 → v * 2 ^ t % 2 ^ 64 ≡ v % 2 ^ s * 2 ^ t
shifted v s t both =
    let power : 2 ^ 64 ≡ 2 ^ t * 2 ^ s = power_split t s 64 (omega arith) in
    let split = div-add-mod' v (2 ^ s) in
    let is : v * 2 ^ t ≡ v % 2 ^ s * 2 ^ t + 2 ^ 64 * (v / 2 ^ s) =
    ap (λ m. m * 2 ^ t) (sym split) ∙ add-mul (v / 2 ^ s * 2 ^ s) (v % 2 ^ s) (2 ^ t)
    ∙ (let f : v / 2 ^ s * 2 ^ s * 2 ^ t + v % 2 ^ s * 2 ^ t ≡ v % 2 ^ s * 2 ^ t + (2 ^ t * 2 ^ s) * (v / 2 ^ s) = omega arith in f)
    ∙ ap (λ m. v % 2 ^ s * 2 ^ t + m * (v / 2 ^ s)) (sym power) in
    let low : v % 2 ^ s < 2 ^ s = mod_below v (2 ^ s) (pow_pos s) in
    let fit : v % 2 ^ s * 2 ^ t < 2 ^ 64 = subst (λ m. v % 2 ^ s * 2 ^ t < 2 ^ m) both (shl_below (v % 2 ^ s) s t low) in
    ap (λ m. m % 2 ^ 64) is ∙ add-mul-mod_self_left (v % 2 ^ s * 2 ^ t) (2 ^ 64) (v / 2 ^ s) ∙ mod-eq_of_lt fit

-- two words joined by an or of shifts, and cut
pub joined_words : (w v s t width : ℕ) → w < 2 ^ 64 → s + t ≡ 64 → width ≤ 64 → bit_or (w / 2 ^ s) (v * 2 ^ t % 2 ^ 64) % 2 ^ width ≡ (w / 2 ^ s + v * 2 ^ t) % 2 ^ width
joined_words w v s t width small both narrow =
    let r = 64 - width in
    let low : w / 2 ^ s < 2 ^ t = shr_below w t s (subst (λ m. w < 2 ^ m) (let e : 64 ≡ t + s = omega arith in e) small) in
    let cut = shifted v s t both in
    let join : bit_or (w / 2 ^ s) (v * 2 ^ t % 2 ^ 64) ≡ v % 2 ^ s * 2 ^ t + w / 2 ^ s =
    ap (bit_or (w / 2 ^ s)) cut ∙ or_comm (w / 2 ^ s) (v % 2 ^ s * 2 ^ t) ∙ or_shifted (v % 2 ^ s) t (w / 2 ^ s) low in
    let power : 2 ^ 64 ≡ 2 ^ t * 2 ^ s = power_split t s 64 (omega arith) in
    let power' : 2 ^ 64 ≡ 2 ^ width * 2 ^ r = power_split width r 64 (omega arith) in
    let split = div-add-mod' v (2 ^ s) in
    let is : v * 2 ^ t ≡ v % 2 ^ s * 2 ^ t + 2 ^ width * (2 ^ r * (v / 2 ^ s)) =
    ap (λ m. m * 2 ^ t) (sym split) ∙ add-mul (v / 2 ^ s * 2 ^ s) (v % 2 ^ s) (2 ^ t)
    ∙ (let f : v / 2 ^ s * 2 ^ s * 2 ^ t + v % 2 ^ s * 2 ^ t ≡ v % 2 ^ s * 2 ^ t + (2 ^ t * 2 ^ s) * (v / 2 ^ s) = omega arith in f)
    ∙ ap (λ m. v % 2 ^ s * 2 ^ t + m * (v / 2 ^ s)) (sym power ∙ power')
    ∙ ap (λ m. v % 2 ^ s * 2 ^ t + m) (mul_assoc (2 ^ width) (2 ^ r) (v / 2 ^ s)) in
    let sum : w / 2 ^ s + v * 2 ^ t ≡ (v % 2 ^ s * 2 ^ t + w / 2 ^ s) + 2 ^ width * (2 ^ r * (v / 2 ^ s)) = omega arith in
    ap (λ m. m % 2 ^ width) join
    ∙ sym (ap (λ m. m % 2 ^ width) sum ∙ add-mul-mod_self_left (v % 2 ^ s * 2 ^ t + w / 2 ^ s) (2 ^ width) (2 ^ r * (v / 2 ^ s)))

-- ---- writing

-- a number whose bits from s on, without the lowest s, are changed
change_from : (w c s : ℕ) → bit_xor w (c * 2 ^ s) ≡ bit_xor (w / 2 ^ s) c * 2 ^ s + w % 2 ^ s
change_from w c s =
    let low : w % 2 ^ s < 2 ^ s = mod_below w (2 ^ s) (pow_pos s) in
    let zeros : c * 2 ^ s ≡ c * 2 ^ s + 0 = omega arith in
    (λ i. bit_xor (sym (div-add-mod' w (2 ^ s)) i) (zeros i))
    ∙ xor_block s (w / 2 ^ s) c (w % 2 ^ s) 0 low (pow_pos s)
    ∙ ap (λ m. bit_xor (w / 2 ^ s) c * 2 ^ s + m) (xor_zero_r (w % 2 ^ s))

-- a number whose lowest bits are changed
change_low : (x c width : ℕ) → c < 2 ^ width → bit_xor x c ≡ x / 2 ^ width * 2 ^ width + bit_xor (x % 2 ^ width) c
change_low x c width fits =
    let low : x % 2 ^ width < 2 ^ width = mod_below x (2 ^ width) (pow_pos width) in
    let zeros : c ≡ 0 * 2 ^ width + c = omega arith in
    (λ i. bit_xor (sym (div-add-mod' x (2 ^ width)) i) (zeros i))
    ∙ xor_block width (x / 2 ^ width) 0 (x % 2 ^ width) c low fits
    ∙ ap (λ m. m * 2 ^ width + bit_xor (x % 2 ^ width) c) (xor_zero_r (x / 2 ^ width))

-- a word with a field inside changed to v
pub inside_changed : (w v s width : ℕ) → v < 2 ^ width → s + width ≤ 64 → (let f = w / 2 ^ s % 2 ^ width in bit_xor w (bit_xor f v * 2 ^ s % 2 ^ 64) + f * 2 ^ s ≡ w + v * 2 ^ s)
inside_changed w v s width fits inside =
    let f = w / 2 ^ s % 2 ^ width in
    let c = bit_xor f v in
    let old : f < 2 ^ width = mod_below (w / 2 ^ s) (2 ^ width) (pow_pos width) in
    let small : c < 2 ^ width = xor_lt width f v old fits in
    let whole : c * 2 ^ s % 2 ^ 64 ≡ c * 2 ^ s = shl_whole c width s 64 small (omega arith) in
    let high : bit_xor (w / 2 ^ s) c ≡ w / 2 ^ s / 2 ^ width * 2 ^ width + v = change_low (w / 2 ^ s) c width small ∙ ap (λ m. w / 2 ^ s / 2 ^ width * 2 ^ width + m) (xor_twice f v) in
    let is : bit_xor w (c * 2 ^ s % 2 ^ 64) ≡ (w / 2 ^ s / 2 ^ width * 2 ^ width + v) * 2 ^ s + w % 2 ^ s =
    ap (bit_xor w) whole ∙ change_from w c s ∙ ap (λ m. m * 2 ^ s + w % 2 ^ s) high in
    let split = div-add-mod' w (2 ^ s) in
    let split' : (w / 2 ^ s / 2 ^ width * 2 ^ width + f) * 2 ^ s ≡ w / 2 ^ s * 2 ^ s = ap (λ m. m * 2 ^ s) (div-add-mod' (w / 2 ^ s) (2 ^ width)) in
    let parts = add-mul (w / 2 ^ s / 2 ^ width * 2 ^ width) v (2 ^ s) in
    let parts' = add-mul (w / 2 ^ s / 2 ^ width * 2 ^ width) f (2 ^ s) in
    omega arith

-- two words with a field across them changed to v
pub across_changed : (w u v s t width : ℕ) → w < 2 ^ 64 → v < 2 ^ width → s + t ≡ 64 → t ≤ width → width ≤ 64 → (let f = (w / 2 ^ s + u * 2 ^ t) % 2 ^ width in (bit_xor w (bit_xor f v * 2 ^ s % 2 ^ 64) + 2 ^ 64 * bit_xor u (bit_xor f v / 2 ^ t)) + f * 2 ^ s ≡ (w + 2 ^ 64 * u) + v * 2 ^ s)
across_changed w u v s t width small fits both over narrow =
    let r = width - t in
    let a = w / 2 ^ s in
    let f = (a + u * 2 ^ t) % 2 ^ width in
    let c = bit_xor f v in
    let low : a < 2 ^ t = shr_below w t s (subst (λ m. w < 2 ^ m) (let e : 64 ≡ t + s = omega arith in e) small) in
    let power : 2 ^ width ≡ 2 ^ r * 2 ^ t = power_split r t width (omega arith) in
    let power' : 2 ^ 64 ≡ 2 ^ t * 2 ^ s = power_split t s 64 (omega arith) in
    let turned : a + u * 2 ^ t ≡ u * 2 ^ t + a = omega arith in
    let joined : f ≡ u % 2 ^ r * 2 ^ t + a =
    (λ i. turned i % power i) ∙ mod-mul (u * 2 ^ t + a) (pow_pos r) (pow_pos t)
    ∙ (λ i. div-mul-add u (2 ^ t) a low i % 2 ^ r * 2 ^ t + mod-mul-add u (2 ^ t) a low i) in
    let f_low : f % 2 ^ t ≡ a = ap (λ m. m % 2 ^ t) joined ∙ mod-mul-add (u % 2 ^ r) (2 ^ t) a low in
    let f_high : f / 2 ^ t ≡ u % 2 ^ r = ap (λ m. m / 2 ^ t) joined ∙ div-mul-add (u % 2 ^ r) (2 ^ t) a low in
    let c_low : c % 2 ^ t ≡ bit_xor a (v % 2 ^ t) = xor_mod f v t ∙ ap (λ m. bit_xor m (v % 2 ^ t)) f_low in
    let c_high : c / 2 ^ t ≡ bit_xor (u % 2 ^ r) (v / 2 ^ t) = xor_shr f v t ∙ ap (λ m. bit_xor m (v / 2 ^ t)) f_high in
    let high_fits : v / 2 ^ t < 2 ^ r = shr_below v r t (subst (λ m. v < 2 ^ m) (let e : width ≡ r + t = omega arith in e) fits) in
    let u_fits : u % 2 ^ r < 2 ^ r = mod_below u (2 ^ r) (pow_pos r) in
    let new_low : bit_xor w (c * 2 ^ s % 2 ^ 64) ≡ v % 2 ^ t * 2 ^ s + w % 2 ^ s =
    ap (bit_xor w) (shifted c t s (omega arith)) ∙ change_from w (c % 2 ^ t) s
    ∙ ap (λ m. m * 2 ^ s + w % 2 ^ s) (ap (bit_xor a) c_low ∙ xor_twice a (v % 2 ^ t)) in
    let new_high : bit_xor u (c / 2 ^ t) ≡ u / 2 ^ r * 2 ^ r + v / 2 ^ t =
    ap (bit_xor u) c_high ∙ change_low u (bit_xor (u % 2 ^ r) (v / 2 ^ t)) r (xor_lt r (u % 2 ^ r) (v / 2 ^ t) u_fits high_fits)
    ∙ ap (λ m. u / 2 ^ r * 2 ^ r + m) (xor_twice (u % 2 ^ r) (v / 2 ^ t)) in
    let w_split = div-add-mod' w (2 ^ s) in
    let u_split = div-add-mod' u (2 ^ r) in
    let v_split : v * 2 ^ s ≡ v / 2 ^ t * 2 ^ 64 + v % 2 ^ t * 2 ^ s =
    ap (λ m. m * 2 ^ s) (sym (div-add-mod' v (2 ^ t))) ∙ add-mul (v / 2 ^ t * 2 ^ t) (v % 2 ^ t) (2 ^ s) ∙ ap (λ m. m + v % 2 ^ t * 2 ^ s) (mul_assoc (v / 2 ^ t) (2 ^ t) (2 ^ s) ∙ ap (λ m. v / 2 ^ t * m) (sym power')) in
    let f_split : f * 2 ^ s ≡ u % 2 ^ r * 2 ^ 64 + a * 2 ^ s =
    ap (λ m. m * 2 ^ s) joined ∙ add-mul (u % 2 ^ r * 2 ^ t) a (2 ^ s) ∙ ap (λ m. m + a * 2 ^ s) (mul_assoc (u % 2 ^ r) (2 ^ t) (2 ^ s) ∙ ap (λ m. u % 2 ^ r * m) (sym power')) in
    omega arith

-- the words with a field inside a word changed to v
pub put_inside : (words : List ℕ) (width k s at v : ℕ) → AreWords words → k < length words → 64 * k + s ≡ at → v < 2 ^ width → s + width ≤ 64 → (let w = get_or words k 0 in let f = w / 2 ^ s % 2 ^ width in words_number (set words k (bit_xor w (bit_xor f v * 2 ^ s % 2 ^ 64))) + words_number words / 2 ^ at % 2 ^ width * 2 ^ at ≡ words_number words + v * 2 ^ at)
put_inside words width k s at v small within place fits inside =
    let w = get_or words k 0 in
    let f = w / 2 ^ s % 2 ^ width in
    let w' = bit_xor w (bit_xor f v * 2 ^ s % 2 ^ 64) in
    let p = 2 ^ (64 * k) in
    let is : words_number words / 2 ^ at % 2 ^ width ≡ f = number_inside words width k s at small place inside in
    let power : 2 ^ at ≡ 2 ^ s * p = power_split s (64 * k) at (omega arith) in
    let wordwise : w' * p + f * (2 ^ s * p) ≡ w * p + v * (2 ^ s * p) = scaled w' f w v (2 ^ s) p (inside_changed w v s width fits inside) in
    let old : words_number words / 2 ^ at % 2 ^ width * 2 ^ at ≡ f * (2 ^ s * p) = λ i. is i * power i in
    let new : v * 2 ^ at ≡ v * (2 ^ s * p) = ap (λ m. v * m) power in
    let whole = number_set words k w' within in
    omega arith
  where
    scaled : (a f b v q p : ℕ) → a + f * q ≡ b + v * q → a * p + f * (q * p) ≡ b * p + v * (q * p)
    scaled a f b v q p e = let h : (a + f * q) * p ≡ (b + v * q) * p = ap (λ m. m * p) e in omega arith

-- the words with a field across two words changed to v
pub put_across : (words : List ℕ) (width k s t at v : ℕ) → AreWords words → suc k < length words → get_or words k 0 < 2 ^ 64 → 64 * k + s ≡ at → v < 2 ^ width → s + t ≡ 64 → t ≤ width → width ≤ 64 → (let w = get_or words k 0 in let u = get_or words (suc k) 0 in let f = (w / 2 ^ s + u * 2 ^ t) % 2 ^ width in words_number (set (set words k (bit_xor w (bit_xor f v * 2 ^ s % 2 ^ 64))) (suc k) (bit_xor u (bit_xor f v / 2 ^ t))) + words_number words / 2 ^ at % 2 ^ width * 2 ^ at ≡ words_number words + v * 2 ^ at)
put_across words width k s t at v small within low place fits both over narrow =
    let w = get_or words k 0 in
    let u = get_or words (suc k) 0 in
    let f = (w / 2 ^ s + u * 2 ^ t) % 2 ^ width in
    let w' = bit_xor w (bit_xor f v * 2 ^ s % 2 ^ 64) in
    let u' = bit_xor u (bit_xor f v / 2 ^ t) in
    let p = 2 ^ (64 * k) in
    let is : words_number words / 2 ^ at % 2 ^ width ≡ f = number_across words width k s at small place t both narrow in
    let power : 2 ^ at ≡ 2 ^ s * p = power_split s (64 * k) at (omega arith) in
    let power' : 2 ^ (64 * suc k) ≡ 2 ^ 64 * p = power_split 64 (64 * k) (64 * suc k) (omega arith) in
    let wordwise : (w' + 2 ^ 64 * u') * p + f * (2 ^ s * p) ≡ (w + 2 ^ 64 * u) * p + v * (2 ^ s * p) =
    scaled (w' + 2 ^ 64 * u') f (w + 2 ^ 64 * u) v (2 ^ s) p (across_changed w u v s t width low fits both over narrow) in
    let old : words_number words / 2 ^ at % 2 ^ width * 2 ^ at ≡ f * (2 ^ s * p) = λ i. is i * power i in
    let new : v * 2 ^ at ≡ v * (2 ^ s * p) = ap (λ m. v * m) power in
    let first : words_number (set words k w') + w * p ≡ words_number words + w' * p = number_set words k w' (omega arith) in
    let there : suc k < length (set words k w') = rw length-set within in
    let second = number_set (set words k w') (suc k) u' there in
    let differ : suc k ≢ k = omega arith in
    let kept : get_or (set words k w') (suc k) 0 ≡ u = get_or-set_other words k (suc k) w' 0 differ in
    let moved : get_or (set words k w') (suc k) 0 * 2 ^ (64 * suc k) ≡ u * (2 ^ 64 * p) = λ i. kept i * power' i in
    let moved' : u' * 2 ^ (64 * suc k) ≡ u' * (2 ^ 64 * p) = ap (λ m. u' * m) power' in
    omega arith
  where
    scaled : (a f b v q p : ℕ) → a + f * q ≡ b + v * q → a * p + f * (q * p) ≡ b * p + v * (q * p)
    scaled a f b v q p e = let h : (a + f * q) * p ≡ (b + v * q) * p = ap (λ m. m * p) e in omega arith

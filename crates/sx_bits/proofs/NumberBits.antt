-- The bits of a number, the highest first, and the number that bits write.
use Rattle.std.proofs.Common.{◌≡◌, ℕ, zero, suc, ◌+◌, ◌-◌, ◌*◌, ◌/◌, ◌%◌, ◌^◌, ◌<◌, ◌≤◌, false, cond, length, get_or, refl, sym, ap, ◌∙◌, arith}
use Rattle.std.specs.Prelude.{◌==◌, fold}
use Rattle.std.specs.Int.{bit_at}
use Rattle.std.proofs.lemmas.List.{ext_get_or}
use Rattle.std.proofs.lemmas.Nat.{shr-shr, shr_split}
use Rattle.std.proofs.lemmas.Nat.Bits.{bit_at-zero, bit_at-lt, bit_at_cat_low, bit_at_cat_high}
use Rattle.std.proofs.Math.Nat.{mod-one, mod-eq_of_lt, pow-succ', pow-zero}
use Rattle.std.proofs.Math.Pow.{pow_pos}
use Rattle.sx_spec_strings.specs.Bits.{Bits, number_bits, bits_number}
use Rattle.sx_spec_strings.proofs.KeyBits.{low_split}
use Rattle.sx_spec.proofs.Signatures.{length-number_bits}

-- ---- the bits of a number

pub get_or-number_bits : (n x j : ℕ) → j < n → get_or (number_bits n x) j false ≡ (bit_at x (n - 1 - j) == 1)
unfolding number_bits
get_or-number_bits zero x j lt = absurd (omega arith)
get_or-number_bits (suc n) x zero lt =
    let e : n ≡ suc n - 1 - 0 = omega arith in
    ap (λ m. bit_at x m == 1) e
get_or-number_bits (suc n) x (suc j) lt =
    let e : n - 1 - j ≡ suc n - 1 - suc j = omega arith in
    get_or-number_bits n x j (omega arith) ∙ ap (λ m. bit_at x m == 1) e

bit_value : (b : ℕ) → b < 2 → cond (b == 1) 1 0 ≡ b
bit_value zero small = refl
bit_value (suc zero) small = refl
bit_value (suc (suc b)) small = absurd (omega arith)

one_more : (a b p r : ℕ) → (2 * a + b) * p + r ≡ a * (2 * p) + (b * p + r)
one_more a b p r = omega arith

fold-number_bits : (n x a : ℕ) → fold (λ m bit. 2 * m + cond bit 1 0) a (number_bits n x) ≡ a * 2 ^ n + x % 2 ^ n
unfolding number_bits
fold-number_bits zero x a =
    let e = pow-zero 2 in
    let f : x % 2 ^ 0 ≡ 0 = ap (λ m. x % m) e ∙ mod-one x in
    rw (f, e) (omega arith)
fold-number_bits (suc n) x a =
    let e = fold-number_bits n x (2 * a + cond (bit_at x n == 1) 1 0) in
    let v = bit_value (bit_at x n) (bit_at-lt x n) in
    e ∙ ap (λ m. (2 * a + m) * 2 ^ n + x % 2 ^ n) v
    ∙ one_more a (bit_at x n) (2 ^ n) (x % 2 ^ n)
    ∙ ap (λ m. a * m + (bit_at x n * 2 ^ n + x % 2 ^ n)) (sym (pow-succ' 2 n))
    ∙ ap (λ m. a * 2 ^ suc n + m) (sym (low_split n x))

-- a number is written by its bits
pub bits_number-number_bits : (n x : ℕ) → x < 2 ^ n → bits_number (number_bits n x) ≡ x
bits_number-number_bits n x small =
    let e = fold-number_bits n x 0 in
    let f = mod-eq_of_lt small in
    omega arith

-- the number with the bits of a string is what the string writes
pub bits_number_is : (bits : Bits) (n x : ℕ) → length bits ≡ n → x < 2 ^ n → ((j : ℕ) → j < n → get_or bits j false ≡ (bit_at x (n - 1 - j) == 1)) → bits_number bits ≡ x
bits_number_is bits n x long small each =
    let many = length-number_bits n x in
    let same : bits ≡ number_bits n x =
    ext_get_or false bits (number_bits n x) (omega arith) (λ j lt.
    let near : j < n = omega arith in
    each j near ∙ sym (get_or-number_bits n x j near)) in
    ap bits_number same ∙ bits_number-number_bits n x small

-- ---- numbers whose low bits are cleared

abbrev pub cleared : ℕ → ℕ → ℕ
cleared n u = n / 2 ^ u * 2 ^ u

pub cleared_le : (n u : ℕ) → cleared n u ≤ n
cleared_le n u = let e = shr_split n u in omega arith

pub cleared_none : (n : ℕ) → cleared n 0 ≡ n
cleared_none n = rw (pow-zero 2) (omega arith)

pub bit_cleared : (n u i : ℕ) → i < u → bit_at (cleared n u) i ≡ 0
bit_cleared n u i lt =
    let e : cleared n u ≡ n / 2 ^ u * 2 ^ u + 0 = omega arith in
    ap (λ m. bit_at m i) e ∙ bit_at_cat_low (n / 2 ^ u) u 0 i lt ∙ bit_at-zero i

pub bit_kept : (n u i : ℕ) → u ≤ i → bit_at (cleared n u) i ≡ bit_at n i
bit_kept n u i ge =
    let e : cleared n u ≡ n / 2 ^ u * 2 ^ u + 0 = omega arith in
    let f : u + (i - u) ≡ i = omega arith in
    ap (λ m. bit_at m i) e ∙ bit_at_cat_high (n / 2 ^ u) u 0 i (pow_pos u) ge
    ∙ ap (λ m. m % 2) (shr-shr n u (i - u)) ∙ ap (λ m. n / 2 ^ m % 2) f

-- ---- bits of shifted bytes

pub bit_of_mod : (n k i : ℕ) → i < k → bit_at (n % 2 ^ k) i ≡ bit_at n i
bit_of_mod n k i lt = sym (bit_at_cat_low (n / 2 ^ k) k (n % 2 ^ k) i lt) ∙ ap (λ m. bit_at m i) (shr_split n k)

-- a byte that begins in the middle of two: its bits are theirs from there on
pub bit_of_shifted : (high low shift j : ℕ) → low < 256 → shift < 8 → j < 8
    → bit_at ((high * 256 + low) / 2 ^ (8 - shift) % 256) (7 - j) ≡ bit_at (high * 256 + low) (15 - shift - j)
bit_of_shifted high low shift j small few lt =
    let both = high * 256 + low in
    let e : (8 - shift) + (7 - j) ≡ 15 - shift - j = omega arith in
    bit_of_mod (both / 2 ^ (8 - shift)) 8 (7 - j) (omega arith)
    ∙ ap (λ m. m % 2) (shr-shr both (8 - shift) (7 - j))
    ∙ ap (λ m. both / 2 ^ m % 2) e

-- The bytes of a number, the highest first, and their bits.
use Rattle.std.proofs.Common.{◌≡◌, ℕ, zero, suc, ◌+◌, ◌-◌, ◌*◌, ◌/◌, ◌%◌, ◌^◌, ◌<◌, ◌≤◌, List, length, get_or, take, refl, sym, ap, ◌∙◌, arith, inl, inr}
use Rattle.std.specs.Prelude.{bit_or}
use Rattle.std.specs.Int.{w64, bit_at, byte_at, bytes_high_first, to_be_bytes}
use Rattle.std.proofs.lemmas.List.{get_or-take, get_or_past, length-take}
use Rattle.std.proofs.lemmas.Bool.{cases_lt}
use Rattle.std.proofs.lemmas.Nat.{shr-shr, shr_below}
use Rattle.std.proofs.lemmas.Nat.Bits.{bit_at-zero, bit_at_or, bit_at_above, bit_at_cat_low, bit_at_cat_high}
use Rattle.std.proofs.Math.Nat.{pow-zero}
use Rattle.std.proofs.Math.Pow.{pow_pos}
use Rattle.sx_spec.proofs.Digits.{power_of_power}
use Rattle.sx_bits.proofs.NumberBits.{bit_of_mod}

pub length-bytes_high_first : (n x : ℕ) → length (bytes_high_first n x) ≡ n
length-bytes_high_first zero x = refl
length-bytes_high_first (suc n) x = ap suc (length-bytes_high_first n x)

pub get_or-bytes_high_first : (n x i : ℕ) → i < n → get_or (bytes_high_first n x) i 0 ≡ byte_at (n - 1 - i) x
get_or-bytes_high_first zero x i lt = absurd (omega arith)
get_or-bytes_high_first (suc n) x zero lt = let e : n ≡ suc n - 1 - 0 = omega arith in ap (λ k. byte_at k x) e
get_or-bytes_high_first (suc n) x (suc i) lt =
    let e : n - 1 - i ≡ suc n - 1 - suc i = omega arith in
    get_or-bytes_high_first n x i (omega arith) ∙ ap (λ k. byte_at k x) e

pub byte_is : (k x : ℕ) → byte_at k x ≡ x / 2 ^ (k * 8) % 256
byte_is zero x = rw (pow-zero 2) (omega arith)
byte_is (suc k) x = ap (λ m. x / m % 256) (power_of_power 8 (suc k))

-- a byte of a number has its bits
pub bit_of_byte : (k x b : ℕ) → b < 8 → bit_at (byte_at k x) b ≡ bit_at x (8 * k + b)
bit_of_byte k x b lt =
    let e : k * 8 + b ≡ 8 * k + b = omega arith in
    ap (λ m. bit_at m b) (byte_is k x)
    ∙ bit_of_mod (x / 2 ^ (k * 8)) 8 b lt
    ∙ ap (λ m. m % 2) (shr-shr x (k * 8) b)
    ∙ ap (λ m. x / 2 ^ m % 2) e

-- the bits of a number that eight bytes write
pub bit_of_eight : (bytes : List ℕ) (n q b : ℕ) → to_be_bytes w64 n ≡ take 8 bytes → q < 8 → b < 8 → bit_at n (8 * (7 - q) + b) ≡ bit_at (get_or bytes q 0) b
bit_of_eight bytes n q b same lq lb =
    sym (bit_of_byte (7 - q) n b lb)
    ∙ ap (λ m. bit_at m b) (sym (get_or-bytes_high_first 8 n q lq) ∙ ap (λ xs. get_or xs q 0) same ∙ get_or-take 8 bytes q 0 lq)

-- the front of a list of bytes holds bytes
pub bytes_of_front : (bytes : List ℕ) (n i : ℕ) → ((k : ℕ) → get_or bytes k 0 < 256) → get_or (take n bytes) i 0 < 256
bytes_of_front bytes n i small =
    elim (cases_lt i n) [
      | inl inside ↦ let e = get_or-take n bytes i 0 inside in let f = small i in omega arith
      | inr past ↦ let e = get_or_past (take n bytes) i 0 (let l = length-take n bytes in omega arith) in omega arith
    ]

-- ---- a word that begins in the middle of a byte

pub first_of_shifted : (high low shift k : ℕ) → low < 256 → shift < 8 → shift ≤ k → k < 64
    → bit_at (bit_or (high * 2 ^ shift % 2 ^ 64) (low / 2 ^ (8 - shift))) k ≡ bit_at high (k - shift)
first_of_shifted high low shift k small few le lt =
    let e : high * 2 ^ shift ≡ high * 2 ^ shift + 0 = omega arith in
    let f : shift + (8 - shift) ≡ 8 = omega arith in
    let below : low < 2 ^ (shift + (8 - shift)) = rw f small in
    let a = bit_of_mod (high * 2 ^ shift) 64 k lt ∙ ap (λ m. bit_at m k) e ∙ bit_at_cat_high high shift 0 k (pow_pos shift) le in
    let b = bit_at_above (low / 2 ^ (8 - shift)) shift k (shr_below low shift (8 - shift) below) le in
    let d = bit_at_or (high * 2 ^ shift % 2 ^ 64) (low / 2 ^ (8 - shift)) k in
    omega arith

pub last_of_shifted : (high low shift k : ℕ) → shift < 8 → k < shift
    → bit_at (bit_or (high * 2 ^ shift % 2 ^ 64) (low / 2 ^ (8 - shift))) k ≡ bit_at low (8 - shift + k)
last_of_shifted high low shift k few lt =
    let e : high * 2 ^ shift ≡ high * 2 ^ shift + 0 = omega arith in
    let a = bit_of_mod (high * 2 ^ shift) 64 k (omega arith) ∙ ap (λ m. bit_at m k) e ∙ bit_at_cat_low high shift 0 k lt ∙ bit_at-zero k in
    let b : bit_at (low / 2 ^ (8 - shift)) k ≡ bit_at low (8 - shift + k) = ap (λ m. m % 2) (shr-shr low (8 - shift) k) in
    let d = bit_at_or (high * 2 ^ shift % 2 ^ 64) (low / 2 ^ (8 - shift)) k in
    omega arith

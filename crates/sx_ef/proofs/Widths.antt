-- How many low bits a number of an Elias-Fano list has, and how many bits the upper part.
use Rattle.std.proofs.Common.{◌≡◌, ℕ, suc, ◌-◌, ◌*◌, ◌/◌, ◌^◌, ◌<◌, ◌≤◌, ap, ◌∙◌, arith, inl, inr}
use Rattle.std.specs.Int.Count.{count_leading_zeros, leading_of_zero}
use Rattle.std.proofs.lemmas.Bool.{cases_lt}
use Rattle.std.proofs.lemmas.Nat.{leading_top, pow_pos}
use Rattle.std.proofs.Math.Nat.{pow-succ', div-lt_iff_lt-mul, div-le_self, div-mul-le_self}
use Rattle.std.proofs.Math.Pow.{pow_mono}
use Rattle.sx_spec_strings.specs.Numbers.{binary_digits}
use Rattle.sx_spec_strings.proofs.NumberLaws.{digits_hold, digits_least, digits_zero}
use Rattle.sx_spec.specs.Fields.{low_width, upper_bits}

-- the binary digits of a 64-bit number are those after its leading zeros
pub digits_by_zeros : (n : ℕ) → n < 2 ^ 64 → binary_digits n ≡ 64 - count_leading_zeros 64 n
digits_by_zeros n small =
    elim (cases_lt 0 n) [
      | inl some ↦
          let (j, at, low, high) = leading_top 64 n some small in
          let most : binary_digits n ≤ suc j = digits_least n (suc j) high in
          let hold = digits_hold n in
          let least : suc j ≤ binary_digits n = elim (cases_lt (binary_digits n) (suc j)) [
            | inl lt ↦ absurd (let less : 2 ^ binary_digits n ≤ 2 ^ j = pow_mono (let h : binary_digits n ≤ j = omega arith in h) in omega arith)
            | inr le ↦ le
          ] in
          omega arith
      | inr none ↦
          let is : n ≡ 0 = omega arith in
          let zeros : count_leading_zeros 64 n ≡ 64 = ap (count_leading_zeros 64) is ∙ leading_of_zero 64 in
          let digits : binary_digits n ≡ 0 = ap binary_digits is ∙ digits_zero in
          omega arith
    ]

-- a number below 2 ^ 64 has at most 64 digits, and so have its quotients
pub width_le : (count below : ℕ) → 0 < count → below < 2 ^ 64 → low_width count below ≤ 63
width_le count below some small =
    let part = div-mul-le_self below count in
    let less : below / count ≤ below = div-le_self below count in
    let few = digits_least (below / count) 64 (omega arith) in
    omega arith

-- the high parts are below twice the count
pub highs_few : (count below : ℕ) → 0 < count → 0 < below → (below - 1) / 2 ^ low_width count below < 2 * count
highs_few count below some above =
    let l = low_width count below in
    let q = below / count in
    let hold = digits_hold q in
    let le : binary_digits q ≤ suc l = omega arith in
    let power : 2 ^ binary_digits q ≤ 2 ^ suc l = pow_mono le in
    let split : 2 ^ suc l ≡ 2 * 2 ^ l = pow-succ' 2 l in
    let less : below < 2 ^ suc l * count = (div-lt_iff_lt-mul some).0 (omega arith) in
    let whole : 2 ^ suc l * count ≡ 2 * count * 2 ^ l = ap (λ m. m * count) split ∙ (let f : 2 * 2 ^ l * count ≡ 2 * count * 2 ^ l = omega arith in f) in
    (div-lt_iff_lt-mul (pow_pos l)).1 (omega arith)

-- so the upper part has fewer than three bits for each number
pub upper_few : (count below : ℕ) → 0 < count → 0 < below → upper_bits count below < 3 * count
upper_few count below some above = let few = highs_few count below some above in omega arith

-- The binary digits of a number are those after its leading zeros.
use Rattle.std.proofs.Common.{◌≡◌, ℕ, zero, suc, ◌+◌, ◌-◌, ◌*◌, ◌^◌, ◌<◌, ◌≤◌, arith, inl, inr}
use Rattle.std.proofs.lemmas.Bool.{cases_lt}
use Rattle.std.proofs.lemmas.Nat.{leading_length}
use Rattle.std.proofs.Math.Nat.{pow-succ'}
use Rattle.std.proofs.Math.Pow.{pow_mono}
use lib.Count.{count_leading_zeros}
use Rattle.sx_spec_strings.specs.Numbers.{binary_digits}
use Rattle.sx_spec_strings.proofs.NumberLaws.{digits_hold, digits_least}

-- the number of binary digits, by the zeros before them
pub digits_are : (n : ℕ) → n < 2 ^ 64 → 64 - count_leading_zeros 64 n ≡ binary_digits n
digits_are n small =
    let (m, all, below, wide) = leading_length 64 n small in
    let le = digits_least n m below in
    let ge = no_less n m wide in
    omega arith
  where
    no_less : (n m : ℕ) → 2 ^ m ≤ 2 * n + 1 → m ≤ binary_digits n
    no_less n zero wide = omega arith
    no_less n (suc m) wide =
        elim (cases_lt (binary_digits n) (suc m)) [
          | inl lt ↦
              let below = digits_hold n in
              let smaller : 2 ^ binary_digits n ≤ 2 ^ m = pow_mono (omega arith) in
              let twice = pow-succ' 2 m in
              absurd (omega arith)
          | inr ge ↦ ge
        ]

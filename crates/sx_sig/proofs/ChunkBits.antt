-- How many bits number the chunks.
use Rattle.std.proofs.Common.{◌≡◌, ℕ, zero, suc, ◌+◌, ◌-◌, ◌*◌, ◌/◌, ◌^◌, ◌<◌, ◌≤◌, true, arith, inl, inr}
use Rattle.std.specs.Prelude.{nat_le}
use Rattle.std.proofs.lemmas.Bool.{cases_lt, le-leb, leb-true}
use Rattle.std.proofs.lemmas.Nat.{leading_length, pow_pos}
use Rattle.std.proofs.Math.Nat.{pow-succ'}
use Rattle.std.proofs.Math.Pow.{pow_mono}
use lib.Count.{count_leading_zeros}
use Rattle.sx_spec_strings.specs.Numbers.{binary_digits}
use Rattle.sx_spec_strings.proofs.NumberLaws.{least_from_le, least_from_passes, digits_hold}
use Rattle.sx_spec.specs.Chunks.{chunk_bits, chunk_size}

-- so many chunks are enough
enough : (pairs c : ℕ) → pairs ≤ 1024 * 2 ^ c → nat_le pairs (chunk_size * 2 ^ c) ≡ true
enough pairs c le = le-leb pairs (1024 * 2 ^ c) le

pub chunk_bits_le : (pairs c : ℕ) → pairs ≤ 1024 * 2 ^ c → chunk_bits pairs ≤ c
chunk_bits_le pairs c le = least_from_le (λ k. nat_le pairs (chunk_size * 2 ^ k)) (binary_digits pairs) 0 c (omega arith) (enough pairs c le)

chunk_bits_hold : (pairs : ℕ) → pairs ≤ 1024 * 2 ^ chunk_bits pairs
chunk_bits_hold pairs =
    let d = binary_digits pairs in
    let below = digits_hold pairs in
    let at : nat_le pairs (chunk_size * 2 ^ d) ≡ true = enough pairs d (omega arith) in
    leb-true pairs (1024 * 2 ^ chunk_bits pairs) (least_from_passes (λ k. nat_le pairs (chunk_size * 2 ^ k)) d 0 d (omega arith) at)

-- no less are enough than a power above the number of full chunks
chunk_bits_ge : (pairs q m c : ℕ) → pairs ≤ 1024 * 2 ^ c → (0 < m → 1024 * q < pairs) → 2 ^ m ≤ 2 * q + 1 → m ≤ c
chunk_bits_ge pairs q zero c le full wide = omega arith
chunk_bits_ge pairs q (suc m) c le full wide =
    elim (cases_lt c (suc m)) [
      | inl lt ↦
          let smaller : 2 ^ c ≤ 2 ^ m = pow_mono (omega arith) in
          let twice = pow-succ' 2 m in
          let some = full (omega arith) in
          absurd (omega arith)
      | inr ge ↦ ge
    ]

pub chunk_bits_are : (pairs rest : ℕ) → pairs < 2 ^ 32 → rest ≡ pairs - 1 → 32 - count_leading_zeros 32 (rest / 1024) ≡ chunk_bits pairs
chunk_bits_are pairs rest small less =
    let q = rest / 1024 in
    let (m, all, below, wide) = leading_length 32 q (omega arith) in
    let e : 32 - count_leading_zeros 32 q ≡ m = omega arith in
    let le : chunk_bits pairs ≤ m = chunk_bits_le pairs m (omega arith) in
    let ge : m ≤ chunk_bits pairs = chunk_bits_ge pairs q m (chunk_bits pairs) (chunk_bits_hold pairs) (λ some. positive pairs rest m less some wide) wide in
    omega arith
  where
    positive : (pairs rest m : ℕ) → rest ≡ pairs - 1 → 0 < m → 2 ^ m ≤ 2 * (rest / 1024) + 1 → 1024 * (rest / 1024) < pairs
    positive pairs rest zero less some wide = absurd (omega arith)
    positive pairs rest (suc m) less some wide =
        let a = pow-succ' 2 m in
        let b = pow_pos m in
        omega arith

pub chunk_bits_few : (pairs rest : ℕ) → pairs < 2 ^ 32 → rest ≡ pairs - 1 → 32 - count_leading_zeros 32 (rest / 1024) ≤ 22
chunk_bits_few pairs rest small less =
    let same = chunk_bits_are pairs rest small less in
    let le = chunk_bits_le pairs 22 (omega arith) in
    omega arith

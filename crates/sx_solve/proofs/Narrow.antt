-- Numbers below powers of two, by their leading zeros.
use Rattle.std.proofs.Common.{◌≡◌, ℕ, ◌+◌, ◌*◌, ◌^◌, ◌<◌, ◌≤◌, List, get_or, arith, All, inl, inr, w64}
use Rattle.std.specs.Prelude.{◌↔◌}
use Rattle.std.specs.Int.{leading_zeros}
use Rattle.std.proofs.lemmas.Bool.{cases_lt}
use Rattle.std.proofs.lemmas.Nat.{leading_length}
use Rattle.std.proofs.lemmas.Grind.{pow_more}
use Rattle.std.proofs.Math.Nat.{pow-le-pow_right}

-- the least power of two above a number is at most each that is above it
least : (a m k : ℕ) → 2 ^ m ≤ 2 * a + 1 → a < 2 ^ k → m ≤ k
least a m k top above = elim (cases_lt k m) [
  | inr low ↦ low
  | inl high ↦
      let less : 2 ^ (k + 1) ≤ 2 ^ m = pow-le-pow_right {n = 2} (omega arith) {i = k + 1} {j = m} (omega arith) in
      let double : 2 ^ (k + 1) ≡ 2 ^ k * 2 = pow_more 2 k in
      absurd (omega arith)
]

pub narrow_iff : (greatest : ℕ) (cells : List ℕ) → greatest < 2 ^ 64 → All (λ x. x < 2 ^ 64) cells
    → All (λ x. leading_zeros w64 greatest ≤ leading_zeros w64 x) cells ↔ ((k : ℕ) → greatest < 2 ^ k → All (λ x. x < 2 ^ k) cells)
narrow_iff greatest cells small all_small =
    let (m, whole, below, top) = leading_length 64 greatest small in (
      λ lead k above i d within.
          let x = get_or cells i d in
          let (n, x_whole, x_below, x_top) = leading_length 64 x (all_small i d within) in
          let fewer = lead i d within in
          let first : m ≤ k = least greatest m k top above in
          let power : 2 ^ n ≤ 2 ^ k = pow-le-pow_right {n = 2} (omega arith) {i = n} {j = k} (omega arith) in
          omega arith,
      λ narrow i d within.
          let x = get_or cells i d in
          let (n, x_whole, x_below, x_top) = leading_length 64 x (all_small i d within) in
          let fewer : n ≤ m = least x n m x_top (narrow m below i d within) in
          omega arith,
    )

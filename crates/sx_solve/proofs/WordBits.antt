-- Bits of words: set, added, and the first that is set.
use Rattle.std.proofs.Common.{◌≡◌, ◌≢◌, ℕ, ◌+◌, ◌*◌, ◌/◌, ◌%◌, ◌^◌, ◌<◌, ◌≤◌, List, length, get_or, set, sym, ap, ◌∙◌, arith, inl, inr, w64}
use Rattle.std.specs.Prelude.{bit_xor, bit_or}
use Rattle.std.specs.Int.{bit_at, trailing_zeros}
use Rattle.std.proofs.lemmas.Bool.{cases_eq, cases_lt}
use Rattle.std.proofs.lemmas.List.{get_or-set_same, get_or-set_other, get_or_past}
use Rattle.std.proofs.lemmas.Nat.Bits.{bit_at-zero, bit_at_xor, bit_at-lt, bit_at_set_same, bit_at_set_other, bit_at-trailing_zeros}
use Rattle.sx_solve.specs.Rows.{bit}

pub bit_small : (words : List ℕ) (i : ℕ) → bit words i < 2
bit_small words i = bit_at-lt (get_or words (i / 64) 0) (i % 64)

-- past the words there is no bit
pub bit_past : (words : List ℕ) (i : ℕ) → length words ≤ i / 64 → bit words i ≡ 0
bit_past words i past = ap (λ w. bit_at w (i % 64)) (get_or_past words (i / 64) 0 past) ∙ bit_at-zero (i % 64)

pub bit_within : (words : List ℕ) (i : ℕ) → bit words i ≡ 1 → i / 64 < length words
bit_within words i one = elim (cases_lt (i / 64) (length words)) [
  | inl within ↦ within
  | inr past ↦ absurd (let none = bit_past words i past in omega arith)
]

module _ (words : List ℕ) (i : ℕ) (within : i / 64 < length words) where
  pub set_same : bit (set words (i / 64) (bit_or (get_or words (i / 64) 0) (1 * 2 ^ (i % 64) % 2 ^ 64))) i ≡ 1
  set_same =
      ap (λ w. bit_at w (i % 64)) (get_or-set_same words (i / 64) (bit_or (get_or words (i / 64) 0) (1 * 2 ^ (i % 64) % 2 ^ 64)) 0 within)
      ∙ bit_at_set_same w64 (get_or words (i / 64) 0) (i % 64) (omega arith)

  pub set_others : (j : ℕ) → j ≢ i → bit (set words (i / 64) (bit_or (get_or words (i / 64) 0) (1 * 2 ^ (i % 64) % 2 ^ 64))) j ≡ bit words j
  set_others j differ =
      elim (cases_eq (j / 64) (i / 64)) [
        | inl same ↦
            let apart : j % 64 ≢ i % 64 = λ e. differ (omega arith) in
            ap (λ k. bit_at (get_or (set words (i / 64) (bit_or (get_or words (i / 64) 0) (1 * 2 ^ (i % 64) % 2 ^ 64))) k 0) (j % 64)) same
            ∙ ap (λ w. bit_at w (j % 64)) (get_or-set_same words (i / 64) (bit_or (get_or words (i / 64) 0) (1 * 2 ^ (i % 64) % 2 ^ 64)) 0 within)
            ∙ bit_at_set_other w64 (get_or words (i / 64) 0) (i % 64) (omega arith) (j % 64) apart
            ∙ ap (λ k. bit_at (get_or words k 0) (j % 64)) (sym same)
        | inr other ↦ ap (λ w. bit_at w (j % 64)) (get_or-set_other words (i / 64) (j / 64) (bit_or (get_or words (i / 64) 0) (1 * 2 ^ (i % 64) % 2 ^ 64)) 0 other)
      ]

-- words that were added word by word
pub added_bits : (words others added : List ℕ) → length words ≡ length others → length added ≡ length words
    → ((k : ℕ) → k < length words → get_or added k 0 ≡ bit_xor (get_or words k 0) (get_or others k 0))
    → (i : ℕ) → bit added i ≡ (bit words i + bit others i) % 2
added_bits words others added same size each i =
    elim (cases_lt (i / 64) (length words)) [
      | inl within ↦ ap (λ w. bit_at w (i % 64)) (each (i / 64) within) ∙ bit_at_xor (get_or words (i / 64) 0) (get_or others (i / 64) 0) (i % 64)
      | inr past ↦
          let a = bit_past words i past in
          let b = bit_past others i (omega arith) in
          let c = bit_past added i (omega arith) in
          omega arith
    ]

-- the lowest bit of a word that isn't 0
pub first_is : (words : List ℕ) (k : ℕ) → 0 < get_or words k 0 → get_or words k 0 < 2 ^ 64 → bit words (64 * k + trailing_zeros w64 (get_or words k 0)) ≡ 1
first_is words k some small =
    let z = trailing_zeros w64 (get_or words k 0) in
    let (below, one, lower) = bit_at-trailing_zeros w64 (get_or words k 0) some small in
    let row : (64 * k + z) / 64 ≡ k = omega arith in
    let column : (64 * k + z) % 64 ≡ z = omega arith in
    ap (λ n. bit_at (get_or words n 0) ((64 * k + z) % 64)) row ∙ ap (bit_at (get_or words k 0)) column ∙ one

-- words that are all 0 have no bit
pub no_bit : (words : List ℕ) → ((k : ℕ) → k < length words → get_or words k 0 ≡ 0) → (i : ℕ) → bit words i ≡ 0
no_bit words none i = elim (cases_lt (i / 64) (length words)) [
  | inl within ↦ ap (λ w. bit_at w (i % 64)) (none (i / 64) within) ∙ bit_at-zero (i % 64)
  | inr past ↦ bit_past words i past
]

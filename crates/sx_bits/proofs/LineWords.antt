-- Words of a line's bits, and where two of them part.
use Rattle.std.proofs.Common.{◌≡◌, ℕ, suc, ◌+◌, ◌-◌, ◌*◌, ◌/◌, ◌%◌, ◌^◌, ◌<◌, ◌≤◌, false, List, length, get_or, take, drop, sym, ap, ◌∙◌, arith, inl, inr}
use Rattle.std.specs.Prelude.{◌==◌, min, bit_xor}
use Rattle.std.specs.Int.{bit_at}
use Rattle.std.proofs.lemmas.Bool.{cases_lt}
use Rattle.std.proofs.lemmas.List.{get_or-take, get_or-drop}
use Rattle.std.proofs.lemmas.Nat.{leading_top, le-div, div_below}
use Rattle.std.proofs.lemmas.Nat.Bits.{bit_at-zero, bit_at-lt, bit_at_xor, bit_at_above}
use Rattle.std.proofs.Math.Nat.{pow-succ'}
use lib.Count.{count_leading_zeros}
use Rattle.sx_spec_strings.specs.Bits.{Bits, key_bits, common_prefix}
use Rattle.sx_spec_strings.proofs.KeyBits.{same_bit as one_or_none}
use Rattle.sx_bits.proofs.LineBits.{bit_of_line}
use Rattle.sx_bits.proofs.Prefixes.{common_length}

-- nine bytes out of a line tell its bits
pub bit_of_nine : (line bytes : List ℕ) (start j word : ℕ) → ((k : ℕ) → k < 9 → get_or bytes k 0 ≡ get_or line (start / 8 + k) 0)
    → word ≡ bit_at (get_or bytes ((start % 8 + j) / 8) 0) (7 - (start % 8 + j) % 8) → j < 64
    → (word == 1) ≡ get_or (key_bits line) (start + j) false
bit_of_nine line bytes start j word copied is lt =
    let q = (start % 8 + j) / 8 in
    let e : start / 8 + q ≡ (start + j) / 8 = omega arith in
    let f : 7 - (start % 8 + j) % 8 ≡ 7 - (start + j) % 8 = omega arith in
    ap (λ m. m == 1) (is ∙ ap (λ b. bit_at b (7 - (start % 8 + j) % 8)) (copied q (omega arith) ∙ ap (λ m. get_or line m 0) e)
    ∙ ap (bit_at (get_or line ((start + j) / 8) 0)) f)
    ∙ sym (bit_of_line line (start + j))

pub nine_of_slice : (line : List ℕ) (first k : ℕ) → k < 9 → get_or (take (first + 9 - first) (drop first line)) k 0 ≡ get_or line (first + k) 0
nine_of_slice line first k lt = get_or-take (first + 9 - first) (drop first line) k 0 (omega arith) ∙ get_or-drop first line k 0

-- ---- two words

same_bit : (a b k : ℕ) → bit_at (bit_xor a b) k ≡ 0 → (bit_at a k == 1) ≡ (bit_at b k == 1)
same_bit a b k none =
    let e = bit_at_xor a b k in
    let la = bit_at-lt a k in
    let lb = bit_at-lt b k in
    let same : bit_at a k ≡ bit_at b k = omega arith in
    ap (λ m. m == 1) same

other_bit : (a b k : ℕ) → bit_at (bit_xor a b) k ≡ 1 → (bit_at a k == 1) ≡ (bit_at b k == 1) → ⊥
other_bit a b k one same =
    let e = bit_at_xor a b k in
    let la = bit_at-lt a k in
    let lb = bit_at-lt b k in
    let f = one_or_none (bit_at a k) (bit_at b k) la lb same in
    absurd (omega arith)

-- the bits of a number above its highest one, and that one
top_bit : (n j : ℕ) → 2 ^ j ≤ n → n < 2 ^ suc j → bit_at n j ≡ 1
top_bit n j low high =
    let e = pow-succ' 2 j in
    let q : n / 2 ^ j ≡ 1 = quotient_one n (2 ^ j) low (omega arith) in
    ap (λ m. m % 2) q
  where
    quotient_one : (n p : ℕ) → p ≤ n → n < 2 * p → n / p ≡ 1
    quotient_one n p low high =
        let some : 0 < p = omega arith in
        let least = le-div 1 n p some (omega arith) in
        let most = div_below n p 2 some high in
        omega arith

module _ (x y : Bits) (at a b : ℕ)
    (of_x : (j : ℕ) → j < 64 → at + j < length x → (bit_at a (63 - j) == 1) ≡ get_or x (at + j) false)
    (of_y : (j : ℕ) → j < 64 → at + j < length y → (bit_at b (63 - j) == 1) ≡ get_or y (at + j) false)
    (before : (j : ℕ) → j < at → j < min (length x) (length y) → get_or x j false ≡ get_or y j false) where
  -- bits in which the words agree
  agree_at : (j : ℕ) → at ≤ j → j < at + 64 → j < min (length x) (length y) → bit_at (bit_xor a b) (63 - (j - at)) ≡ 0 → get_or x j false ≡ get_or y j false
  agree_at j ge lt inside none =
      let i = j - at in
      let e : at + i ≡ j = omega arith in
      ap (λ m. get_or x m false) (sym e) ∙ sym (of_x i (omega arith) (omega arith)) ∙ same_bit a b (63 - i) none
      ∙ of_y i (omega arith) (omega arith) ∙ ap (λ m. get_or y m false) e

  pub agree_more : bit_xor a b ≡ 0 → (j : ℕ) → j < at + 64 → j < min (length x) (length y) → get_or x j false ≡ get_or y j false
  agree_more equal j lt inside =
      elim (cases_lt j at) [
        | inl early ↦ before j early inside
        | inr here ↦ agree_at j here lt inside (ap (λ m. bit_at m (63 - (j - at))) equal ∙ bit_at-zero (63 - (j - at)))
      ]

  pub parted : (n : ℕ) → 0 < bit_xor a b → bit_xor a b < 2 ^ 64 → at < min (length x) (length y)
      → n ≡ min (at + count_leading_zeros 64 (bit_xor a b)) (min (length x) (length y)) → n ≡ length (common_prefix x y)
  parted n some small inside is =
      let both = bit_xor a b in
      let zeros = count_leading_zeros 64 both in
      let (top, place, low, high) = leading_top 64 both some small in
      common_length x y n (omega arith) (omega arith)
      (λ j lt. elim (cases_lt j at) [
        | inl early ↦ before j early (omega arith)
        | inr here ↦
            agree_at j here (omega arith) (omega arith) (bit_at_above both (suc top) (63 - (j - at)) high (omega arith))
      ])
      (λ lx ly same.
      let e : n ≡ at + zeros = omega arith in
      let f : 63 - zeros ≡ top = omega arith in
      let differ : bit_at both (63 - zeros) ≡ 1 = ap (bit_at both) f ∙ top_bit both top low high in
      other_bit a b (63 - zeros) differ
      (of_x zeros (omega arith) (omega arith) ∙ ap (λ m. get_or x m false) (sym e) ∙ same
      ∙ ap (λ m. get_or y m false) e ∙ sym (of_y zeros (omega arith) (omega arith))))

-- where all bits agree that both have, the shorter is the common prefix
pub agreed : (x y : Bits) (at : ℕ) → min (length x) (length y) ≤ at
    → ((j : ℕ) → j < at → j < min (length x) (length y) → get_or x j false ≡ get_or y j false) → min (length x) (length y) ≡ length (common_prefix x y)
agreed x y at past before =
    common_length x y (min (length x) (length y)) (omega arith) (omega arith) (λ j lt. before j (omega arith) lt) (λ lx ly same. absurd (omega arith))

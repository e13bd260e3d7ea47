-- The bits of a line, one by one.
use Rattle.std.proofs.Common.{◌≡◌, ℕ, zero, suc, ◌-◌, ◌/◌, ◌%◌, false, List, [], ◌∷◌, ◌++◌, get_or, refl, sym, ap, ◌∙◌, arith, inl, inr}
use Rattle.std.specs.Prelude.{◌==◌}
use Rattle.std.specs.Int.{bit_at}
use Rattle.std.proofs.lemmas.Bool.{cases_lt}
use Rattle.std.proofs.lemmas.List.{get_or_append_left, get_or-append_right}
use Rattle.std.proofs.lemmas.Nat.Bits.{bit_at-zero}
use Rattle.sx_spec.proofs.Signatures.{length-number_bits}
use Rattle.sx_bits.proofs.NumberBits.{get_or-number_bits}
use Rattle.sx_spec_strings.specs.Bits.{number_bits, bytes_bits, key_bits}

-- ---- the bits of bytes

pub bit_of_bytes : (bytes : List ℕ) (p : ℕ) → get_or (bytes_bits bytes) p false ≡ (bit_at (get_or bytes (p / 8) 0) (7 - p % 8) == 1)
bit_of_bytes [] p = ap (λ m. m == 1) (sym (bit_at-zero (7 - p % 8)))
bit_of_bytes (b ∷ bytes) p =
    elim (cases_lt p 8) [
      | inl lt ↦
          let long = length-number_bits 8 b in
          let e : p / 8 ≡ 0 = omega arith in
          let f : 8 - 1 - p ≡ 7 - p % 8 = omega arith in
          get_or_append_left (number_bits 8 b) (bytes_bits bytes) false p (omega arith)
          ∙ get_or-number_bits 8 b p lt
          ∙ ap (λ m. bit_at b m == 1) f
          ∙ ap (λ m. bit_at (get_or (b ∷ bytes) m 0) (7 - p % 8) == 1) (sym e)
      | inr ge ↦
          let long = length-number_bits 8 b in
          let e : p / 8 ≡ suc ((p - 8) / 8) = omega arith in
          let f : p % 8 ≡ (p - 8) % 8 = omega arith in
          get_or-append_right (number_bits 8 b) (bytes_bits bytes) 8 p false long ge
          ∙ bit_of_bytes bytes (p - 8)
          ∙ ap (λ m. bit_at (get_or bytes ((p - 8) / 8) 0) (7 - m) == 1) (sym f)
          ∙ ap (λ m. bit_at (get_or (b ∷ bytes) m 0) (7 - p % 8) == 1) (sym e)
    ]

-- ---- the bits of a line

zero_after : (line : List ℕ) (i : ℕ) → get_or (line ++ 0 ∷ []) i 0 ≡ get_or line i 0
zero_after [] zero = refl
zero_after [] (suc i) = refl
zero_after (b ∷ line) zero = refl
zero_after (b ∷ line) (suc i) = zero_after line i

pub bit_of_line : (line : List ℕ) (p : ℕ) → get_or (key_bits line) p false ≡ (bit_at (get_or line (p / 8) 0) (7 - p % 8) == 1)
unfolding key_bits
bit_of_line line p = bit_of_bytes (line ++ 0 ∷ []) p ∙ ap (λ b. bit_at b (7 - p % 8) == 1) (zero_after line (p / 8))

-- Bytes of a line's bits from any bit on.
use Rattle.std.proofs.Common.{◌≡◌, ℕ, ◌+◌, ◌-◌, ◌*◌, ◌/◌, ◌%◌, ◌^◌, ◌<◌, false, List, get_or, drop, sym, ap, ◌∙◌, arith, inl, inr}
use Rattle.std.specs.Prelude.{◌==◌}
use Rattle.std.specs.Int.{bit_at}
use Rattle.std.proofs.lemmas.Bool.{cases_lt}
use Rattle.std.proofs.lemmas.List.{get_or-drop}
use Rattle.std.proofs.lemmas.Nat.Bits.{bit_at_cat_low, bit_at_cat_high}
use Rattle.sx_spec_strings.specs.Bits.{key_bits}
use Rattle.sx_bits.specs.Views.{shifted_byte, window_byte}
use Rattle.sx_bits.proofs.LineBits.{bit_of_line}
use Rattle.sx_bits.proofs.NumberBits.{bit_of_shifted}
use Rattle.sx_bits.proofs.PackedBits.{packed_byte_is}

-- bit j of byte k, from bit `start` on
bit_of_window : (line : List ℕ) (start k j : ℕ) → get_or (drop start (key_bits line)) (8 * k + j) false ≡ (bit_at (get_or line ((start + (8 * k + j)) / 8) 0) (7 - (start + (8 * k + j)) % 8) == 1)
bit_of_window line start k j = get_or-drop start (key_bits line) (8 * k + j) false ∙ bit_of_line line (start + (8 * k + j))

pub aligned_window : (line : List ℕ) (start k : ℕ) → ((i : ℕ) → get_or line i 0 < 2 ^ 8) → start % 8 ≡ 0 → window_byte line start k ≡ get_or line (start / 8 + k) 0
unfolding window_byte
aligned_window line start k small whole =
    packed_byte_is (drop start (key_bits line)) k (get_or line (start / 8 + k) 0) (small (start / 8 + k)) (λ j lt.
    let e : (start + (8 * k + j)) / 8 ≡ start / 8 + k = omega arith in
    let f : 7 - (start + (8 * k + j)) % 8 ≡ 7 - j = omega arith in
    bit_of_window line start k j
    ∙ ap (λ m. bit_at (get_or line m 0) (7 - (start + (8 * k + j)) % 8) == 1) e
    ∙ ap (λ m. bit_at (get_or line (start / 8 + k) 0) m == 1) f)

-- the byte of two bytes of a line that begins with its bit `start`, so many bytes on
abbrev middle_byte : List ℕ → ℕ → ℕ → ℕ
middle_byte line start k = shifted_byte (get_or line (start / 8 + k) 0) (get_or line (start / 8 + k + 1) 0) (start % 8)

bit_of_middle : (line : List ℕ) (start k j : ℕ) → ((i : ℕ) → get_or line i 0 < 2 ^ 8) → j < 8
    → get_or (key_bits line) (start + (8 * k + j)) false ≡ (bit_at (middle_byte line start k) (7 - j) == 1)
bit_of_middle line start k j small lt =
    let first = start / 8 + k in
    let high = get_or line first 0 in
    let low = get_or line (first + 1) 0 in
    let shift = start % 8 in
    let p = start + (8 * k + j) in
    bit_of_line line p ∙ ap (λ m. m == 1)
    (elim (cases_lt (shift + j) 8) [
      | inl here ↦
          let e : p / 8 ≡ first = omega arith in
          let f : 7 - p % 8 ≡ (15 - shift - j) - 8 = omega arith in
          ap (λ m. bit_at (get_or line m 0) (7 - p % 8)) e ∙ ap (λ m. bit_at high m) f
          ∙ sym (bit_at_cat_high high 8 low (15 - shift - j) (small (first + 1)) (omega arith))
      | inr next ↦
          let e : p / 8 ≡ first + 1 = omega arith in
          let f : 7 - p % 8 ≡ 15 - shift - j = omega arith in
          ap (λ m. bit_at (get_or line m 0) (7 - p % 8)) e ∙ ap (λ m. bit_at low m) f
          ∙ sym (bit_at_cat_low high 8 low (15 - shift - j) (omega arith))
    ])
    ∙ ap (λ m. m == 1) (sym (bit_of_shifted high low shift j (small (first + 1)) (omega arith) lt))

pub shifted_window : (line : List ℕ) (start k : ℕ) → ((i : ℕ) → get_or line i 0 < 2 ^ 8)
    → window_byte line start k ≡ shifted_byte (get_or line (start / 8 + k) 0) (get_or line (start / 8 + k + 1) 0) (start % 8)
unfolding window_byte
shifted_window line start k small =
    packed_byte_is (drop start (key_bits line)) k (middle_byte line start k) (omega arith) (λ j lt.
    get_or-drop start (key_bits line) (8 * k + j) false ∙ bit_of_middle line start k j small lt)

-- the bits of such a byte are those of the line
pub bit_in_window : (line : List ℕ) (start k j : ℕ) → ((i : ℕ) → get_or line i 0 < 2 ^ 8) → j < 8
    → get_or (key_bits line) (start + (8 * k + j)) false ≡ (bit_at (window_byte line start k) (7 - j) == 1)
bit_in_window line start k j small lt =
    bit_of_middle line start k j small lt ∙ ap (λ b. bit_at b (7 - j) == 1) (sym (shifted_window line start k small))

pub window_small : (line : List ℕ) (start k : ℕ) → ((i : ℕ) → get_or line i 0 < 2 ^ 8) → window_byte line start k < 256
window_small line start k small = let e = shifted_window line start k small in omega arith

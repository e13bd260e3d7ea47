-- The packed bytes of a piece of a view.
use Rattle.std.proofs.Common.{◌≡◌, ℕ, ◌+◌, ◌-◌, ◌*◌, ◌%◌, ◌^◌, ◌<◌, false, List, length, get_or, set, take, drop, sym, ap, ◌∙◌, arith, inl, inr}
use Rattle.std.specs.Prelude.{◌==◌, min}
use Rattle.std.specs.Int.{bit_at, div_ceil}
use Rattle.std.proofs.lemmas.Bool.{cases_lt, cases_eq}
use Rattle.std.proofs.lemmas.List.{length-take, length-drop, length-set, get_or-take, get_or-drop, get_or_past, get_or-set_same, get_or-set_other}
use Rattle.sx_spec_strings.specs.Bits.{Bits, key_bits, packed_bytes}
use Rattle.sx_bits.specs.declared.view.BitView.{BitView}
use Rattle.sx_bits.specs.Views.{bits_of, window_byte}
use Rattle.sx_bits.proofs.NumberBits.{cleared, cleared_le, cleared_none, bit_cleared, bit_kept}
use Rattle.sx_bits.proofs.PackedBits.{packed_bytes_are}
use Rattle.sx_bits.proofs.ViewBits.{length-bits_of}
use Rattle.sx_bits.proofs.Windows.{bit_in_window, window_small}

-- ---- the bits of a piece

abbrev pub piece : BitView → ℕ → Bits
piece v from = take 512 (drop from (bits_of v))

pub length-piece : (v : BitView) (from : ℕ) → length (piece v from) ≡ min 512 (v.to - v.from - from)
length-piece v from =
    let a = length-take 512 (drop from (bits_of v)) in
    let b = length-drop from (bits_of v) in
    let e = length-bits_of v in
    omega arith

bit_of_piece : (v : BitView) (from p : ℕ) → p < length (piece v from) → get_or (piece v from) p false ≡ get_or (key_bits v.line.now) (v.from + from + p) false
unfolding bits_of
bit_of_piece v from p lt =
    let long = length-piece v from in
    let e : v.from + (from + p) ≡ v.from + from + p = omega arith in
    get_or-take 512 (drop from (bits_of v)) p false (omega arith)
    ∙ get_or-drop from (bits_of v) p false
    ∙ get_or-take (v.to - v.from) (drop v.from (key_bits v.line.now)) (from + p) false (omega arith)
    ∙ get_or-drop v.from (key_bits v.line.now) (from + p) false
    ∙ ap (λ m. get_or (key_bits v.line.now) m false) e

-- bytes out of the line, without the bits behind the piece, are the packed piece
pub piece_packed : (v : BitView) (from : ℕ) (out : List ℕ) → ((i : ℕ) → get_or v.line.now i 0 < 2 ^ 8)
    → length out ≡ div_ceil (length (piece v from)) 8
    → ((k : ℕ) → k < length out → get_or out k 0 ≡ cleared (window_byte v.line.now (v.from + from) k) (8 * (k + 1) - length (piece v from)))
    → out ≡ packed_bytes (piece v from)
piece_packed v from out small long each =
    packed_bytes_are (piece v from) out long
    (λ k lt.
    let a = each k lt in
    let b = cleared_le (window_byte v.line.now (v.from + from) k) (8 * (k + 1) - length (piece v from)) in
    let d = window_small v.line.now (v.from + from) k small in
    omega arith)
    (λ k j lt near.
    let count = length (piece v from) in
    let start = v.from + from in
    let byte = window_byte v.line.now start k in
    let u = 8 * (k + 1) - count in
    elim (cases_lt (8 * k + j) count) [
      | inl inside ↦
          bit_of_piece v from (8 * k + j) inside
          ∙ bit_in_window v.line.now start k j small near
          ∙ ap (λ m. m == 1) (sym (bit_kept byte u (7 - j) (omega arith)))
          ∙ ap (λ b. bit_at b (7 - j) == 1) (sym (each k lt))
      | inr past ↦
          get_or_past (piece v from) (8 * k + j) false past
          ∙ ap (λ m. m == 1) (sym (bit_cleared byte u (7 - j) (omega arith)))
          ∙ ap (λ b. bit_at b (7 - j) == 1) (sym (each k lt))
    ])

-- where the last byte is full, nothing is cleared
pub full_piece : (v : BitView) (from : ℕ) (out : List ℕ) → ((i : ℕ) → get_or v.line.now i 0 < 2 ^ 8)
    → length out ≡ div_ceil (length (piece v from)) 8 → length (piece v from) % 8 ≡ 0
    → ((k : ℕ) → k < length out → get_or out k 0 ≡ window_byte v.line.now (v.from + from) k)
    → out ≡ packed_bytes (piece v from)
full_piece v from out small long full each =
    piece_packed v from out small long (λ k lt.
    let byte = window_byte v.line.now (v.from + from) k in
    let e : 8 * (k + 1) - length (piece v from) ≡ 0 = omega arith in
    each k lt ∙ sym (cleared_none byte) ∙ ap (cleared byte) (sym e))

-- else the bits behind the piece are cleared in it
pub partial_piece : (v : BitView) (from : ℕ) (out : List ℕ) (last : ℕ) → ((i : ℕ) → get_or v.line.now i 0 < 2 ^ 8)
    → length out ≡ div_ceil (length (piece v from)) 8 → 0 < length (piece v from) % 8
    → ((k : ℕ) → k < length out → get_or out k 0 ≡ window_byte v.line.now (v.from + from) k)
    → last ≡ cleared (get_or out (length out - 1) 0) (8 - length (piece v from) % 8)
    → set out (length out - 1) last ≡ packed_bytes (piece v from)
partial_piece v from out last small long some each last_is =
    let n = length out - 1 in
    let count = length (piece v from) in
    let same_length = length-set out n last in
    piece_packed v from (set out n last) small (same_length ∙ long) (λ k lt.
    let byte = window_byte v.line.now (v.from + from) k in
    elim (cases_eq k n) [
      | inl at ↦
          let e : 8 - count % 8 ≡ 8 * (k + 1) - count = omega arith in
          ap (λ m. get_or (set out n last) m 0) at
          ∙ get_or-set_same out n last 0 (omega arith)
          ∙ last_is
          ∙ ap (λ m. cleared (get_or out m 0) (8 - count % 8)) (sym at)
          ∙ ap (λ m. cleared m (8 - count % 8)) (each k (omega arith))
          ∙ ap (cleared byte) e
      | inr other ↦
          let e : 8 * (k + 1) - count ≡ 0 = omega arith in
          get_or-set_other out n k last 0 other
          ∙ each k (omega arith)
          ∙ sym (cleared_none byte) ∙ ap (cleared byte) (sym e)
    ])

-- Bits packed into bytes.
use Rattle.std.proofs.Common.{◌≡◌, ℕ, ◌+◌, ◌-◌, ◌*◌, ◌<◌, ◌≤◌, false, List, ◌++◌, length, get_or, take, drop, refl, sym, ap, ◌∙◌, arith, inl, inr}
use Rattle.std.specs.Prelude.{◌==◌, replicate}
use Rattle.std.specs.Int.{bit_at, div_ceil}
use Rattle.std.proofs.lemmas.Bool.{cases_lt}
use Rattle.std.proofs.lemmas.List.{length-append, length-take, length-drop, length-replicate, get_or-take, get_or-drop, get_or_append_left, get_or-append_right, get_or-replicate, get_or_past, append_assoc, drop-append-le, take-append-le, drop-drop, drop_at}
use Rattle.std.proofs.lemmas.List.FromFn.{fill_by_all, length-map-range_with_len, get_or-map-range_with_len}
use Rattle.sx_spec_strings.specs.Bits.{Bits, bits_number, packed_byte, packed_bytes}
use Rattle.sx_bits.proofs.NumberBits.{bits_number_is}

-- a string with zero bits after it reads like the string
zeros_after : (bits : Bits) (n i : ℕ) → get_or (bits ++ replicate n false) i false ≡ get_or bits i false
zeros_after bits n i =
    elim (cases_lt i (length bits)) [
      | inl lt ↦ get_or_append_left bits (replicate n false) false i lt
      | inr ge ↦
          get_or-append_right bits (replicate n false) (length bits) i false refl ge
          ∙ zeros n (i - length bits) ∙ sym (get_or_past bits i false ge)
    ]
  where
    zeros : (n i : ℕ) → get_or (replicate n false) i false ≡ false
    zeros n i =
        elim (cases_lt i n) [
          | inl lt ↦ get_or-replicate n i false false lt
          | inr ge ↦ get_or_past (replicate n false) i false (let e = length-replicate n false in omega arith)
        ]

-- a byte with the bits of byte i of the packed string is that byte
pub packed_byte_is : (bits : Bits) (i b : ℕ) → b < 256 → ((j : ℕ) → j < 8 → get_or bits (8 * i + j) false ≡ (bit_at b (7 - j) == 1)) → packed_byte bits i ≡ b
packed_byte_is bits i b small each =
    let rest = drop (8 * i) bits in
    let padded = rest ++ replicate 8 false in
    let e = length-append rest (replicate 8 false) in
    let f = length-replicate 8 false in
    let g = length-take 8 padded in
    bits_number_is (take 8 padded) 8 b (omega arith) small (λ j lt.
    get_or-take 8 padded j false lt ∙ zeros_after rest 8 j ∙ get_or-drop (8 * i) bits j false ∙ each j lt)

-- bytes with the bits of a string are the packed string
pub packed_bytes_are : (bits : Bits) (bytes : List ℕ) → length bytes ≡ div_ceil (length bits) 8
    → ((i : ℕ) → i < length bytes → get_or bytes i 0 < 256)
    → ((i j : ℕ) → i < length bytes → j < 8 → get_or bits (8 * i + j) false ≡ (bit_at (get_or bytes i 0) (7 - j) == 1))
    → bytes ≡ packed_bytes bits
packed_bytes_are bits bytes long small each =
    fill_by_all (packed_byte bits) bytes (div_ceil (length bits) 8) 0 long (λ k lt.
    let near : k < length bytes = omega arith in
    sym (packed_byte_is bits k (get_or bytes k 0) (small k near) (λ j few. each k j near few)))

-- ---- packed strings one after the other

-- a packed string of whole bytes, and the string after it
pub packed-append : (a b : Bits) (m : ℕ) → length a ≡ 8 * m → packed_bytes (a ++ b) ≡ packed_bytes a ++ packed_bytes b
packed-append a b m whole =
    let la = length-append a b in
    let ea : div_ceil (length a) 8 ≡ m = omega arith in
    let eb : div_ceil (length (a ++ b)) 8 ≡ m + div_ceil (length b) 8 = omega arith in
    let pa = length-map-range_with_len (packed_byte a) 0 (div_ceil (length a) 8) in
    let pb = length-map-range_with_len (packed_byte b) 0 (div_ceil (length b) 8) in
    let pc = length-append (packed_bytes a) (packed_bytes b) in
    sym (fill_by_all (packed_byte (a ++ b)) (packed_bytes a ++ packed_bytes b) (div_ceil (length (a ++ b)) 8) 0 (omega arith) (λ k lt.
    elim (cases_lt k m) [
      | inl low ↦
          get_or_append_left (packed_bytes a) (packed_bytes b) 0 k (omega arith)
          ∙ get_or-map-range_with_len (packed_byte a) 0 (div_ceil (length a) 8) k k 0 (omega arith) (omega arith)
          ∙ sym (byte_of_first a b k (omega arith))
      | inr high ↦
          get_or-append_right (packed_bytes a) (packed_bytes b) m k 0 (omega arith) high
          ∙ get_or-map-range_with_len (packed_byte b) 0 (div_ceil (length b) 8) (k - m) (k - m) 0 (omega arith) (omega arith)
          ∙ sym (byte_of_second a b m k whole high)
    ]))
  where
    byte_of_first : (a b : Bits) (k : ℕ) → 8 * k + 8 ≤ length a → packed_byte (a ++ b) k ≡ packed_byte a k
    byte_of_first a b k inside =
        let n = length-drop (8 * k) a in
        let e : drop (8 * k) (a ++ b) ≡ drop (8 * k) a ++ b = drop-append-le (8 * k) a b (omega arith) in
        let f : take 8 ((drop (8 * k) a ++ b) ++ replicate 8 false) ≡ take 8 (drop (8 * k) a) =
        ap (take 8) (append_assoc (drop (8 * k) a) b (replicate 8 false)) ∙ take-append-le 8 (drop (8 * k) a) (b ++ replicate 8 false) (omega arith) in
        let g : take 8 (drop (8 * k) a ++ replicate 8 false) ≡ take 8 (drop (8 * k) a) = take-append-le 8 (drop (8 * k) a) (replicate 8 false) (omega arith) in
        ap bits_number (ap (λ xs. take 8 (xs ++ replicate 8 false)) e ∙ f ∙ sym g)

    byte_of_second : (a b : Bits) (m k : ℕ) → length a ≡ 8 * m → m ≤ k → packed_byte (a ++ b) k ≡ packed_byte b (k - m)
    byte_of_second a b m k whole high =
        let e : 8 * k ≡ length a + 8 * (k - m) = omega arith in
        let f : drop (8 * k) (a ++ b) ≡ drop (8 * (k - m)) b =
        ap (λ n. drop n (a ++ b)) e ∙ sym (drop-drop (8 * (k - m)) (length a) (a ++ b)) ∙ ap (drop (8 * (k - m))) (drop_at a b (length a) refl) in
        ap (λ xs. bits_number (take 8 (xs ++ replicate 8 false))) f

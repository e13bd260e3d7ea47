-- The words of a digest, and their first bits.
use Rattle.std.proofs.Common.{◌≡◌, ℕ, zero, suc, ◌+◌, ◌-◌, ◌*◌, ◌/◌, ◌%◌, ◌^◌, ◌<◌, ◌≤◌, false, List, length, get_or, take, drop, sym, ap, ◌∙◌, arith, inl, inr, lit<, lit≤}
use Rattle.std.specs.Prelude.{◌==◌, min, replicate}
use Rattle.std.specs.Int.{bit_at}
use Rattle.std.proofs.lemmas.Bool.{cases_lt}
use Rattle.std.proofs.lemmas.List.{length-take, length-drop, get_or-take, get_or-drop, get_or_append_left, get_or-append_right, get_or-replicate, take_all}
use Rattle.std.proofs.lemmas.Nat.{mul-add-lt, pow-add}
use Rattle.std.proofs.lemmas.Nat.Bits.{bit_at_cat_low, bit_at_cat_high}
use Rattle.std.proofs.Math.Nat.{pow-zero}
use Rattle.byteorder.specs.Endian.{big_from, big_number}
use Rattle.sx_spec_strings.specs.Bits.{Bits, bits_number, bytes_bits}
use Rattle.sx_spec.specs.Signature.{kept_bits, signature_from}
use Rattle.sx_spec.proofs.Digits.{power_of_power}
use Rattle.sx_spec.proofs.Signatures.{length-bytes_bits, length-kept}
use Rattle.sx_bits.proofs.LineBits.{bit_of_bytes}
use Rattle.sx_bits.proofs.NumberBits.{bits_number_is, cleared, cleared_le, bit_cleared, bit_kept}

-- ---- words of bytes, the highest byte first

module _ (xs : List ℕ) (small : (i : ℕ) → get_or xs i 0 < 2 ^ 8) where
  big_small : (i n : ℕ) → big_from i n xs < 2 ^ (n * 8)
  big_small i zero = let e = pow-zero 2 in omega arith
  big_small i (suc n) =
      let rest = big_small (suc i) n in
      let e = power_of_power 8 n in
      let f : suc n * 8 ≡ n * 8 + 8 = omega arith in
      let g = pow-add 2 (n * 8) 8 in
      let whole : get_or xs i 0 * 2 ^ (n * 8) + big_from (suc i) n xs < 2 ^ (n * 8) * 2 ^ 8 = mul-add-lt (get_or xs i 0) (2 ^ (n * 8)) (big_from (suc i) n xs) (2 ^ 8) (small i) rest in
      rw (e, f, g) whole

  bit_of_big : (i n p : ℕ) → p < n * 8 → bit_at (big_from i n xs) p ≡ bit_at (get_or xs (i + n - 1 - p / 8) 0) (p % 8)
  bit_of_big i zero p lt = absurd (omega arith)
  bit_of_big i (suc n) p lt =
      let rest = big_from (suc i) n xs in
      let e = power_of_power 8 n in
      ap (λ m. bit_at (get_or xs i 0 * m + rest) p) e ∙
      elim (cases_lt p (n * 8)) [
        | inl low ↦
            let f : suc i + n - 1 - p / 8 ≡ i + suc n - 1 - p / 8 = omega arith in
            bit_at_cat_low (get_or xs i 0) (n * 8) rest p low ∙ bit_of_big (suc i) n p low
            ∙ ap (λ k. bit_at (get_or xs k 0) (p % 8)) f
        | inr high ↦
            let f : p - n * 8 ≡ p % 8 = omega arith in
            let g : i ≡ i + suc n - 1 - p / 8 = omega arith in
            bit_at_cat_high (get_or xs i 0) (n * 8) rest p (big_small (suc i) n) high
            ∙ ap (λ b. bit_at (get_or xs i 0) b) f
            ∙ ap (λ k. bit_at (get_or xs k 0) (p % 8)) g
      ]

-- the bits of word m of a digest
bit_of_word : (digest : List ℕ) (m j : ℕ) → ((i : ℕ) → get_or digest i 0 < 2 ^ 8) → m < 3 → j < 64
    → get_or (bytes_bits (take 24 digest)) (64 * m + j) false ≡ (bit_at (big_number 8 (drop (8 * m) digest)) (63 - j) == 1)
bit_of_word digest m j small few lt =
    let p = 64 * m + j in
    let rest = drop (8 * m) digest in
    let e : p / 8 ≡ 8 * m + (0 + 8 - 1 - (63 - j) / 8) = omega arith in
    let f : 7 - p % 8 ≡ (63 - j) % 8 = omega arith in
    let rest_small : (i : ℕ) → get_or rest i 0 < 2 ^ 8 = λ i. (let g = get_or-drop (8 * m) digest i 0 in let h = small (8 * m + i) in omega arith) in
    bit_of_bytes (take 24 digest) p
    ∙ ap (λ b. bit_at b (7 - p % 8) == 1)
    (get_or-take 24 digest (p / 8) 0 (omega arith) ∙ ap (λ k. get_or digest k 0) e ∙ sym (get_or-drop (8 * m) digest (0 + 8 - 1 - (63 - j) / 8) 0))
    ∙ ap (λ k. bit_at (get_or rest (0 + 8 - 1 - (63 - j) / 8) 0) k == 1) f
    ∙ ap (λ b. b == 1) (sym (bit_of_big rest rest_small 0 8 (63 - j) (omega arith)))

-- ---- the bits that are kept

kept_inside : (keep : ℕ) (bits : Bits) (p : ℕ) → p < keep → p < length bits → get_or (kept_bits keep bits) p false ≡ get_or bits p false
kept_inside keep bits p lt inside =
    let b = length-take keep bits in
    get_or_append_left (take keep bits) (replicate (length bits - keep) false) false p (omega arith) ∙ get_or-take keep bits p false lt

kept_past : (keep : ℕ) (bits : Bits) (p : ℕ) → keep ≤ p → p < length bits → get_or (kept_bits keep bits) p false ≡ false
kept_past keep bits p past inside =
    let b = length-take keep bits in
    get_or-append_right (take keep bits) (replicate (length bits - keep) false) keep p false (omega arith) past
    ∙ get_or-replicate (length bits - keep) (p - keep) false false (omega arith)

-- a word of the bits that are kept is the word without the bits behind them
kept_word : (bits : Bits) (keep at kept w : ℕ) → length bits ≡ 192 → at + 64 ≤ 192 → kept ≡ min (keep - at) 64 → w < 2 ^ 64
    → ((j : ℕ) → j < 64 → get_or bits (at + j) false ≡ (bit_at w (63 - j) == 1))
    → cleared w (64 - kept) ≡ bits_number (take 64 (drop at (kept_bits keep bits)))
kept_word bits keep at kept w long inside kept_is small each =
    let all = kept_bits keep bits in
    let a = length-kept keep bits in
    let b = length-drop at all in
    let d = length-take 64 (drop at all) in
    let u = 64 - kept in
    let le = cleared_le w u in
    sym (bits_number_is (take 64 (drop at all)) 64 (cleared w u) (omega arith) (omega arith) (λ j lt.
    get_or-take 64 (drop at all) j false lt ∙ get_or-drop at all j false ∙
    elim (cases_lt (at + j) keep) [
      | inl front ↦
          kept_inside keep bits (at + j) front (omega arith) ∙ each j lt
          ∙ ap (λ m. m == 1) (sym (bit_kept w u (63 - j) (omega arith)))
      | inr past ↦
          kept_past keep bits (at + j) past (omega arith)
          ∙ ap (λ m. m == 1) (sym (bit_cleared w u (63 - j) (omega arith)))
    ]))

-- ---- the signature

pub words_are : (digest : List ℕ) (keep r0 r1 r2 k0 k1 k2 first second third : ℕ) → ((i : ℕ) → get_or digest i 0 < 2 ^ 8) → length digest ≡ 32
    → r0 ≡ big_number 8 digest → r1 ≡ big_number 8 (drop 8 digest) → r2 ≡ big_number 8 (drop 16 digest)
    → r0 < 2 ^ 64 → r1 < 2 ^ 64 → r2 < 2 ^ 64
    → k0 ≡ min keep 64 → k1 ≡ min (keep - 64) 64 → k2 ≡ min (keep - 128) 64
    → first ≡ cleared r0 (64 - k0) → second ≡ cleared r1 (64 - k1) → third ≡ cleared r2 (64 - k2)
    → record { w0 = first; w1 = second; w2 = third } ≡ signature_from (kept_bits keep (bytes_bits (take 24 digest)))
words_are digest keep r0 r1 r2 k0 k1 k2 first second third small long q0 q1 q2 s0 s1 s2 l0 l1 l2 e0 e1 e2 =
    let bits = bytes_bits (take 24 digest) in
    let a = length-take 24 digest in
    let b = length-bytes_bits (take 24 digest) in
    let d = length-kept keep bits in
    let g = length-drop 128 (kept_bits keep bits) in
    let all : length bits ≡ 192 = omega arith in
    let f0 = e0 ∙ kept_word bits keep 0 k0 r0 all (lit≤ tt) (omega arith) s0 (λ j lt. bit_of_word digest 0 j small (lit< tt) lt ∙ ap (λ w. bit_at w (63 - j) == 1) (sym q0)) in
    let f1 = e1 ∙ kept_word bits keep 64 k1 r1 all (lit≤ tt) l1 s1 (λ j lt. bit_of_word digest 1 j small (lit< tt) lt ∙ ap (λ w. bit_at w (63 - j) == 1) (sym q1)) in
    let f2 = e2 ∙ kept_word bits keep 128 k2 r2 all (lit≤ tt) l2 s2 (λ j lt. bit_of_word digest 2 j small (lit< tt) lt ∙ ap (λ w. bit_at w (63 - j) == 1) (sym q2))
    ∙ ap bits_number (take_all 64 (drop 128 (kept_bits keep bits)) (omega arith)) in
    λ i. record { w0 = f0 i; w1 = f1 i; w2 = f2 i }

-- The fattest number by the highest bit in which the ends of the interval differ.
use Rattle.std.proofs.Common.{◌≡◌, ℕ, zero, suc, ◌+◌, ◌-◌, ◌*◌, ◌/◌, ◌%◌, ◌^◌, ◌<◌, ◌≤◌, refl, sym, ap, ◌∙◌, arith, inl, inr}
use Rattle.std.specs.Prelude.{bit_xor}
use Rattle.std.specs.Int.{bit_at}
use Rattle.std.proofs.lemmas.Bool.{cases_lt, cases_eq, le-ltb}
use Rattle.std.proofs.lemmas.Nat.{shr-shr, xor_shr, xor_lt, leading_top, le-div, pow_pos, shr_split}
use Rattle.std.proofs.lemmas.Nat.Bits.{bit_at_xor, bit_at-lt, bit_at-zero, same_from_bits}
use Rattle.std.proofs.Math.Nat.{pow-zero, pow-succ', div-eq_of_lt, mod-eq_of_lt}
use Rattle.std.proofs.Math.Pow.{pow_mono}
use lib.Count.{count_leading_zeros}
use Rattle.sx_spec_strings.specs.Numbers.{binary_digits}
use Rattle.sx_spec_strings.proofs.NumberLaws.{digits_hold, div_mono}
use Rattle.sx_spec_kinds.specs.Fattest.{fattest_within, fattest}
use Rattle.sx_spec_kinds.proofs.FattestLaws.{fattest_halves}

-- ---- numbers without a difference

xor_none : (a b : ℕ) → bit_xor a b ≡ 0 → a ≡ b
xor_none a b none = same_from_bits a b (λ i.
    let e = bit_at_xor a b i in
    let f = ap (λ m. bit_at m i) none ∙ bit_at-zero i in
    let la = bit_at-lt a i in
    let lb = bit_at-lt b i in
    omega arith)

xor_self : (a : ℕ) → bit_xor a a ≡ 0
xor_self a = same_from_bits (bit_xor a a) 0 (λ i.
    let e = bit_at_xor a a i in
    let f = bit_at-zero i in
    omega arith)

-- ---- halvings

alone : (t a c : ℕ) → c / 2 ≤ a / 2 → fattest_within t a c ≡ c
unfolding fattest_within
alone zero a c h = refl
alone (suc t) a c h = rw (le-ltb (a / 2) (c / 2) h) refl

half_then : (n k : ℕ) → n / 2 / 2 ^ k ≡ n / 2 ^ suc k
half_then n k =
    let e : 1 + k ≡ suc k = omega arith in
    shr-shr n 1 k ∙ ap (λ m. n / 2 ^ m) e

halved : (k t a c : ℕ) → k ≤ t → a / 2 ^ suc k ≡ c / 2 ^ suc k → a / 2 ^ k < c / 2 ^ k → fattest_within t a c ≡ c / 2 ^ k * 2 ^ k
halved zero t a c le same less =
    let one = pow-zero 2 in
    let e : a / 2 ≡ c / 2 = same in
    alone t a c (omega arith) ∙ rw one (omega arith)
halved (suc k) zero a c le same less = absurd (omega arith)
halved (suc k) (suc t) a c le same less =
    let ha = half_then a k in
    let hc = half_then c k in
    let ha' = half_then a (suc k) in
    let hc' = half_then c (suc k) in
    let smaller : a / 2 < c / 2 =
    elim (cases_lt (a / 2) (c / 2)) [
      | inl lt ↦ lt
      | inr ge ↦ let r = div_mono (c / 2) (a / 2) (2 ^ k) (pow_pos k) ge in absurd (omega arith)
    ] in
    let rest = halved k t (a / 2) (c / 2) (omega arith) (ha' ∙ same ∙ sym hc') (omega arith) in
    let p = pow-succ' 2 k in
    fattest_halves t a c smaller ∙ ap (λ m. 2 * m) rest ∙ doubled (c / 2 / 2 ^ k) (2 ^ k) ∙ ap (λ m. m * (2 * 2 ^ k)) hc ∙ ap (λ m. c / 2 ^ suc k * m) (sym p)
  where
    doubled : (q p : ℕ) → 2 * (q * p) ≡ q * (2 * p)
    doubled q p = omega arith

apart_some : (a b : ℕ) → a < b → 0 < bit_xor a b
apart_some a b less =
    elim (cases_eq (bit_xor a b) 0) [
      | inl none ↦ let same = xor_none a b none in absurd (omega arith)
      | inr differ ↦ omega arith
    ]

pub leading_few : (a b : ℕ) → a < b → b < 2 ^ 32 → count_leading_zeros 32 (bit_xor a b) ≤ 31
leading_few a b less small =
    let (top, place, least, most) = leading_top 32 (bit_xor a b) (apart_some a b less) (xor_lt 32 a b (omega arith) small) in
    omega arith

pub fattest_is : (a b low : ℕ) → a < b → b < 2 ^ 32 → low ≡ 31 - count_leading_zeros 32 (bit_xor a b) → b / 2 ^ low * 2 ^ low ≡ fattest a b
unfolding fattest
fattest_is a b low less small is =
    let d = bit_xor a b in
    let some = apart_some a b less in
    let (top, place, least, most) = leading_top 32 d some (xor_lt 32 a b (omega arith) small) in
    let e : low ≡ top = omega arith in
    let p = pow-succ' 2 top in
    let same : a / 2 ^ suc top ≡ b / 2 ^ suc top =
    xor_none (a / 2 ^ suc top) (b / 2 ^ suc top) (sym (xor_shr a b (suc top)) ∙ div-eq_of_lt most) in
    let rises = div_mono a b (2 ^ top) (pow_pos top) (omega arith) in
    let apart : a / 2 ^ top < b / 2 ^ top =
    elim (cases_eq (a / 2 ^ top) (b / 2 ^ top)) [
      | inl equal ↦
          let none = xor_shr a b top ∙ ap (λ m. bit_xor m (b / 2 ^ top)) equal ∙ xor_self (b / 2 ^ top) in
          let one = le-div 1 d (2 ^ top) (pow_pos top) (omega arith) in
          absurd (omega arith)
      | inr differ ↦ omega arith
    ] in
    let digits = digits_hold b in
    let long : top ≤ binary_digits b =
    elim (cases_lt (binary_digits b) top) [
      | inl under ↦
          let wide : 2 ^ binary_digits b ≤ 2 ^ top = pow_mono (omega arith) in
          let none = div-eq_of_lt {n = b} {m = 2 ^ top} (omega arith) in
          absurd (omega arith)
      | inr over ↦ over
    ] in
    ap (λ k. b / 2 ^ k * 2 ^ k) e ∙ sym (halved top (binary_digits b) a b long same apart)

pub fattest_code : (a b : ℕ) → a < b → b < 2 ^ 32
    → b / 2 ^ (31 - count_leading_zeros 32 (bit_xor a b)) * 2 ^ (31 - count_leading_zeros 32 (bit_xor a b)) % 2 ^ 32 ≡ fattest a b
fattest_code a b less small =
    let low = 31 - count_leading_zeros 32 (bit_xor a b) in
    let split = shr_split b low in
    let few : b / 2 ^ low * 2 ^ low < 2 ^ 32 = omega arith in
    mod-eq_of_lt few ∙ fattest_is a b low less small refl

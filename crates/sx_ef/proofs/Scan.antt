-- The bits of the upper words, one after another.
use Rattle.std.proofs.Common.{◌≡◌, ◌≢◌, ℕ, suc, ◌+◌, ◌-◌, ◌*◌, ◌/◌, ◌%◌, ◌^◌, ◌<◌, ◌≤◌, Bool, true, false, cond, List, [], ◌∷◌, ◌++◌, length, get_or, refl, sym, ap, ◌∙◌, arith, append-nil}
use Rattle.std.specs.Prelude.{◌==◌, ◌&&◌, bit_and}
use Rattle.std.specs.Int.{bit_at}
use Rattle.std.proofs.lemmas.Bool.{and_parts, eqb-true, eq-eqb, ne_eqb}
use Rattle.std.proofs.lemmas.Nat.{shl_whole, shl_below}
use Rattle.std.proofs.lemmas.Nat.Bits.{shr_and_one, bit_at-lt}
use Rattle.std.proofs.Math.Pow.{pow_mono}
use Rattle.sx_spec.specs.Fields.{words_number, ones_of, below_of}
use Rattle.sx_fields.proofs.WordNumbers.{AreWords}
use Rattle.sx_fields.proofs.WordFields.{number_inside}
use Rattle.sx_ranksel.specs.Directory.{rank_of}
use Rattle.sx_ranksel.proofs.Ranks.{ones_split, rank_more, rank_mono}
use Rattle.sx_ef.specs.Parts.{sums_of, never_falls, is_sums_of}
use Rattle.sx_ef.proofs.Numbers.{sums_push, sums_more, last_of, keeps_front, pushed_keeps}

pub not_true : (b : Bool) → (b ≡ true → ⊥) → b ≡ false
not_true true h = absurd (h refl)
not_true false h = refl

-- a bit of the words is one of its word
pub bit_of : (words : List ℕ) (place : ℕ) → AreWords words → bit_at (words_number words) place ≡ bit_at (get_or words (place / 64) 0) (place % 64)
bit_of words place small = number_inside words 1 (place / 64) (place % 64) place small (omega arith) (omega arith)

module _ (x place : ℕ) where
  -- a bit that is zero adds no place
  pub ones_none : bit_at x place ≡ 0 → ones_of (place + 1) x ≡ ones_of place x
  ones_none none =
      ones_split x place 1
      ∙ ap (λ t. ones_of place x ++ cond t (place ∷ []) []) (ne_eqb (bit_at x place) 1 (λ one. omega arith))
      ∙ append-nil (ones_of place x)

  -- a bit that is one adds its place
  pub ones_one : bit_at x place ≡ 1 → ones_of (place + 1) x ≡ ones_of place x ++ place ∷ []
  ones_one one =
      ones_split x place 1
      ∙ ap (λ t. ones_of place x ++ cond t (place ∷ []) []) (eq-eqb (bit_at x place) 1 one)

  -- and its number
  pub number_one : (l seen : ℕ) (lows : List ℕ) → seen ≡ rank_of place x → seen < length lows → bit_at x place ≡ 1 → sums_of l (ones_of (place + 1) x) lows ≡ sums_of l (ones_of place x) lows ++ ((place - seen) * 2 ^ l + get_or lows seen 0) ∷ []
  number_one l seen lows count fits one =
      let e : 0 + rank_of place x ≡ seen = omega arith in
      ap (λ os. sums_of l os lows) (ones_one one)
      ∙ sums_push 0 l (ones_of place x) lows place (omega arith)
      ∙ (λ i. sums_of l (ones_of place x) lows ++ ((place - e i) * 2 ^ l + get_or lows (sym count i) 0) ∷ [])

-- the ones so far are the first of all
ones_before : (x place bits : ℕ) → place ≤ bits → (more : List ℕ) × (ones_of bits x ≡ ones_of place x ++ more)
ones_before x place bits within =
    let e : place + (bits - place) ≡ bits = omega arith in
    (_, ap (λ n. ones_of n x) (sym e) ∙ ones_split x place (bits - place))

-- a number below the one before it spoils the list
pub spoilt_low : (x place bits l seen count below : ℕ) (lows : List ℕ) → place < bits → seen ≡ rank_of place x → seen < length lows → bit_at x place ≡ 1 → (place - seen) * 2 ^ l + get_or lows seen 0 < last_of (sums_of l (ones_of place x) lows) → is_sums_of count below l (ones_of bits x) lows ≡ false
spoilt_low x place bits l seen count below lows within is fits one less =
    not_true (is_sums_of count below l (ones_of bits x) lows) (λ all.
    let keeps = (and_parts _ _ (and_parts (length (ones_of bits x) == count) _ all).1).0 in
    let (more, ones) = ones_before x (place + 1) bits (omega arith) in
    let (rest, numbers) = sums_more 0 l (ones_of (place + 1) x) more lows in
    let split : sums_of l (ones_of bits x) lows ≡ sums_of l (ones_of (place + 1) x) lows ++ rest = ap (λ os. sums_of l os lows) ones ∙ numbers in
    let front = keeps_front (sums_of l (ones_of (place + 1) x) lows) rest (ap never_falls (sym split) ∙ keeps) in
    let pushed = ap never_falls (sym (number_one x place l seen lows is fits one)) ∙ front in
    let le = pushed_keeps (sums_of l (ones_of place x) lows) ((place - seen) * 2 ^ l + get_or lows seen 0) pushed in
    omega arith)

-- so does a one more than there are numbers
pub spoilt_many : (x place bits l seen below : ℕ) (lows : List ℕ) → place < bits → seen ≡ rank_of place x → bit_at x place ≡ 1 → is_sums_of seen below l (ones_of bits x) lows ≡ false
spoilt_many x place bits l seen below lows within is one =
    not_true (is_sums_of seen below l (ones_of bits x) lows) (λ all.
    let many : rank_of bits x ≡ seen = eqb-true (length (ones_of bits x)) seen (and_parts (length (ones_of bits x) == seen) _ all).0 in
    let more = rank_more x place in
    let le = rank_mono x (suc place) bits (omega arith) in
    omega arith)

-- at the end the count and the last number tell
pub scanned : (x bits l count below : ℕ) (lows : List ℕ) → never_falls (sums_of l (ones_of bits x) lows) ≡ true → is_sums_of count below l (ones_of bits x) lows ≡ (rank_of bits x == count && last_of (sums_of l (ones_of bits x) lows) + 1 == below)
scanned x bits l count below lows keeps = ap (λ b. rank_of bits x == count && (b && below_of (sums_of l (ones_of bits x) lows) == below)) keeps

-- ---- what the code computes

-- the test of a bit
pub bit_none : (words : List ℕ) (place : ℕ) → AreWords words → bit_and (get_or words (place / 64) 0 / 2 ^ (place % 64)) 1 ≡ 0 → bit_at (words_number words) place ≡ 0
bit_none words place small test = bit_of words place small ∙ sym (shr_and_one (get_or words (place / 64) 0) (place % 64)) ∙ test

pub bit_one : (words : List ℕ) (place : ℕ) → AreWords words → (bit_and (get_or words (place / 64) 0 / 2 ^ (place % 64)) 1 ≡ 0 → ⊥) → bit_at (words_number words) place ≡ 1
bit_one words place small test =
    let bit = shr_and_one (get_or words (place / 64) 0) (place % 64) in
    let few = bit_at-lt (get_or words (place / 64) 0) (place % 64) in
    let some : bit_and (get_or words (place / 64) 0 / 2 ^ (place % 64)) 1 ≢ 0 = test in
    bit_of words place small ∙ (let f : bit_at (get_or words (place / 64) 0) (place % 64) ≡ 1 = omega arith in f)

-- a number in 128 bits
pub wide_number : (place seen width shift high low l r : ℕ) → place < 2 ^ 34 → shift ≤ 63 → low < 2 ^ 64 → high ≡ place - seen → width ≡ shift → l ≡ low → r ≡ low → (high * 2 ^ width % 2 ^ 128 + l ≡ (place - seen) * 2 ^ shift + r) × (high * 2 ^ width % 2 ^ 128 + l < 2 ^ 98)
wide_number place seen width shift high low l r few narrow small high_is width_is left right =
    let fits : place - seen < 2 ^ 34 = omega arith in
    let whole : (place - seen) * 2 ^ shift % 2 ^ 128 ≡ (place - seen) * 2 ^ shift = shl_whole (place - seen) 34 shift 128 fits (omega arith) in
    let same : high * 2 ^ width % 2 ^ 128 ≡ (place - seen) * 2 ^ shift = (λ i. high_is i * 2 ^ width_is i % 2 ^ 128) ∙ whole in
    let below : (place - seen) * 2 ^ shift < 2 ^ (34 + shift) = shl_below (place - seen) 34 shift fits in
    let most : 2 ^ (34 + shift) ≤ 2 ^ 97 = pow_mono (let h : 34 + shift ≤ 97 = omega arith in h) in
    (omega arith, omega arith)

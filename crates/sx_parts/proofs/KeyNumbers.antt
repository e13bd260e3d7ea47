-- The numbers of keys that hold an offset and a code, and their parts.
use Rattle.std.proofs.Common.{◌≡◌, ℕ, ◌+◌, ◌-◌, ◌*◌, ◌/◌, ◌%◌, ◌<◌, ◌≤◌, ◌^◌, List, [], ◌∷◌, ◌++◌, length, map, refl, sym, ap, subst, ◌∙◌, arith, inl, inr}
use Rattle.std.specs.Prelude.{fold, max, All}
use Rattle.std.specs.List.{AllByRecursion, enumerate_from, range_with_len}
use Rattle.std.proofs.lemmas.List.{length-map}
use Rattle.std.proofs.lemmas.List.Elements.{All-from_recursion, recursion_from_All}
use Rattle.std.proofs.lemmas.List.FromFn.{length-enumerate_from}
use Rattle.std.proofs.lemmas.Nat.{div-mul-add, pow-add}
use Rattle.std.proofs.Math.Nat.{add-mul-mod_self_left, div-lt_iff_lt-mul, div-one, mod-eq_of_lt, mod-lt, mul_comm, mul_assoc}
use Rattle.std.proofs.Math.Pow.{pow_pos}
use Rattle.sx_spec_strings.specs.Ordered.{IsIn}
use Rattle.sx_spec.specs.Parts.{least_width}
use Rattle.sx_spec.proofs.Bounds.{least_width_le}
use Rattle.sx_spec.proofs.Widths.{least_width_holds}
use Rattle.sx_spec.specs.declared.Method.TheVariants.{Mwhc}
use Rattle.sx_spec.specs.declared.Signature.{Signature}
use Rattle.sx_spec.specs.StaticFunction.{Cause, IsCause}
use Rattle.sx_static.specs.declared.FuncBuf.{FuncBuf}
use Rattle.sx_static.specs.Answer.{IsDone, entries_of}
use Rattle.sx_static.specs.Both.{bits_from, part_entries}
use Rattle.sx_parts.specs.Assembling.{tries}
use Rattle.sx_parts.specs.Ranking.{length_numbers, offset_numbers}

-- the greatest of one number more
pub fold_push : (a : ℕ) (xs : List ℕ) (x : ℕ) → fold max a (xs ++ x ∷ []) ≡ max (fold max a xs) x
fold_push a [] x = refl
fold_push a (y ∷ xs) x = fold_push (max a y) xs x

-- ---- widths

-- offsets are below the size of a block
offsets_below : (k : ℕ) (ns : List ℕ) (x : ℕ) → IsIn (map (λ i. i % 2 ^ k) ns) x → x < 2 ^ k
offsets_below k [] x here = absurd here
offsets_below k (n ∷ ns) x (inl is) = subst (λ m. m < 2 ^ k) (sym is) (mod-lt n (pow_pos k))
offsets_below k (n ∷ ns) x (inr later) = offsets_below k ns x later

pub offsets_narrow : (k n : ℕ) → least_width (offset_numbers (2 ^ k) n) ≤ k
offsets_narrow k n = least_width_le k (offset_numbers (2 ^ k) n) (offsets_below k (range_with_len 0 n))

-- ---- one number

-- its code
code_of : (k r c : ℕ) → r < 2 ^ k → (r + 2 ^ k * c) / 2 ^ k ≡ c
code_of k r c below =
    let e : r + 2 ^ k * c ≡ c * 2 ^ k + r = ap (λ m. r + m) (mul_comm (2 ^ k) c) ∙ (let swap : r + c * 2 ^ k ≡ c * 2 ^ k + r = omega arith in swap) in
    ap (λ m. m / 2 ^ k) e ∙ div-mul-add c (2 ^ k) r below

high_bits : (k bits r c : ℕ) → r < 2 ^ k → c < 2 ^ bits → bits_from k bits (r + 2 ^ k * c) ≡ c
high_bits k bits r c below small = ap (λ m. m % 2 ^ bits) (code_of k r c below) ∙ mod-eq_of_lt small

low_bits : (k low r c : ℕ) → low ≤ k → r < 2 ^ low → bits_from 0 low (r + 2 ^ k * c) ≡ r
low_bits k low r c within small =
    let e : k ≡ low + (k - low) = omega arith in
    let split : 2 ^ k ≡ 2 ^ low * 2 ^ (k - low) = ap (λ n. 2 ^ n) e ∙ pow-add 2 low (k - low) in
    let moved : r + 2 ^ k * c ≡ r + 2 ^ low * (2 ^ (k - low) * c) = ap (λ m. r + m * c) split ∙ ap (λ m. r + m) (mul_assoc (2 ^ low) (2 ^ (k - low)) c) in
    ap (λ m. m % 2 ^ low) (div-one (r + 2 ^ k * c))
    ∙ ap (λ m. m % 2 ^ low) moved
    ∙ add-mul-mod_self_left r (2 ^ low) (2 ^ (k - low) * c)
    ∙ mod-eq_of_lt small

both_fit : (k bits r c : ℕ) → r < 2 ^ k → c < 2 ^ bits → r + 2 ^ k * c < 2 ^ (k + bits)
both_fit k bits r c below small =
    let v = r + 2 ^ k * c in
    let code : v / 2 ^ k < 2 ^ bits = subst (λ m. m < 2 ^ bits) (sym (code_of k r c below)) small in
    let whole : v < 2 ^ bits * 2 ^ k = (div-lt_iff_lt-mul (pow_pos k)).0 code in
    let e : bits + k ≡ k + bits = omega arith in
    let size : 2 ^ bits * 2 ^ k ≡ 2 ^ (k + bits) = sym (pow-add 2 bits k) ∙ ap (λ n. 2 ^ n) e in
    subst (λ m. v < m) size whole

-- ---- all numbers

lows : (k low s : ℕ) (codes : List ℕ) → low ≤ k → AllByRecursion (λ x. x < 2 ^ low) (map (λ i. i % 2 ^ k) (range_with_len s (length codes)))
    → map (bits_from 0 low) (map (λ (i, c). i % 2 ^ k + 2 ^ k * c) (enumerate_from s codes)) ≡ map (λ i. i % 2 ^ k) (range_with_len s (length codes))
lows k low s [] within small = refl
lows k low s (c ∷ codes) within small =
    let here : bits_from 0 low (s % 2 ^ k + 2 ^ k * c) ≡ s % 2 ^ k = low_bits k low (s % 2 ^ k) c within small.0 in
    ap (λ m. m ∷ map (bits_from 0 low) (map (λ (i, c). i % 2 ^ k + 2 ^ k * c) (enumerate_from (s + 1) codes))) here
    ∙ ap (λ l. (s % 2 ^ k) ∷ l) (lows k low (s + 1) codes within small.1)

highs : (k bits s : ℕ) (codes : List ℕ) → AllByRecursion (λ c. c < 2 ^ bits) codes
    → map (bits_from k bits) (map (λ (i, c). i % 2 ^ k + 2 ^ k * c) (enumerate_from s codes)) ≡ codes
highs k bits s [] small = refl
highs k bits s (c ∷ codes) small =
    let here : bits_from k bits (s % 2 ^ k + 2 ^ k * c) ≡ c = high_bits k bits (s % 2 ^ k) c (mod-lt s (pow_pos k)) small.0 in
    ap (λ m. m ∷ map (bits_from k bits) (map (λ (i, c). i % 2 ^ k + 2 ^ k * c) (enumerate_from (s + 1) codes))) here
    ∙ ap (λ l. c ∷ l) (highs k bits (s + 1) codes small.1)

fit_from : (k bits s : ℕ) (codes : List ℕ) → AllByRecursion (λ c. c < 2 ^ bits) codes → AllByRecursion (λ v. v < 2 ^ (k + bits)) (map (λ (i, c). i % 2 ^ k + 2 ^ k * c) (enumerate_from s codes))
fit_from k bits s [] small = tt
fit_from k bits s (c ∷ codes) small = (both_fit k bits (s % 2 ^ k) c (mod-lt s (pow_pos k)) small.0, fit_from k bits (s + 1) codes small.1)

-- their low bits are the offsets
pub lows_are : (k : ℕ) (codes : List ℕ) → let offsets = offset_numbers (2 ^ k) (length codes) in map (bits_from 0 (least_width offsets)) (length_numbers (2 ^ k) codes) ≡ offsets
lows_are k codes =
    let offsets = offset_numbers (2 ^ k) (length codes) in
    lows k (least_width offsets) 0 codes (offsets_narrow k (length codes)) (least_width_holds offsets)

-- their high bits are the codes
pub highs_are : (k bits : ℕ) (codes : List ℕ) → AllByRecursion (λ c. c < 2 ^ bits) codes → map (bits_from k bits) (length_numbers (2 ^ k) codes) ≡ codes
highs_are k bits codes small = highs k bits 0 codes small

pub numbers_fit : (k bits : ℕ) (codes : List ℕ) → AllByRecursion (λ c. c < 2 ^ bits) codes → All (λ v. v < 2 ^ (k + bits)) (length_numbers (2 ^ k) codes)
numbers_fit k bits codes small = All-from_recursion (λ v. v < 2 ^ (k + bits)) (length_numbers (2 ^ k) codes) (fit_from k bits 0 codes small)

pub numbers_many : (b : ℕ) (codes : List ℕ) → length (length_numbers b codes) ≡ length codes
numbers_many b codes = length-map (enumerate_from 0 codes) (λ (t : ℕ × ℕ). t.0 % b + b * t.1) ∙ length-enumerate_from 0 codes

-- ---- the parts of what was built at once

module _ (k low bits : ℕ) (sigs : List Signature) (codes values : List ℕ) (many : length codes ≡ length sigs) (values_are : values ≡ length_numbers (2 ^ k) codes) where
  abbrev offsets : List ℕ
  offsets = offset_numbers (2 ^ k) (length sigs)

  module _ (low_is : low ≡ least_width (offset_numbers (2 ^ k) (length sigs))) where
    lows_here : map (bits_from 0 low) values ≡ offset_numbers (2 ^ k) (length sigs)
    lows_here =
        let wide : low ≡ least_width (offset_numbers (2 ^ k) (length codes)) = low_is ∙ ap (λ n. least_width (offset_numbers (2 ^ k) n)) (sym many) in
        (λ j. map (bits_from 0 (wide j)) (values_are j)) ∙ lows_are k codes ∙ ap (offset_numbers (2 ^ k)) many

    pub first_done : (f : FuncBuf) → IsDone Mwhc tries low (part_entries 0 low sigs values) f → IsDone Mwhc tries (least_width offsets) (entries_of sigs offsets) f
    first_done f done =
        subst (λ (w : ℕ). IsDone Mwhc tries w (entries_of sigs offsets) f) low_is
        (subst (λ (ns : List ℕ). IsDone Mwhc tries low (entries_of sigs ns) f) lows_here done)

    pub first_cause : (cause : Cause) → IsCause Mwhc tries (part_entries 0 low sigs values) cause → IsCause Mwhc tries (entries_of sigs offsets) cause
    first_cause cause is = subst (λ (ns : List ℕ). IsCause Mwhc tries (entries_of sigs ns) cause) lows_here is

  module _ (small : All (λ c. c < 2 ^ bits) codes) where
    each_small : AllByRecursion (λ c. c < 2 ^ bits) codes
    each_small = recursion_from_All (λ c. c < 2 ^ bits) codes small

    pub second_done : (f : FuncBuf) → IsDone Mwhc tries bits (part_entries k bits sigs values) f → IsDone Mwhc tries bits (entries_of sigs codes) f
    second_done f done = subst (λ (ns : List ℕ). IsDone Mwhc tries bits (entries_of sigs ns) f) (ap (map (bits_from k bits)) values_are ∙ highs_are k bits codes each_small) done

    pub values_fit : All (λ v. v < 2 ^ (k + bits)) values
    values_fit = subst (All (λ v. v < 2 ^ (k + bits))) (sym values_are) (numbers_fit k bits codes each_small)

  pub values_many : length values ≡ length sigs
  values_many = ap length values_are ∙ numbers_many (2 ^ k) codes ∙ many

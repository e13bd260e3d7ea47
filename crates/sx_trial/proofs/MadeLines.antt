-- The made lines: each is above the one before, and none is refused as a key.
use Rattle.std.proofs.Common.{◌≡◌, ℕ, zero, suc, ◌+◌, ◌*◌, ◌/◌, ◌%◌, ◌^◌, ◌<◌, ◌≤◌, Bool, false, List, [], ◌∷◌, ◌++◌, length, map, Some, None, inl, inr, refl, sym, ap, ◌∙◌, arith}
use Rattle.std.specs.Prelude.{◌==◌, slice_get}
use Rattle.std.specs.List.{list_any}
use Rattle.std.specs.Cmp.{nat_cmp_is}
use Rattle.std.specs.Cmp.Lexicographic.{slice_cmp}
use Rattle.std.specs.Ordering.{is_eq, is_lt, nat_cmp, ordering_reverse, ordering_then}
use Rattle.std.specs.declared.cmp.Ordering.{Ordering}
use Rattle.std.specs.declared.cmp.Ordering.TheVariants.{Less, Equal, Greater}
use Rattle.std.proofs.Math.Nat.{mul-le-mul_right, one-le-pow, pow-suc}
use Rattle.std.proofs.lemmas.Bool.{cases_lt, le-ltb, lt-leb, ne_eqb, or_from}
use Rattle.std.proofs.lemmas.Cmp.{nat_list_cmp_total}
use Rattle.std.proofs.lemmas.List.FromFn.{length-map-range_with_len, map-range_with_len_more, sum_by-map-range_with_len_more}
use Rattle.std.proofs.lemmas.Nat.{div-add-mod', mod-mul-add, mod_below, mul-add-lt}
use Rattle.sx_spec_strings.specs.Bits.{bytes_cmp}
use Rattle.sx_spec_strings.specs.First.{first_holding}
use Rattle.sx_spec_strings.proofs.Lists.{at_length}
use Rattle.sx_spec.specs.declared.Limits.{Limits}
use Rattle.sx_spec.specs.Keys.{too_long, zero_byte, doubled, unordered, too_many_keys, too_many_bytes, compares_to_last, refusal, standard_limits, total_bytes}
use Rattle.sx_spec.specs.Trial.{eight_digits, trial_keys}
use Rattle.sx_bits.specs.declared.fault.KeyFault.{KeyFault}
use Rattle.sx_bits.specs.declared.fault.KeyFault.TheVariants.{ZeroByte, Doubled, Unordered, TooManyKeys, TooManyBytes, Memory}
use Rattle.sx_bits.specs.KeyLists.{reason_of}
use Rattle.sx_bits.proofs.LastKeys.{no_last, by_last}

-- ---- digits

-- so many places, the highest first
abbrev places_below : ℕ → List ℕ
places_below zero = []
places_below (suc k) = k ∷ places_below k

-- the digits of a number at these places
abbrev digits_at : List ℕ → ℕ → List ℕ
digits_at places x = map (λ place. 48 + x / 10 ^ place % 10) places

-- a number's last digits, by the highest of them and the rest
top_and_rest : (x p : ℕ) → 0 < p → x % (p * 10) ≡ (x / p % 10) * p + x % p
top_and_rest x p positive =
    let whole = div-add-mod' x p in
    let digits = div-add-mod' (x / p) 10 in
    let low : x % p < p = mod_below x p positive in
    let digit : x / p % 10 < 10 = omega arith in
    let small : (x / p % 10) * p + x % p < p * 10 = mul-add-lt (x / p % 10) p (x % p) 10 digit low in
    let split : x ≡ (x / p / 10) * (p * 10) + ((x / p % 10) * p + x % p) = omega (arith, whole, ap (λ (n : ℕ). n * p) digits) in
    ap (λ (n : ℕ). n % (p * 10)) split ∙ mod-mul-add (x / p / 10) (p * 10) ((x / p % 10) * p + x % p) small

-- a number whose highest digit is above isn't below
top_decides : (a b r s p : ℕ) → s < p → b < a → a * p + r < b * p + s → ⊥
top_decides a b r s p low more less = omega (arith, mul-le-mul_right p (let h : suc b ≤ a = omega arith in h))

first_less : (a b : ℕ) (xs ys : List ℕ) → a < b → slice_cmp nat_cmp (a ∷ xs) (b ∷ ys) ≡ Less
first_less a b xs ys less = ap (λ (o : Ordering). ordering_then o (slice_cmp nat_cmp xs ys)) (sym (nat_cmp_is a b Less less))

first_same : (a b : ℕ) (xs ys : List ℕ) → a ≡ b → slice_cmp nat_cmp xs ys ≡ Less → slice_cmp nat_cmp (a ∷ xs) (b ∷ ys) ≡ Less
first_same a b xs ys same rest = ap (λ (o : Ordering). ordering_then o (slice_cmp nat_cmp xs ys)) (sym (nat_cmp_is a b Equal same)) ∙ rest

-- the same where one place is above the rest
by_top : (a b r s p : ℕ) (xs ys : List ℕ) → s < p → a * p + r < b * p + s → (r < s → slice_cmp nat_cmp xs ys ≡ Less)
    → slice_cmp nat_cmp ((48 + a) ∷ xs) ((48 + b) ∷ ys) ≡ Less
by_top a b r s p xs ys low less rest =
    elim (cases_lt a b) [
      | inl below ↦ first_less (48 + a) (48 + b) xs ys (omega arith)
      | inr more ↦ elim (cases_lt b a) [
        | inl above ↦ absurd (top_decides a b r s p low above less)
        | inr most ↦
            let same : a ≡ b = omega arith in
            let products : a * p ≡ b * p = ap (λ (n : ℕ). n * p) same in
            first_same (48 + a) (48 + b) xs ys (omega arith) (rest (omega arith))
      ]
    ]

-- the digits of a number whose last digits are below are below
digits_rise : (k x y : ℕ) → x % 10 ^ k < y % 10 ^ k → slice_cmp nat_cmp (digits_at (places_below k) x) (digits_at (places_below k) y) ≡ Less
digits_rise zero x y less = absurd (omega arith)
digits_rise (suc k) x y less =
    let positive : 0 < 10 ^ k = one-le-pow k 10 (omega arith) in
    let low : y % 10 ^ k < 10 ^ k = mod_below y (10 ^ k) positive in
    let base : 10 ^ suc k ≡ 10 ^ k * 10 = pow-suc 10 k in
    let top_x : x % 10 ^ suc k ≡ (x / 10 ^ k % 10) * 10 ^ k + x % 10 ^ k = ap (λ (n : ℕ). x % n) base ∙ top_and_rest x (10 ^ k) positive in
    let top_y : y % 10 ^ suc k ≡ (y / 10 ^ k % 10) * 10 ^ k + y % 10 ^ k = ap (λ (n : ℕ). y % n) base ∙ top_and_rest y (10 ^ k) positive in
    by_top (x / 10 ^ k % 10) (y / 10 ^ k % 10) (x % 10 ^ k) (y % 10 ^ k) (10 ^ k) (digits_at (places_below k) x) (digits_at (places_below k) y) low
    (omega (arith, top_x, top_y, less)) (digits_rise k x y)

-- a line is below the next
pub lines_rise : (x : ℕ) → x + 1 < 100000000 → bytes_cmp (eight_digits x) (eight_digits (x + 1)) ≡ Less
lines_rise x small =
    let here : x % 100000000 ≡ x = omega arith in
    let next : (x + 1) % 100000000 ≡ x + 1 = omega arith in
    digits_rise 8 x (x + 1) (omega arith)

-- ---- no reason is against a line

-- no digit is a zero byte
no_zero : (places : List ℕ) (x : ℕ) → list_any (λ b. b == 0) (digits_at places x) ≡ false
no_zero [] x = refl
no_zero (place ∷ places) x =
    or_from ((48 + x / 10 ^ place % 10) == 0) (list_any (λ b. b == 0) (digits_at places x)) (ne_eqb (48 + x / 10 ^ place % 10) 0 (λ zero_is. omega (arith, zero_is))) (no_zero places x)

-- one key more
keys_more : (n : ℕ) → trial_keys (n + 1) ≡ trial_keys n ++ eight_digits n ∷ []
keys_more n = map-range_with_len_more eight_digits 0 n n (omega arith)

keys_count : (n : ℕ) → length (trial_keys n) ≡ n
keys_count n = length-map-range_with_len eight_digits 0 n

keys_bytes : (n : ℕ) → total_bytes (trial_keys n) ≡ 8 * n
keys_bytes zero = refl
keys_bytes (suc n) =
    let e : suc n ≡ n + 1 = omega arith in
    let more = ap (λ (m : ℕ). total_bytes (trial_keys m)) e ∙ sum_by-map-range_with_len_more (λ (key : List ℕ). length key) eight_digits 0 n n (omega arith) in
    let before = keys_bytes n in
    omega (arith, more, before)

-- the last key is below the line
last_is_below : (test : Ordering → Bool) → test Greater ≡ false → (n : ℕ) → n < 1000000 → compares_to_last test (trial_keys n) (eight_digits n) ≡ false
last_is_below test fails zero small = no_last test (trial_keys 0) (eight_digits 0) refl
last_is_below test fails (suc n) small =
    let e : suc n ≡ n + 1 = omega arith in
    let rises : bytes_cmp (eight_digits n) (eight_digits (suc n)) ≡ Less = ap (λ (m : ℕ). bytes_cmp (eight_digits n) (eight_digits m)) e ∙ lines_rise n (omega arith) in
    let above : Greater ≡ bytes_cmp (eight_digits (suc n)) (eight_digits n) = sym (nat_list_cmp_total.antisymm (eight_digits (suc n)) (eight_digits n) ∙ ap ordering_reverse rises) in
    let last : n + 1 ≡ length (trial_keys (suc n)) = sym (keys_count (suc n) ∙ e) in
    let there : slice_get (trial_keys (suc n)) n ≡ Some (eight_digits n) =
    ap (λ (keys : List (List ℕ)). slice_get keys n) (ap trial_keys e ∙ keys_more n)
    ∙ ap (λ (i : ℕ). slice_get (trial_keys n ++ eight_digits n ∷ []) i) (sym (keys_count n))
    ∙ at_length (trial_keys n) (eight_digits n) [] in
    by_last test (trial_keys (suc n)) (eight_digits (suc n)) (eight_digits n) n Greater last there above ∙ fails

none_holds : (a b c d e f : Bool) → a ≡ false → b ≡ false → c ≡ false → d ≡ false → e ≡ false → f ≡ false
    → first_holding ((a, too_long) ∷ (b, zero_byte) ∷ (c, doubled) ∷ (d, unordered) ∷ (e, too_many_keys) ∷ (f, too_many_bytes) ∷ []) ≡ None
none_holds a b c d e f p q r s t u = λ i. first_holding ((p i, too_long) ∷ (q i, zero_byte) ∷ (r i, doubled) ∷ (s i, unordered) ∷ (t i, too_many_keys) ∷ (u i, too_many_bytes) ∷ [])

-- a key list of the lines before takes the line
pub none_refused : (n : ℕ) → n < 1000000 → refusal standard_limits (trial_keys n) (eight_digits n) ≡ None
none_refused n small =
    let count = keys_count n in
    let bytes = keys_bytes n in
    none_holds _ _ _ _ _ _
    refl
    (no_zero (places_below 8) n)
    (last_is_below is_eq refl n small)
    (last_is_below is_lt refl n small)
    (lt-leb 4194304 (length (trial_keys n)) (omega arith))
    (le-ltb 268435456 (total_bytes (trial_keys n) + length (eight_digits n)) (omega arith))

only_memory : (fault : KeyFault) → reason_of fault ≡ None → fault ≡ Memory
only_memory ZeroByte free = absurd cc
only_memory Doubled free = absurd cc
only_memory Unordered free = absurd cc
only_memory TooManyKeys free = absurd cc
only_memory TooManyBytes free = absurd cc
only_memory Memory free = refl

-- so only want of memory keeps it out
pub refused_for_memory : (n : ℕ) → n < 1000000 → (limits : Limits) (lines : List (List ℕ)) (line : List ℕ) (fault : KeyFault) → limits ≡ standard_limits → lines ≡ trial_keys n → line ≡ eight_digits n
    → refusal limits lines line ≡ reason_of fault → fault ≡ Memory
refused_for_memory n small limits lines line fault limits_are lines_are line_is refused =
    only_memory fault (sym refused ∙ (λ i. refusal (limits_are i) (lines_are i) (line_is i)) ∙ none_refused n small)

-- and the list holds one line more
pub line_taken : (n : ℕ) (lines after : List (List ℕ)) (line : List ℕ) → lines ≡ trial_keys n → line ≡ eight_digits n → after ≡ lines ++ line ∷ [] → after ≡ trial_keys (n + 1)
line_taken n lines after line lines_are line_is taken = taken ∙ (λ i. lines_are i ++ line_is i ∷ []) ∙ sym (keys_more n)

-- The first faulty line of a values file, where the lines before it are known to be fine.
use Rattle.std.proofs.Common.{◌≡◌, ℕ, suc, ◌+◌, ◌-◌, ◌*◌, ◌^◌, ◌<◌, ◌≤◌, Bool, true, false, List, [], ◌∷◌, ◌++◌, length, refl, sym, ap, ◌∙◌, arith, Some, None, inl, inr, ◌⊎◌, lit<}
use Rattle.std.specs.Prelude.{nat_lt, fold, ◌==◌, ◌&&◌, ◌||◌, if◌then◌else◌}
use Rattle.std.specs.Char.{is_ascii_digit}
use Rattle.std.specs.List.{filter_map, enumerate_from, list_all}
use Rattle.std.proofs.lemmas.Bool.{lt-ltb, le-ltb, and_parts, ltb-true, eqb-true}
use Rattle.std.proofs.Math.Nat.{mul-le-mul_right, pow-succ', mul_assoc, mul_comm, pow-le-pow_right, le_trans}
use Rattle.std.proofs.lemmas.List.Elements.{filter_map-append}
use Rattle.sx_spec_strings.specs.First.{first}
use Rattle.sx_spec.specs.Command.{Text}
use Rattle.sx_spec.specs.Values.{ValuesFault, not_a_number, more_than_keys, fewer_than_keys, is_numeral, numeral_value, value_on, value_fault, values_faults}
use Rattle.sx_cli.proofs.FirstFaults.{enumerate_from-append}
use Rattle.sx_cli.specs.Lines.{longest_line}

-- ---- long lines

-- digits behind a number make it at least so much larger
folded : (n : ℕ) (text : List ℕ) → n * 10 ^ length text ≤ fold (λ n c. 10 * n + (c - 48)) n text
folded n [] = omega arith
folded n (c ∷ text) =
    let rest = folded (10 * n + (c - 48)) text in
    let step : 10 * n * 10 ^ length text ≤ (10 * n + (c - 48)) * 10 ^ length text = mul-le-mul_right (10 ^ length text) (omega arith) in
    let front : n * 10 ^ suc (length text) ≡ 10 * n * 10 ^ length text =
    ap (λ (x : ℕ). n * x) (pow-succ' 10 (length text)) ∙ sym (mul_assoc n 10 (10 ^ length text)) ∙ ap (λ (x : ℕ). x * 10 ^ length text) (mul_comm n 10) in
    le_trans (omega (arith, front, step)) rest

-- a numeral of more than 20 digits is at least 10 ^ 20
long_numeral : (c : ℕ) (text : List ℕ) → 48 < c → 20 ≤ length text → 10 ^ 20 ≤ numeral_value (c ∷ text)
long_numeral c text above long =
    let value = folded (10 * 0 + (c - 48)) text in
    let power : 10 ^ 20 ≤ 10 ^ length text = pow-le-pow_right (lit< tt) long in
    let one : 1 * 10 ^ length text ≤ (10 * 0 + (c - 48)) * 10 ^ length text = mul-le-mul_right (10 ^ length text) (omega arith) in
    let same : 1 * 10 ^ length text ≡ 10 ^ length text = omega arith in
    le_trans power (le_trans (omega (arith, same, one)) value)

one_of : (b d : Bool) → (b || d) ≡ true → (b ≡ true) ⊎ (d ≡ true)
one_of true d e = inl refl
one_of false d e = inr e

-- a line that is too long gives no value
pub long_no_value : (text : List ℕ) → longest_line < length text → value_on text ≡ None
long_no_value [] long = absurd (omega arith)
long_no_value (c ∷ text) long = by_test (is_numeral (c ∷ text)) refl (nat_lt (numeral_value (c ∷ text)) (2 ^ 64)) refl
  where
    by_test : (b : Bool) → is_numeral (c ∷ text) ≡ b → (s : Bool) → nat_lt (numeral_value (c ∷ text)) (2 ^ 64) ≡ s
        → (if b && s then Some (numeral_value (c ∷ text)) else None) ≡ None
    by_test false e s f = refl
    by_test true e false f = refl
    by_test true e true f =
        let (_, begins) = and_parts (list_all is_ascii_digit (c ∷ text)) (length (c ∷ text) == 1 || nat_lt 48 c) e in
        let small = ltb-true (numeral_value (c ∷ text)) (2 ^ 64) f in
        elim (one_of (length (c ∷ text) == 1) (nat_lt 48 c) begins) [
          | inl one ↦ absurd (let e = eqb-true (length (c ∷ text)) 1 one in omega arith)
          | inr above ↦ absurd (let large = long_numeral c text (ltb-true 48 c above) (omega arith) in omega (arith, large, small))
        ]

-- ---- lines

-- a line past the number of keys
pub many_fault : (keys line : ℕ) (text : Text) → keys < line → value_fault keys (line, text) ≡ Some (more_than_keys line)
many_fault keys line text over = let t = lt-ltb keys line over in rw t refl

-- a line that is no number
pub bad_fault : (keys line : ℕ) (text : Text) → line ≤ keys → value_on text ≡ None → value_fault keys (line, text) ≡ Some (not_a_number line)
bad_fault keys line text within none = let t = le-ltb keys line within in rw (t, none) refl

-- a line with a value
pub no_value_fault : (keys line v : ℕ) (text : Text) → line ≤ keys → value_on text ≡ Some v → value_fault keys (line, text) ≡ None
no_value_fault keys line v text within some = let t = le-ltb keys line within in rw (t, some) refl

-- the value on a line is that of its digits
pub value_is : (v : ℕ) (text : Text) → value_on text ≡ Some v → numeral_value text ≡ v
value_is v text some = by_test (is_numeral text && nat_lt (numeral_value text) (2 ^ 64)) some
  where
    by_test : (b : Bool) → (if b then Some (numeral_value text) else None) ≡ Some v → numeral_value text ≡ v
    by_test true e = cc
    by_test false e = absurd cc

-- ---- all lines

-- what is wrong with the lines of a file, without their number
abbrev line_faults : ℕ → List Text → List ValuesFault
line_faults keys ls = filter_map (value_fault keys) (enumerate_from 1 ls)

-- one more line with a value
pub values_grow : (keys : ℕ) (ls : List Text) (text : Text) (line : ℕ) → line ≡ length ls + 1 → line_faults keys ls ≡ [] → value_fault keys (line, text) ≡ None → line_faults keys (ls ++ text ∷ []) ≡ []
values_grow keys ls text line at fine none =
    let e : line ≡ 1 + length ls = omega arith in
    let here : value_fault keys (1 + length ls, text) ≡ None = rw e at none in
    ap (filter_map (value_fault keys)) (enumerate_from-append 1 ls (text ∷ []))
    ∙ filter_map-append (value_fault keys) (enumerate_from 1 ls) (enumerate_from (1 + length ls) (text ∷ [])) ∙ rw (fine, here) refl

-- after lines with values the next one's fault is the first
pub first_value_fault : (keys : ℕ) (ls : List Text) (text : Text) (more : List Text) (line : ℕ) (fault : ValuesFault) → line ≡ length ls + 1 → line_faults keys ls ≡ [] → value_fault keys (line, text) ≡ Some fault
    → first (values_faults keys (ls ++ text ∷ more)) ≡ Some fault
first_value_fault keys ls text more line fault at fine some =
    let e : line ≡ 1 + length ls = omega arith in
    let here : value_fault keys (1 + length ls, text) ≡ Some fault = rw e at some in
    let split : line_faults keys (ls ++ text ∷ more) ≡ fault ∷ filter_map (value_fault keys) (enumerate_from (1 + length ls + 1) more) =
    ap (filter_map (value_fault keys)) (enumerate_from-append 1 ls (text ∷ more))
    ∙ filter_map-append (value_fault keys) (enumerate_from 1 ls) (enumerate_from (1 + length ls) (text ∷ more)) ∙ rw (fine, here) refl in
    ap (λ (fs : List ValuesFault). first (fs ++ (if nat_lt (length (ls ++ text ∷ more)) keys then fewer_than_keys (length (ls ++ text ∷ more)) ∷ [] else []))) split

-- as many lines as keys
pub enough_values : (keys : ℕ) (ls : List Text) → line_faults keys ls ≡ [] → length ls ≡ keys → values_faults keys ls ≡ []
enough_values keys ls fine many = let t = le-ltb (length ls) keys (omega arith) in rw (fine, t) refl

-- fewer lines than keys
pub few_values : (keys : ℕ) (ls : List Text) → line_faults keys ls ≡ [] → length ls < keys → first (values_faults keys ls) ≡ Some (fewer_than_keys (length ls))
few_values keys ls fine few = let t = lt-ltb (length ls) keys few in rw (fine, t) refl

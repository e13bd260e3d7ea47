-- Which delimiters begin with a string: those from the number of the ones below it on, as many as begin with it.
use Rattle.std.proofs.Common.{◌≡◌, ℕ, zero, suc, ◌+◌, ◌<◌, ◌≤◌, Bool, true, false, List, [], ◌∷◌, ◌++◌, length, get_or, refl, ap, arith, inl, inr}
use Rattle.std.specs.Prelude.{count_by}
use Rattle.std.proofs.lemmas.Bool.{cases_Bool, false_from_ne_true}
use Rattle.sx_spec_strings.specs.Bits.{Bits, AreKeyBits, bit_at, begins_with, common_prefix, is_below}
use Rattle.sx_spec_strings.proofs.BitLaws.{begins_refl, begins_tail, begins_not_below, begins_below, below_trans, below_asym, below_total, below_irrefl, bit_eq_refl}
use Rattle.sx_spec_kinds.proofs.NameLaws.{in_at}
use Rattle.sx_spec_kinds.proofs.TrieLaws.{keys_rest, keys_first, keys_prefix}
use Rattle.sx_spec_kinds.proofs.CountLaws.{one_if, count_cons, count_none}

-- ---- counts along the list

module _ (d : Bits) (ds : List Bits) (keys : AreKeyBits (d ∷ ds)) (s : Bits) where
  -- where the first isn't below, none is
  none_below : is_below d s ≡ false → count_by (λ g. is_below g s) ds ≡ 0
  none_below not =
      count_none (λ g. is_below g s) ds (λ g i. false_from_ne_true (is_below g s) (λ b.
      let less = below_trans d g s (keys_first d ds keys g i) b in
      cc))

  -- where the first is above and doesn't begin with the string, none begins with it
  none_begins : is_below d s ≡ false → begins_with d s ≡ false → count_by (λ g. begins_with g s) ds ≡ 0
  none_begins not out =
      let above : is_below s d ≡ true =
      elim (cases_Bool (is_below s d)) [
        | inl over ↦ over
        | inr neither ↦
            let same = below_total d s not neither in
            let begins : begins_with d s ≡ true = rw same (begins_refl s) in
            cc
      ] in
      count_none (λ g. begins_with g s) ds (λ g i. false_from_ne_true (begins_with g s) (λ b.
      let less = begins_below d s g above out b in
      let more = below_asym d g (keys_first d ds keys g i) in
      cc))

pub in_range : (ds : List Bits) → AreKeyBits ds → (s : Bits) (j : ℕ) → j < length ds → count_by (λ d. is_below d s) ds ≤ j
    → j < count_by (λ d. is_below d s) ds + count_by (λ d. begins_with d s) ds → begins_with (get_or ds j []) s ≡ true
in_range [] keys s j inside low high = absurd (omega arith)
in_range (d ∷ ds) keys s zero inside low high =
    let below = count_cons (λ g. is_below g s) d ds in
    let begins = count_cons (λ g. begins_with g s) d ds in
    elim (cases_Bool (begins_with d s)) [
      | inl found ↦ found
      | inr out ↦
          elim (cases_Bool (is_below d s)) [
            | inl less ↦ let one = ap one_if less in absurd (omega arith)
            | inr not ↦
                let none = ap one_if out in
                let rest = none_begins d ds keys s not out in
                let before = none_below d ds keys s not in
                let zero' = ap one_if not in
                absurd (omega arith)
          ]
    ]
in_range (d ∷ ds) keys s (suc j) inside low high =
    let below = count_cons (λ g. is_below g s) d ds in
    let begins = count_cons (λ g. begins_with g s) d ds in
    elim (cases_Bool (is_below d s)) [
      | inl less ↦
          let one = ap one_if less in
          let out : begins_with d s ≡ false = false_from_ne_true (begins_with d s) (λ b. let n = begins_not_below d s b in cc) in
          let none = ap one_if out in
          in_range ds (keys_rest d ds keys) s j (omega arith) (omega arith) (omega arith)
      | inr not ↦
          let zero' = ap one_if not in
          let before = none_below d ds keys s not in
          elim (cases_Bool (begins_with d s)) [
            | inl found ↦
                let one = ap one_if found in
                in_range ds (keys_rest d ds keys) s j (omega arith) (omega arith) (omega arith)
            | inr out ↦
                let none = ap one_if out in
                let rest = none_begins d ds keys s not out in
                absurd (omega arith)
          ]
    ]

pub range_of : (ds : List Bits) → AreKeyBits ds → (s : Bits) (j : ℕ) → j < length ds → begins_with (get_or ds j []) s ≡ true
    → (count_by (λ d. is_below d s) ds ≤ j) × (j < count_by (λ d. is_below d s) ds + count_by (λ d. begins_with d s) ds)
range_of [] keys s j inside found = absurd (omega arith)
range_of (d ∷ ds) keys s zero inside found =
    let below = count_cons (λ g. is_below g s) d ds in
    let begins = count_cons (λ g. begins_with g s) d ds in
    let not = begins_not_below d s found in
    let zero' = ap one_if not in
    let before = none_below d ds keys s not in
    let one = ap one_if found in
    (omega arith, omega arith)
range_of (d ∷ ds) keys s (suc j) inside found =
    let below = count_cons (λ g. is_below g s) d ds in
    let begins = count_cons (λ g. begins_with g s) d ds in
    let (low, high) = range_of ds (keys_rest d ds keys) s j (omega arith) found in
    elim (cases_Bool (is_below d s)) [
      | inl less ↦
          let one = ap one_if less in
          (omega arith, omega arith)
      | inr not ↦
          let zero' = ap one_if not in
          let before = none_below d ds keys s not in
          elim (cases_Bool (begins_with d s)) [
            | inl first ↦ let one = ap one_if first in (omega arith, omega arith)
            | inr out ↦ let rest = none_begins d ds keys s not out in absurd (omega arith)
          ]
    ]

-- ---- strings that part

pub parted_prefix : (x y p : Bits) → begins_with x (p ++ false ∷ []) ≡ true → begins_with y (p ++ true ∷ []) ≡ true → common_prefix x y ≡ p
parted_prefix [] y [] h k = absurd cc
parted_prefix (b ∷ x) [] [] h k = absurd cc
parted_prefix (true ∷ x) (c ∷ y) [] h k = absurd cc
parted_prefix (false ∷ x) (false ∷ y) [] h k = absurd cc
parted_prefix (false ∷ x) (true ∷ y) [] h k = refl
parted_prefix [] y (d ∷ p) h k = absurd cc
parted_prefix (b ∷ x) [] (d ∷ p) h k = absurd cc
parted_prefix (b ∷ x) (c ∷ y) (d ∷ p) h k =
    let first = begins_tail b d x (p ++ false ∷ []) h in
    let second = begins_tail c d y (p ++ true ∷ []) k in
    let e = first.0 in
    let f = second.0 in
    rw (e, f, bit_eq_refl d) (ap (λ z. d ∷ z) (parted_prefix x y p first.1 second.1))

-- the bit behind a prefix
pub bit_behind : (x p : Bits) (b : Bool) → begins_with x (p ++ b ∷ []) ≡ true → bit_at x (length p) ≡ b
bit_behind [] [] b h = absurd cc
bit_behind (c ∷ x) [] b h = (begins_tail c b x [] h).0
bit_behind [] (d ∷ p) b h = absurd cc
bit_behind (c ∷ x) (d ∷ p) b h = bit_behind x p b (begins_tail c d x (p ++ b ∷ []) h).1

pub longer_behind : (x p : Bits) (b : Bool) → begins_with x (p ++ b ∷ []) ≡ true → length p < length x
longer_behind [] [] b h = absurd cc
longer_behind (c ∷ x) [] b h = omega arith
longer_behind [] (d ∷ p) b h = absurd cc
longer_behind (c ∷ x) (d ∷ p) b h = let rest = longer_behind x p b (begins_tail c d x (p ++ b ∷ []) h).1 in omega arith

-- ---- the delimiters of a key list

-- of two keys the earlier is below the later, and no prefix of it
pub key_pair : (ks : List Bits) (i j : ℕ) → AreKeyBits ks → i < j → j < length ks
    → (is_below (get_or ks i []) (get_or ks j []) ≡ true) × (begins_with (get_or ks j []) (get_or ks i []) ≡ false)
key_pair [] i j keys lt inside = absurd (omega arith)
key_pair (k ∷ ks) i zero keys lt inside = absurd (omega arith)
key_pair (k ∷ ks) (suc i) (suc j) keys lt inside = key_pair ks i j (keys_rest k ks keys) (omega arith) (omega arith)
key_pair (k ∷ ks) zero (suc j) keys lt inside =
    let there = in_at ks j (omega arith) in
    let g = get_or ks j [] in
    let less = keys_first k ks keys g there in (
      less,
      false_from_ne_true (begins_with g k) (λ b.
          let same = keys_prefix (k ∷ ks) k g keys (inl refl) (inr there) b in
          let again : is_below k k ≡ true = rw same at less in
          let none = below_irrefl k in
          cc),
    )

-- strings of which each pair of neighbours is of two keys are keys
pub keys_from_pairs : (ds : List Bits)
    → ((i : ℕ) → suc i < length ds → (is_below (get_or ds i []) (get_or ds (suc i) []) ≡ true) × (begins_with (get_or ds (suc i) []) (get_or ds i []) ≡ false)) → AreKeyBits ds
keys_from_pairs [] each = tt
keys_from_pairs (d ∷ []) each = tt
keys_from_pairs (d ∷ e ∷ ds) each =
    ((each 0 (omega arith)).0, (each 0 (omega arith)).1, keys_from_pairs (e ∷ ds) (λ i lt. each (suc i) (omega arith)))

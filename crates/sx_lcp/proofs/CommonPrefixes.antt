-- The longest common prefix of keys in order is that of the first and the last of them.
use Rattle.std.proofs.Common.{◌≡◌, ℕ, zero, suc, ◌+◌, ◌-◌, ◌<◌, ◌≤◌, false, List, [], ◌∷◌, length, take, drop, get_or, refl, ◌∙◌, ap, arith, inl, inr}
use Rattle.std.proofs.lemmas.List.{length-drop, length-take, get_or-drop, get_or-take}
use Rattle.sx_spec_strings.specs.Bits.{Bits, AreKeyBits, common_prefix, common_prefix_of, is_below}
use Rattle.sx_spec_strings.specs.Ordered.{IsIn}
use Rattle.sx_spec_strings.proofs.BitLaws.{begins_between, begins_both, common_begins_left, common_begins_right, common_longest, below_irrefl, below_asym}
use Rattle.sx_spec_kinds.proofs.LcpLaws.{begins_common_of, common_of_longest}
use Rattle.sx_spec_kinds.proofs.NameLaws.{in_at}
use Rattle.sx_spec_kinds.proofs.TrieLaws.{keys_first, keys_rest}
use Rattle.sx_lcp.specs.Parts.{prefix_between}

-- ---- a part of keys

keys_drop : (n : ℕ) (ks : List Bits) → AreKeyBits ks → AreKeyBits (drop n ks)
keys_drop zero ks h = h
keys_drop (suc n) [] h = tt
keys_drop (suc n) (k ∷ ks) h = keys_drop n ks (keys_rest k ks h)

keys_take : (n : ℕ) (ks : List Bits) → AreKeyBits ks → AreKeyBits (take n ks)
keys_take zero ks h = tt
keys_take (suc n) [] h = tt
keys_take (suc n) (k ∷ []) h = keys_take_one n k
  where
    keys_take_one : (n : ℕ) (k : Bits) → AreKeyBits (k ∷ take n [])
    keys_take_one zero k = tt
    keys_take_one (suc n) k = tt
keys_take (suc zero) (k ∷ l ∷ ks) h = tt
keys_take (suc (suc n)) (k ∷ l ∷ ks) h = (h.0, h.1, keys_take (suc n) (l ∷ ks) h.2)

-- ---- the first and the last

-- no key is below the first one
above_first : (k : Bits) (ks : List Bits) → AreKeyBits (k ∷ ks) → (h : Bits) → IsIn (k ∷ ks) h → is_below h k ≡ false
above_first k ks keys h (inl same) = rw same (below_irrefl k)
above_first k ks keys h (inr i) = below_asym k h (keys_first k ks keys h i)

-- the last one is below no key
below_last : (k : Bits) (ks : List Bits) → AreKeyBits (k ∷ ks) → (h : Bits) → IsIn (k ∷ ks) h → is_below (get_or (k ∷ ks) (length ks) []) h ≡ false
below_last k [] keys h (inl same) = rw same (below_irrefl k)
below_last k [] keys h (inr i) = elim i [ ]
below_last k (l ∷ ks) keys h (inl same) =
    rw same (below_asym k (get_or (l ∷ ks) (length ks) []) (keys_first k (l ∷ ks) keys (get_or (l ∷ ks) (length ks) []) (in_at (l ∷ ks) (length ks) (omega arith))))
below_last k (l ∷ ks) keys h (inr i) = below_last l ks (keys_rest k (l ∷ ks) keys) h i

-- what the first and the last share is in all of them
prefix_of_ends : (k : Bits) (ks : List Bits) → AreKeyBits (k ∷ ks) → common_prefix_of (k ∷ ks) ≡ common_prefix k (get_or (k ∷ ks) (length ks) [])
prefix_of_ends k ks keys =
    let last = get_or (k ∷ ks) (length ks) [] in
    let shared = common_prefix k last in
    let whole = common_prefix_of (k ∷ ks) in
    begins_both whole shared
    (common_of_longest k ks shared
    (λ h i. begins_between k h last shared (above_first k ks keys h i) (below_last k ks keys h i) (common_begins_left k last) (common_begins_right k last)))
    (common_longest k last whole (begins_common_of (k ∷ ks) k (inl refl)) (begins_common_of (k ∷ ks) last (in_at (k ∷ ks) (length ks) (omega arith))))

-- the same by the length of the list
prefix_by_length : (ks : List Bits) (n : ℕ) → AreKeyBits ks → length ks ≡ suc n → common_prefix_of ks ≡ common_prefix (get_or ks 0 []) (get_or ks n [])
prefix_by_length [] n keys e = absurd (omega arith)
prefix_by_length (k ∷ ks) n keys e =
    let same : length ks ≡ n = omega arith in
    rw (← same) (prefix_of_ends k ks keys)

-- the prefix of the keys from one number up to before another
pub prefix_is_of_ends : (ks : List Bits) (first after : ℕ) → AreKeyBits ks → first < after → after ≤ length ks
    → prefix_between ks first after ≡ common_prefix (get_or ks first []) (get_or ks (after - 1) [])
prefix_is_of_ends ks first after keys some within =
    let n = after - first - 1 in
    let left = length-drop first ks in
    let size = length-take (after - first) (drop first ks) in
    let front : get_or (take (after - first) (drop first ks)) 0 [] ≡ get_or ks first [] =
    get_or-take (after - first) (drop first ks) 0 [] (omega arith) ∙ get_or-drop first ks 0 [] ∙ ap (λ i. get_or ks i []) (let e : first + 0 ≡ first = omega arith in e)
    in
    let back : get_or (take (after - first) (drop first ks)) n [] ≡ get_or ks (after - 1) [] =
    get_or-take (after - first) (drop first ks) n [] (omega arith) ∙ get_or-drop first ks n [] ∙ ap (λ i. get_or ks i []) (let e : first + n ≡ after - 1 = omega arith in e)
    in
    prefix_by_length (take (after - first) (drop first ks)) n (keys_take (after - first) (drop first ks) (keys_drop first ks keys)) (omega arith)
    ∙ ap (λ x. common_prefix x (get_or (take (after - first) (drop first ks)) n [])) front
    ∙ ap (common_prefix (get_or ks first [])) back

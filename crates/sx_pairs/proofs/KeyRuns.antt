-- Keys in order: those between two that begin with a string begin with it too.
use Rattle.std.proofs.Common.{◌≡◌, ℕ, zero, suc, ◌+◌, ◌<◌, ◌≤◌, ◌==◌, true, false, List, [], ◌∷◌, Some, length, get_or, sym, ap, subst, ◌∙◌, arith, inl, inr, eq-eqb}
use Rattle.std.specs.Prelude.{slice_get}
use Rattle.std.proofs.lemmas.Bool.{cases_eq, ne_eqb, false_from_ne_true}
use Rattle.sx_spec_strings.specs.Bits.{Bits, AreKeyBits, begins_with, common_prefix, is_below}
use Rattle.sx_spec_strings.proofs.BitLaws.{begins_whole, begins_between, below_asym, below_irrefl, common_begins_left, common_begins_right, common_of_prefix}
use Rattle.sx_trie.proofs.Delimiters.{key_pair}

-- the bits that are read at i
pub read_at : (ks : List Bits) (i : ℕ) (b : Bits) → slice_get ks i ≡ Some b → b ≡ get_or ks i []
read_at [] i b e = absurd cc
read_at (k ∷ ks) zero b e = cc
read_at (k ∷ ks) (suc i) b e = read_at ks i b e

-- a string begins with another where their common prefix is as long as that
pub begins_by_length : (x p : Bits) → length (common_prefix x p) ≡ length p → begins_with x p ≡ true
begins_by_length x p same =
    let whole : common_prefix x p ≡ p = begins_whole p (common_prefix x p) (common_begins_right x p) (omega arith) in
    subst (λ (q : Bits). begins_with x q ≡ true) whole (common_begins_left x p)

pub not_by_length : (x p : Bits) → (length (common_prefix x p) ≡ length p → ⊥) → begins_with x p ≡ false
not_by_length x p differ =
    false_from_ne_true (begins_with x p) (λ b. differ (ap length (common_of_prefix x p b)))

pub test_of_lengths : (x p : Bits) (a b : ℕ) → a ≡ length (common_prefix x p) → b ≡ length p → (a == b) ≡ begins_with x p
test_of_lengths x p a b e f =
    elim (cases_eq a b) [
      | inl same ↦ eq-eqb a b same ∙ sym (begins_by_length x p (omega arith))
      | inr differ ↦ ne_eqb a b differ ∙ sym (not_by_length x p (λ g. differ (omega arith)))
    ]

module _ (ks : List Bits) (keys : AreKeyBits ks) where
  -- no key is below an earlier one
  pub not_below : (i j : ℕ) → i ≤ j → j < length ks → is_below (get_or ks j []) (get_or ks i []) ≡ false
  not_below i j le inside =
      elim (cases_eq i j) [
        | inl same ↦ ap (λ n. is_below (get_or ks j []) (get_or ks n [])) same ∙ below_irrefl (get_or ks j [])
        | inr differ ↦ below_asym (get_or ks i []) (get_or ks j []) (key_pair ks i j keys (omega arith) inside).0
      ]

  pub between : (i j k : ℕ) (p : Bits) → i ≤ j → j ≤ k → k < length ks → begins_with (get_or ks i []) p ≡ true → begins_with (get_or ks k []) p ≡ true → begins_with (get_or ks j []) p ≡ true
  between i j k p le le' inside first last =
      begins_between (get_or ks i []) (get_or ks j []) (get_or ks k []) p
      (not_below i j le (omega arith)) (not_below j k le' inside) first last

  module _ (at mid : ℕ) (p : Bits) (own : begins_with (get_or ks at []) p ≡ true) where
    pub up_to : mid < length ks → begins_with (get_or ks mid []) p ≡ true → (i : ℕ) → at ≤ i → i < mid + 1 → begins_with (get_or ks i []) p ≡ true
    up_to inside begins i low high = between at i mid p low (omega arith) inside own begins

    pub none_from : at ≤ mid → begins_with (get_or ks mid []) p ≡ false → (i : ℕ) → mid ≤ i → i < length ks → begins_with (get_or ks i []) p ≡ false
    none_from le not i low inside =
        false_from_ne_true (begins_with (get_or ks i []) p) (λ b.
        let begins = between at mid i p le low inside own b in cc)

    pub down_to : at < length ks → begins_with (get_or ks mid []) p ≡ true → (i : ℕ) → mid ≤ i → i ≤ at → begins_with (get_or ks i []) p ≡ true
    down_to inside begins i low high = between mid i at p low high inside begins own

    pub none_to : mid ≤ at → at < length ks → begins_with (get_or ks mid []) p ≡ false → (i : ℕ) → i < mid + 1 → begins_with (get_or ks i []) p ≡ false
    none_to le inside not i high =
        false_from_ne_true (begins_with (get_or ks i []) p) (λ b.
        let begins = between i mid at p (omega arith) le inside b own in cc)

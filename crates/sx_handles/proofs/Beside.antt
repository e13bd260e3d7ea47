-- The delimiters beside a string: one of them begins with each prefix that the string shares with some delimiter.
use Rattle.std.proofs.Common.{◌≡◌, ◌⊎◌, ℕ, zero, suc, ◌-◌, ◌<◌, ◌≤◌, true, false, List, [], ◌∷◌, length, get_or, sym, ◌∙◌, ap, subst, arith, inl, inr}
use Rattle.std.specs.Prelude.{count_by}
use Rattle.std.proofs.lemmas.Bool.{cases_Bool, cases_lt, cases_eq, false_from_ne_true}
use Rattle.sx_spec_strings.specs.Bits.{Bits, AreKeyBits, begins_with, common_prefix, is_below}
use Rattle.sx_spec_strings.specs.Ordered.{IsIn}
use Rattle.sx_spec_strings.proofs.BitLaws.{begins_trans, begins_length, begins_shorter, begins_between, common_begins_left, common_begins_right, common_longest, below_trans, below_asym, below_irrefl}
use Rattle.sx_spec_kinds.specs.Blocks.{block_of}
use Rattle.sx_spec_kinds.proofs.NameLaws.{in_at, at_in}
use Rattle.sx_spec_kinds.proofs.TrieLaws.{keys_rest, keys_first}
use Rattle.sx_spec_kinds.proofs.CountLaws.{one_if, count_cons, count_none}
use Rattle.sx_trie.proofs.Delimiters.{key_pair}
use Rattle.sx_handles.proofs.Handled.{IsNearest}

-- ---- the block of a string among delimiters in order

-- where the first isn't below the string, none is
none_after : (d : Bits) (ds : List Bits) → AreKeyBits (d ∷ ds) → (x : Bits) → is_below d x ≡ false → count_by (λ g. is_below g x) ds ≡ 0
none_after d ds keys x not =
    count_none (λ g. is_below g x) ds (λ g i. false_from_ne_true (is_below g x) (λ b.
    let less = below_trans d g x (keys_first d ds keys g i) b in
    cc))

-- as many delimiters are below the string as stand before the first that isn't
pub block_from : (ds : List Bits) → AreKeyBits ds → (x : Bits) (b : ℕ) → b ≤ length ds → (0 < b → is_below (get_or ds (b - 1) []) x ≡ true) → (b < length ds → is_below (get_or ds b []) x ≡ false) → block_of ds x ≡ b
block_from [] keys x b within low high = let none : b ≡ 0 = omega arith in sym none
block_from (d ∷ ds) keys x zero within low high =
    let not = high (omega arith) in
    let all = count_cons (λ g. is_below g x) d ds in
    let first = ap one_if not in
    let rest = none_after d ds keys x not in
    omega arith
block_from (d ∷ ds) keys x (suc b) within low high =
    let e : suc b - 1 ≡ b = omega arith in
    let own : is_below (get_or (d ∷ ds) b []) x ≡ true = ap (λ n. is_below (get_or (d ∷ ds) n []) x) (sym e) ∙ low (omega arith) in
    let all = count_cons (λ g. is_below g x) d ds in
    elim (cases_lt 0 b) [
      | inl more ↦
          let at : get_or (d ∷ ds) b [] ≡ get_or ds (b - 1) [] = let n : b ≡ suc (b - 1) = omega arith in ap (λ m. get_or (d ∷ ds) m []) n in
          let before : is_below (get_or ds (b - 1) []) x ≡ true = ap (λ (g : Bits). is_below g x) (sym at) ∙ own in
          let less = below_trans d (get_or ds (b - 1) []) x (keys_first d ds keys (get_or ds (b - 1) []) (in_at ds (b - 1) (omega arith))) before in
          let first = ap one_if less in
          let rest = block_from ds (keys_rest d ds keys) x b (omega arith) (λ s. before) (λ s. high (omega arith)) in
          omega arith
      | inr none ↦
          let n : b ≡ 0 = omega arith in
          let less : is_below d x ≡ true = ap (λ m. is_below (get_or (d ∷ ds) m []) x) (sym n) ∙ own in
          let first = ap one_if less in
          let rest = block_from ds (keys_rest d ds keys) x b (omega arith) (λ s. absurd (omega arith)) (λ s. high (omega arith)) in
          omega arith
    ]

-- the delimiters before the block are below the string, and no later one is
pub below_block : (ds : List Bits) → AreKeyBits ds → (x : Bits) (j : ℕ) → j < length ds → j < block_of ds x → is_below (get_or ds j []) x ≡ true
below_block [] keys x j inside less = absurd (omega arith)
below_block (d ∷ ds) keys x zero inside less =
    let all = count_cons (λ g. is_below g x) d ds in
    elim (cases_Bool (is_below d x)) [
      | inl own ↦ own
      | inr not ↦ let first = ap one_if not in let rest = none_after d ds keys x not in absurd (omega arith)
    ]
below_block (d ∷ ds) keys x (suc j) inside less =
    let all = count_cons (λ g. is_below g x) d ds in
    elim (cases_Bool (is_below d x)) [
      | inl own ↦ let first = ap one_if own in below_block ds (keys_rest d ds keys) x j (omega arith) (omega arith)
      | inr not ↦ let first = ap one_if not in let rest = none_after d ds keys x not in absurd (omega arith)
    ]

pub from_block : (ds : List Bits) → AreKeyBits ds → (x : Bits) (j : ℕ) → j < length ds → block_of ds x ≤ j → is_below (get_or ds j []) x ≡ false
from_block [] keys x j inside more = absurd (omega arith)
from_block (d ∷ ds) keys x zero inside more =
    let all = count_cons (λ g. is_below g x) d ds in
    false_from_ne_true (is_below d x) (λ b. let first = ap one_if b in absurd (omega arith))
from_block (d ∷ ds) keys x (suc j) inside more =
    let all = count_cons (λ g. is_below g x) d ds in
    elim (cases_Bool (is_below d x)) [
      | inl own ↦ let first = ap one_if own in from_block ds (keys_rest d ds keys) x j (omega arith) (omega arith)
      | inr not ↦
          false_from_ne_true (is_below (get_or ds j []) x) (λ b.
          let less = below_trans d (get_or ds j []) x (keys_first d ds keys (get_or ds j []) (in_at ds j (omega arith))) b in
          cc)
    ]

pub block_within : (ds : List Bits) (x : Bits) → block_of ds x ≤ length ds
block_within [] x = omega arith
block_within (d ∷ ds) x =
    let all = count_cons (λ g. is_below g x) d ds in
    let rest = block_within ds x in
    elim (cases_Bool (is_below d x)) [
      | inl own ↦ let first = ap one_if own in omega arith
      | inr not ↦ let first = ap one_if not in omega arith
    ]

-- ---- the delimiters beside the string

module _ (ds : List Bits) (keys : AreKeyBits ds) (x : Bits) where
  -- no delimiter is below an earlier one
  not_below : (i j : ℕ) → i ≤ j → j < length ds → is_below (get_or ds j []) (get_or ds i []) ≡ false
  not_below i j le inside =
      elim (cases_eq i j) [
        | inl same ↦ ap (λ n. is_below (get_or ds j []) (get_or ds n [])) same ∙ below_irrefl (get_or ds j [])
        | inr differ ↦ below_asym (get_or ds i []) (get_or ds j []) (key_pair ds i j keys (omega arith) inside).0
      ]

  -- what an earlier delimiter shares with the string, the one just below shares
  below_shares : (j b : ℕ) (h : Bits) → b ≡ block_of ds x → j < b → b ≤ length ds → begins_with (get_or ds j []) h ≡ true → begins_with x h ≡ true → begins_with (get_or ds (b - 1) []) h ≡ true
  below_shares j b h is less within first last =
      let own = below_block ds keys x (b - 1) (omega arith) (omega arith) in
      begins_between (get_or ds j []) (get_or ds (b - 1) []) x h (not_below j (b - 1) (omega arith) (omega arith)) (below_asym (get_or ds (b - 1) []) x own) first last

  -- what a later delimiter shares with the string, the first that isn't below shares
  above_shares : (j b : ℕ) (h : Bits) → b ≡ block_of ds x → b ≤ j → j < length ds → begins_with (get_or ds j []) h ≡ true → begins_with x h ≡ true → begins_with (get_or ds b []) h ≡ true
  above_shares j b h is le inside last first =
      begins_between x (get_or ds b []) (get_or ds j []) h (from_block ds keys x b (omega arith) (omega arith)) (not_below b j le inside) first last

  -- of two delimiters the one with more bits in common has each prefix that the other shares
  shares_more : (d g h : Bits) → length (common_prefix x g) ≤ length (common_prefix x d) → begins_with g h ≡ true → begins_with x h ≡ true → begins_with d h ≡ true
  shares_more d g h most g_h x_h =
      let size = begins_length (common_prefix x g) h (common_longest x g h x_h g_h) in
      let inside = begins_shorter x h (common_prefix x d) x_h (common_begins_left x d) (omega arith) in
      begins_trans d (common_prefix x d) h (common_begins_right x d) inside

  beside : (b : ℕ) → b ≡ block_of ds x → (h g : Bits) → IsIn ds g → begins_with g h ≡ true → begins_with x h ≡ true
      → ((0 < b) × (begins_with (get_or ds (b - 1) []) h ≡ true)) ⊎ ((b < length ds) × (begins_with (get_or ds b []) h ≡ true))
  beside b is h g there g_h x_h =
      let at = at_in ds g there in
      let j = at.0 in
      let inside = at.1 in
      let begins : begins_with (get_or ds j []) h ≡ true = subst (λ (q : Bits). begins_with q h ≡ true) (sym at.2) g_h in
      let within = block_within ds x in
      elim (cases_lt j b) [
        | inl less ↦ inl (omega arith, below_shares j b h is less (omega arith) begins x_h)
        | inr more ↦ inr (omega arith, above_shares j b h is more inside begins x_h)
      ]

  pub nearest_above : (b : ℕ) → b ≡ block_of ds x → (0 < b → length (common_prefix x (get_or ds (b - 1) [])) ≤ length (common_prefix x (get_or ds b []))) → IsNearest ds x (get_or ds b [])
  nearest_above b is most h g there g_h x_h =
      elim (beside b is h g there g_h x_h) [
        | inl low ↦ shares_more (get_or ds b []) (get_or ds (b - 1) []) h (most low.0) low.1 x_h
        | inr high ↦ high.1
      ]

  pub nearest_below : (b : ℕ) → b ≡ block_of ds x → (b < length ds → length (common_prefix x (get_or ds b [])) ≤ length (common_prefix x (get_or ds (b - 1) []))) → IsNearest ds x (get_or ds (b - 1) [])
  nearest_below b is most h g there g_h x_h =
      elim (beside b is h g there g_h x_h) [
        | inl low ↦ low.1
        | inr high ↦ shares_more (get_or ds (b - 1) []) (get_or ds b []) h (most high.0) high.1 x_h
      ]

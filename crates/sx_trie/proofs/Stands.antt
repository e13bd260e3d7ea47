-- Where a walk stands: the node, its children, and how the delimiters under it part.
use Rattle.std.proofs.Common.{◌≡◌, ℕ, ◌+◌, ◌-◌, ◌<◌, ◌≤◌, Bool, true, false, List, [], ◌∷◌, ◌++◌, length, get_or, take, refl, sym, ap, subst, ◌∙◌, arith, inl, inr}
use Rattle.std.specs.Prelude.{count_by, if◌then◌else◌, slice_index}
use Rattle.std.proofs.lemmas.Bool.{cases_lt}
use Rattle.std.proofs.lemmas.List.{get_or-map}
use Rattle.sx_spec_strings.specs.Bits.{Bits, AreKeyBits, bit_at, begins_with, common_prefix, is_below}
use Rattle.sx_spec_strings.proofs.BitLaws.{begins_whole}
use Rattle.sx_spec_kinds.specs.Trie.{Node, no_node, node_at, nodes_of, extents_of, node_of, name_len}
use Rattle.sx_spec_kinds.specs.Hollow.{Stand, Walk, goes, lost, child, descend, left_counts, skips}
use Rattle.sx_spec_kinds.proofs.NameLaws.{in_at}
use Rattle.sx_spec_kinds.proofs.CountLaws.{length-under, count_some}
use Rattle.sx_spec_kinds.proofs.ChildLaws.{parts, delimiter_differs, left_start, right_start, both_children}
use Rattle.sx_spec_kinds.proofs.HollowLaws.{IsFirst, StandsAt, first_here, name_is, left_lem, skip_to, keys_below_name, keys_under_name, descended}
use Rattle.sx_trie.specs.Ranges.{IsSplittable}
use Rattle.sx_trie.proofs.Delimiters.{in_range, parted_prefix, bit_behind}

-- ---- a step down

unlost : (b : Bool) (w : Walk) (n : Stand) → (if b then lost else w) ≡ goes n → w ≡ goes n
unlost true w n e = absurd cc
unlost false w n e = e

-- the stand at a child, where the left one has `left` leaves and p is the place of the bit
abbrev pub at_child : Stand → ℕ → ℕ → Bool → Stand
at_child s left p false = record { node = s.node + 1; leaves = left; first = s.first; pos = p + 1 }
at_child s left p true = record { node = s.node + left; leaves = s.leaves - left; first = s.first + left; pos = p + 1 }

child_is : (s : Stand) (left p : ℕ) (b : Bool) (n : Stand) → child s left p b ≡ goes n → n ≡ at_child s left p b
child_is s left p false n e = cc
child_is s left p true n e = cc

-- the extent at a stand, and the leaves under its left child
abbrev pub extent_at : List Bits → Stand → Bits
extent_at ds s = get_or (extents_of ds) s.node []

abbrev pub left_at : List Bits → Stand → ℕ
left_at ds s = count_by (λ d. begins_with d (extent_at ds s ++ false ∷ [])) ds

module _ (ds : List Bits) (keys : AreKeyBits ds) (k : Bits) (s : Stand) (h : StandsAt ds keys k s) where
  pub node_inside : 1 < s.leaves → s.node < length (extents_of ds)
  node_inside more = let f = first_here ds keys k s h more in let a = f.inside in let b = h.node in omega arith

  pub on_child : 1 < s.leaves → begins_with k (extent_at ds s) ≡ true → length (extent_at ds s) < length k
      → StandsAt ds keys k (at_child s (left_at ds s) (length (extent_at ds s)) (bit_at k (length (extent_at ds s))))
  unfolding descend
  on_child more begins longer =
      let d = descended ds keys k s h more begins longer in
      let at = skip_to ds keys k s h more in
      let left = left_lem ds keys k s.node (node_inside more) in
      let l = slice_index (left_counts ds) s.node in
      let p = s.pos + slice_index (skips ds) s.node in
      let is = child_is s l p (bit_at k p) d.next (unlost _ _ d.next d.goes_on) in
      subst (StandsAt ds keys k)
      (is ∙ ap (λ n. at_child s n p (bit_at k p)) left ∙ ap (λ q. at_child s (left_at ds s) q (bit_at k q)) at)
      d.stands

  -- the same stand, for another string with the same name
  pub stands_other : (k' : Bits) → s.pos ≤ length k' → take s.pos k ≡ take s.pos k' → take (s.pos - 1) k ≡ take (s.pos - 1) k' → StandsAt ds keys k' s
  stands_other k' inside same shorter = record {
    inside = inside;
    node = rw (sym same) h.node;
    leaves = rw (sym same) h.leaves;
    first = rw (sym same) h.first;
    parent = rw (sym shorter) h.parent;
    some = h.some;
  }

  module _ (more : 1 < s.leaves) where
    first_is : IsFirst (extents_of ds) (take s.pos k) (extent_at ds s)
    first_is = first_here ds keys k s h more

    many : 1 < count_by (λ d. begins_with d (take s.pos k)) ds
    many = let a = h.leaves in omega arith

    pub below_is : count_by (λ d. is_below d (extent_at ds s)) ds ≡ s.first
    below_is = sym (h.first ∙ keys_below_name ds keys k (take s.pos k) (extent_at ds s) first_is many)

    pub under_is : count_by (λ d. begins_with d (extent_at ds s)) ds ≡ s.leaves
    under_is = sym (h.leaves ∙ keys_under_name ds keys k (take s.pos k) (extent_at ds s) first_is many)

    pub left_some : 0 < left_at ds s
    left_some = let p = parts ds keys (extent_at ds s) first_is.there in count_some (λ d. begins_with d (extent_at ds s ++ false ∷ [])) ds p.left p.left_there p.left_begins

    pub left_less : left_at ds s < s.leaves
    left_less =
        let p = parts ds keys (extent_at ds s) first_is.there in
        let right = count_some (λ d. begins_with d (extent_at ds s ++ true ∷ [])) ds p.right p.right_there p.right_begins in
        let both = both_children ds keys (extent_at ds s) first_is.there in
        let all = under_is in
        omega arith

    pub node_is : node_of ds (extent_at ds s) ≡ record { extent = length (extent_at ds s); first = s.first; middle = s.first + left_at ds s; after = s.first + s.leaves }
    unfolding node_of
    node_is =
        let l = length-under ds (extent_at ds s ++ false ∷ []) in
        let u = length-under ds (extent_at ds s) in
        rw (below_is, l, u, under_is) refl

    pub name_here : name_len (extents_of ds) (extent_at ds s) ≡ s.pos
    name_here = name_is ds keys k s (extent_at ds s) h first_is

    -- ---- the delimiters under the node

    pub under_at : (j : ℕ) → j < length ds → s.first ≤ j → j < s.first + s.leaves → begins_with (get_or ds j []) (extent_at ds s) ≡ true
    under_at j inside low high =
        let a = below_is in
        let b = under_is in
        in_range ds keys (extent_at ds s) j inside (omega arith) (omega arith)

    pub longer_at : (j : ℕ) → j < length ds → s.first ≤ j → j < s.first + s.leaves → length (extent_at ds s) < length (get_or ds j [])
    longer_at j inside low high =
        let b = under_at j inside low high in
        elim (cases_lt (length (extent_at ds s)) (length (get_or ds j []))) [
          | inl longer ↦ longer
          | inr whole ↦
              absurd (delimiter_differs ds keys (extent_at ds s) first_is.there (get_or ds j []) (in_at ds j inside)
              (sym (begins_whole (get_or ds j []) (extent_at ds s) b whole)))
        ]

    pub left_begins : (j : ℕ) → j < length ds → s.first ≤ j → j < s.first + left_at ds s → begins_with (get_or ds j []) (extent_at ds s ++ false ∷ []) ≡ true
    left_begins j inside low high =
        let a = below_is in
        let start = left_start ds keys (extent_at ds s) first_is.there in
        in_range ds keys (extent_at ds s ++ false ∷ []) j inside (omega arith) (omega arith)

    pub right_begins : (j : ℕ) → j < length ds → s.first + left_at ds s ≤ j → j < s.first + s.leaves → begins_with (get_or ds j []) (extent_at ds s ++ true ∷ []) ≡ true
    right_begins j inside low high =
        let a = below_is in
        let b = under_is in
        let start = right_start ds keys (extent_at ds s) first_is.there in
        let both = both_children ds keys (extent_at ds s) first_is.there in
        in_range ds keys (extent_at ds s ++ true ∷ []) j inside (omega arith) (omega arith)

    pub left_bit : (j : ℕ) → j < length ds → s.first ≤ j → j < s.first + left_at ds s → bit_at (get_or ds j []) (length (extent_at ds s)) ≡ false
    left_bit j inside low high = bit_behind (get_or ds j []) (extent_at ds s) false (left_begins j inside low high)

    pub right_bit : (j : ℕ) → j < length ds → s.first + left_at ds s ≤ j → j < s.first + s.leaves → bit_at (get_or ds j []) (length (extent_at ds s)) ≡ true
    right_bit j inside low high = bit_behind (get_or ds j []) (extent_at ds s) true (right_begins j inside low high)

    -- the first and the last of them have just the extent in common
    pub ends_part : s.first + s.leaves ≤ length ds → common_prefix (get_or ds s.first []) (get_or ds (s.first + s.leaves - 1) []) ≡ extent_at ds s
    ends_part inside =
        let some = left_some in
        let less = left_less in
        parted_prefix (get_or ds s.first []) (get_or ds (s.first + s.leaves - 1) []) (extent_at ds s)
        (left_begins s.first (omega arith) (omega arith) (omega arith))
        (right_begins (s.first + s.leaves - 1) (omega arith) (omega arith) (omega arith))

    pub splittable : s.first + s.leaves ≤ length ds → IsSplittable ds s.first (s.first + s.leaves) (length (extent_at ds s))
    splittable inside = record {
      long = λ j low high. longer_at j (omega arith) low high;
      rises = λ i j low le high one.
          elim (cases_lt i (s.first + left_at ds s)) [
            | inl left ↦ let zero' = left_bit i (omega arith) low left in cc
            | inr right ↦ right_bit j (omega arith) (omega arith) high
          ];
    }

    -- where the bits turn from 0 to 1, the right child begins
    pub middle_is : (m : ℕ) → s.first + s.leaves ≤ length ds → s.first ≤ m → m ≤ s.first + s.leaves
        → ((j : ℕ) → s.first ≤ j → j < m → bit_at (get_or ds j []) (length (extent_at ds s)) ≡ false)
        → ((j : ℕ) → m ≤ j → j < s.first + s.leaves → bit_at (get_or ds j []) (length (extent_at ds s)) ≡ true)
        → m ≡ s.first + left_at ds s
    middle_is m inside low high zeros ones =
        let some = left_some in
        let less = left_less in
        elim (cases_lt m (s.first + left_at ds s)) [
          | inl early ↦
              let one = ones m (omega arith) (omega arith) in
              let zero' = left_bit m (omega arith) low early in
              absurd cc
          | inr late ↦
              elim (cases_lt (s.first + left_at ds s) m) [
                | inl over ↦
                    let zero' = zeros (s.first + left_at ds s) (omega arith) over in
                    let one = right_bit (s.first + left_at ds s) (omega arith) (omega arith) (omega arith) in
                    absurd cc
                | inr same ↦ omega arith
              ]
        ]

-- ---- the node that a trie has there

-- the node at a stand, of the list of all nodes
pub node_here : (ds : List Bits) (keys : AreKeyBits ds) (k : Bits) (s : Stand) (h : StandsAt ds keys k s) (more : 1 < s.leaves) (nodes : List Node) → nodes ≡ nodes_of ds
    → node_at nodes s.node ≡ record { extent = length (extent_at ds s); first = s.first; middle = s.first + left_at ds s; after = s.first + s.leaves }
node_here ds keys k s h more nodes all =
    ap (λ ns. node_at ns s.node) all
    ∙ get_or-map (node_of ds) (extents_of ds) s.node [] no_node (node_inside ds keys k s h more)
    ∙ node_is ds keys k s h more

-- what a walk finds in a node
pub record Found (ds : List Bits) (s : Stand) (extent first middle after : ℕ) : Type 0 where
  pub extent_is : extent ≡ length (extent_at ds s)
  pub first_is : first ≡ s.first
  pub middle_is : middle ≡ s.first + left_at ds s
  pub after_is : after ≡ s.first + s.leaves
  pub left_some : 0 < left_at ds s
  pub left_less : left_at ds s < s.leaves

pub found : (ds : List Bits) (keys : AreKeyBits ds) (k : Bits) (s : Stand) (h : StandsAt ds keys k s) (more : 1 < s.leaves) (nodes : List Node) → nodes ≡ nodes_of ds
    → (n : Node) → n ≡ node_at nodes s.node → Found ds s n.extent n.first n.middle n.after
found ds keys k s h more nodes all n is =
    let e = is ∙ node_here ds keys k s h more nodes all in
    record {
      extent_is = ap (λ (m : Node). m.extent) e;
      first_is = ap (λ (m : Node). m.first) e;
      middle_is = ap (λ (m : Node). m.middle) e;
      after_is = ap (λ (m : Node). m.after) e;
      left_some = left_some ds keys k s h more;
      left_less = left_less ds keys k s h more;
    }

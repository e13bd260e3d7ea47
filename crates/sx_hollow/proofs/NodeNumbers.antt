-- The numbers of leaves and of bits that a hollow trie keeps of a node, by the trie.
use Rattle.std.proofs.Common.{◌≡◌, ℕ, ◌+◌, ◌-◌, ◌<◌, ◌≤◌, false, List, [], ◌∷◌, ◌++◌, All, length, get_or, take, subst, refl, sym, ap, ap₂, ◌∙◌, arith}
use Rattle.std.specs.List.{slice_index}
use Rattle.std.specs.Prelude.{slice_index_or}
use Rattle.std.proofs.lemmas.List.{length-map, get_or-map, take_more}
use Rattle.std.proofs.lemmas.List.Elements.{All-from_get_or}
use Rattle.sx_spec_strings.specs.Bits.{Bits, AreKeyBits, begins_with, key_bits}
use Rattle.sx_spec_kinds.specs.Trie.{Node, no_node, node_at, nodes_of, node_of, extents_of, name_len}
use Rattle.sx_spec_kinds.specs.Hollow.{left_counts, skips}
use Rattle.sx_spec_kinds.proofs.NameLaws.{in_at}
use Rattle.sx_spec_kinds.proofs.CountLaws.{count_some}
use Rattle.sx_spec_kinds.proofs.ChildLaws.{parts}
use Rattle.sx_spec_kinds.proofs.TrieLaws.{length-extents_of}
use Rattle.sx_spec_kinds.proofs.HollowLaws.{left_lem, skip_lem, stands_start}
use Rattle.sx_trie.specs.Tries.{Contents, IsTrieOf, delimiter_bits}
use Rattle.sx_trie.proofs.Stands.{name_here}

-- ---- the lists of any keys

length-left_counts : (ds : List Bits) → length (left_counts ds) ≡ length (extents_of ds)
unfolding left_counts
length-left_counts ds = length-map (nodes_of ds) (λ v. v.middle - v.first) ∙ length-map (extents_of ds) (node_of ds)

length-skips : (ds : List Bits) → length (skips ds) ≡ length (extents_of ds)
unfolding skips
length-skips ds = length-map (extents_of ds) (λ e. length e - name_len (extents_of ds) e)

module _ (ds : List Bits) (keys : AreKeyBits ds) where
  left_some : (i : ℕ) → i < length (extents_of ds) → 1 ≤ slice_index (left_counts ds) i
  left_some i inside =
      let e = get_or (extents_of ds) i [] in
      let p = parts ds keys e (in_at (extents_of ds) i inside) in
      let some = count_some (λ d. begins_with d (e ++ false ∷ [])) ds p.left p.left_there p.left_begins in
      let is = left_lem ds keys [] i inside in
      omega arith

  -- no left child is without leaves
  lefts_some : All (λ n. 1 ≤ n) (left_counts ds)
  lefts_some =
      let size = length-left_counts ds in
      All-from_get_or (λ n. 1 ≤ n) (left_counts ds) 0 (λ i within. left_some i (omega arith))

  -- the root has no name
  root_name : 0 < length (extents_of ds) → name_len (extents_of ds) (get_or (extents_of ds) 0 []) ≡ 0
  root_name some =
      let size = length-extents_of ds keys in
      name_here ds keys [] (record { node = 0; leaves = length ds; first = 0; pos = 0 }) (stands_start ds keys [] (omega arith)) (omega arith)

-- ---- a trie of keys

module _ (lines : List (List ℕ)) (t : Contents) (built : IsTrieOf lines t) where
  abbrev ds : List Bits
  ds = delimiter_bits lines t.delimiters

  count_is : length t.nodes ≡ length (extents_of ds)
  count_is = ap length built.nodes ∙ length-map (extents_of ds) (node_of ds)

  -- one node less than delimiters
  nodes_are : length t.nodes ≡ length t.delimiters - 1
  nodes_are =
      let size = length-extents_of ds built.keys in
      let many = length-map t.delimiters (λ i. key_bits (slice_index_or lines i [])) in
      let all = count_is in
      omega arith

  module _ (i : ℕ) (inside : i < length t.nodes) where
    -- the leaves under the left child
    pub left_at_node : (n : Node) → n ≡ node_at t.nodes i → n.middle - n.first ≡ slice_index (left_counts ds) i
    unfolding left_counts
    left_at_node n is =
        let all = ap length built.nodes in
        ap (λ (v : Node). v.middle - v.first) (is ∙ ap (λ ns. node_at ns i) built.nodes)
        ∙ sym (get_or-map (λ v. v.middle - v.first) (nodes_of ds) i no_node 0 (omega arith))

    pub left_ordered : (n : Node) → n ≡ node_at t.nodes i → n.first ≤ n.middle
    left_ordered n is =
        let all = count_is in
        let left = left_at_node n is in
        let some = left_some ds built.keys i (omega arith) in
        omega arith

    extent_is : (node_at t.nodes i).extent ≡ length (get_or (extents_of ds) i [])
    unfolding node_of
    extent_is =
        let all = count_is in
        ap (λ ns. (node_at ns i).extent) built.nodes
        ∙ ap (λ (v : Node). v.extent) (get_or-map (node_of ds) (extents_of ds) i [] no_node (omega arith))

    name_is : slice_index t.names i ≡ name_len (extents_of ds) (get_or (extents_of ds) i [])
    name_is =
        let all = count_is in
        ap (λ ns. slice_index ns i) built.names
        ∙ get_or-map (name_len (extents_of ds)) (extents_of ds) i [] 0 (omega arith)

    -- the bits past a name
    pub skip_at_node : (extent name : ℕ) → extent ≡ (node_at t.nodes i).extent → name ≡ slice_index t.names i → extent - name ≡ slice_index (skips ds) i
    skip_at_node extent name e n =
        let all = count_is in
        ap₂ ◌-◌ (e ∙ extent_is) (n ∙ name_is) ∙ sym (skip_lem ds built.keys [] i (omega arith))

    -- and at the root, which has none
    pub skip_at_root : (extent : ℕ) → i ≡ 0 → extent ≡ (node_at t.nodes i).extent → extent ≡ slice_index (skips ds) i
    skip_at_root extent first e =
        let all = count_is in
        let none : name_len (extents_of ds) (get_or (extents_of ds) i []) ≡ 0 =
        ap (λ j. name_len (extents_of ds) (get_or (extents_of ds) j [])) first ∙ root_name ds built.keys (omega arith)
        in
        let name = name_is in
        let zero' : extent ≡ extent - slice_index t.names i = omega arith in
        zero' ∙ skip_at_node extent (slice_index t.names i) e refl

-- how long the lists are, of keys with these numbers
pub record AreAsLong (lines : List (List ℕ)) (members : List ℕ) (nodes : ℕ) : Type 0 where
  pub left : length (left_counts (delimiter_bits lines members)) ≡ nodes
  pub skip : length (skips (delimiter_bits lines members)) ≡ nodes
  pub fewer : nodes ≡ length members - 1
  pub some : All (λ n. 1 ≤ n) (left_counts (delimiter_bits lines members))

pub as_long : (lines : List (List ℕ)) (t : Contents) (members : List ℕ) (nodes : ℕ) → IsTrieOf lines t → t.delimiters ≡ members → nodes ≡ length t.nodes → AreAsLong lines members nodes
as_long lines t members nodes built kept all =
    let many = count_is lines t built in
    let fewer = nodes_are lines t built in
    let same = ap length kept in
    let own = delimiter_bits lines t.delimiters in
    let left = length-left_counts own in
    let skip = length-skips own in
    let is : AreAsLong lines t.delimiters nodes = record {
      left = omega arith;
      skip = omega arith;
      fewer = omega arith;
      some = lefts_some own built.keys;
    } in
    subst (λ ns. AreAsLong lines ns nodes) kept is

-- ---- a list that grows from the left

pub one_more : (xs : List ℕ) (i : ℕ) (so_far more : List ℕ) (value : ℕ) → i < length xs → so_far ≡ take i xs → value ≡ slice_index xs i → more ≡ so_far ++ value ∷ [] → more ≡ take (i + 1) xs
one_more xs i so_far more value inside same is pushed =
    pushed ∙ ap₂ (λ ys y. ys ++ y ∷ []) same is ∙ sym (take_more xs i 0 inside)

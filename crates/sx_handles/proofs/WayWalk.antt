-- The walk from the root down to a leaf: it has met all extents that are prefixes of the leaf's delimiter and no longer than where it stands.
use Rattle.std.proofs.Common.{◌≡◌, ℕ, zero, suc, ◌+◌, ◌-◌, ◌<◌, ◌≤◌, true, List, [], ◌∷◌, ◌++◌, length, take, get_or, refl, sym, ◌∙◌, ap, subst, arith, inl, inr}
use Rattle.std.specs.Prelude.{slice_index}
use Rattle.std.proofs.lemmas.Bool.{cases_lt}
use Rattle.std.proofs.lemmas.List.{length-take-le, length_push, length-map, get_or-map}
use Rattle.std.proofs.lemmas.List.Sums.{count_by-le-length}
use Rattle.sx_spec_strings.specs.Bits.{Bits, AreKeyBits, bit_at, begins_with, common_prefix, is_below}
use Rattle.sx_spec_strings.specs.Ordered.{IsIn, IsRising}
use Rattle.sx_spec_strings.proofs.BitLaws.{begins_length, begins_shorter, begins_whole, begins_not_below, below_irrefl, below_total, common_begins_left, common_begins_right, common_longest}
use Rattle.sx_spec_strings.proofs.OrderedLaws.{rising_first, rising_rest}
use Rattle.sx_spec_kinds.specs.Fattest.{fattest}
use Rattle.sx_spec_kinds.specs.Hollow.{Stand}
use Rattle.sx_spec_kinds.specs.Search.{handle_of}
use Rattle.sx_spec_kinds.specs.Trie.{Node, no_node, node_at, node_of, extents_of, name_len}
use Rattle.sx_spec_kinds.proofs.NameLaws.{begins_take, in_at, handle_fattest, handle_begins, length-handle_of}
use Rattle.sx_spec_kinds.proofs.TrieLaws.{extents_rising, extents_trie}
use Rattle.sx_spec_kinds.proofs.CountLaws.{count_some}
use Rattle.sx_spec_kinds.proofs.HollowLaws.{IsFirst, StandsAt, first_here, extents_under, stands_start}
use Rattle.sx_trie.specs.Tries.{Contents, IsTrieOf, delimiter_bits, node_of as trie_node}
use Rattle.sx_trie.specs.declared.nodes.Node.{Node as TrieNode}
use Rattle.sx_trie.proofs.Stands.{left_at, at_child, on_child, under_at, longer_at, left_bit, right_bit, node_inside, name_here, Found, found}
use Rattle.sx_handles.specs.Ways.{way_at, IsWay, IsWayTo}
use Rattle.sx_handles.specs.declared.ways.way_node.WayNode.{WayNode}
use Rattle.sx_handles.proofs.Handled.{has_parent}
use Rattle.sx_handles.proofs.Grown.{at_old, at_last, each_grown, way_grown}

-- a string stands once in a rising list
once_at : (es : List Bits) → IsRising is_below es → (i j : ℕ) → i < length es → j < length es → get_or es i [] ≡ get_or es j [] → i ≡ j
once_at [] rising i j i_in j_in same = absurd (omega arith)
once_at (e ∷ es) rising zero zero i_in j_in same = refl
once_at (e ∷ es) rising zero (suc j) i_in j_in same =
    let less = rising_first e es rising (get_or es j []) (in_at es j (omega arith)) in
    let again : is_below e e ≡ true = subst (λ (q : Bits). is_below e q ≡ true) (sym same) less in
    let none = below_irrefl e in
    absurd cc
once_at (e ∷ es) rising (suc i) zero i_in j_in same =
    let less = rising_first e es rising (get_or es i []) (in_at es i (omega arith)) in
    let again : is_below e e ≡ true = subst (λ (q : Bits). is_below e q ≡ true) same less in
    let none = below_irrefl e in
    absurd cc
once_at (e ∷ es) rising (suc i) (suc j) i_in j_in same = ap suc (once_at es (rising_rest e es rising) i j (omega arith) (omega arith) same)

-- where a walk to a leaf stands, and the nodes that it has met
pub record Descends (ds : List Bits) (keys : AreKeyBits ds) (leaf at : ℕ) (nodes : List WayNode) : Type 0 where
  pub leaves : ℕ
  pub start : ℕ
  pub pos : ℕ
  pub stands : StandsAt ds keys (get_or ds leaf []) (record { node = at; leaves = leaves; first = start; pos = pos })
  pub more : 1 < leaves
  pub low : start ≤ leaf
  pub high : leaf < start + leaves
  pub within : start + leaves ≤ length ds
  pub way : IsWay (extents_of ds) nodes
  pub short : (way_at nodes (length nodes - 1)).handle ≤ length (get_or (extents_of ds) at [])
  pub begins : (i : ℕ) → i < length nodes → begins_with (get_or ds leaf []) (get_or (extents_of ds) (way_at nodes i).node []) ≡ true
  pub whole : (v : ℕ) → v < length (extents_of ds) → begins_with (get_or ds leaf []) (get_or (extents_of ds) v []) ≡ true
      → length (get_or (extents_of ds) v []) ≤ length (get_or (extents_of ds) at []) → (i : ℕ) × (i < length nodes) × ((way_at nodes i).node ≡ v)

-- a step from there, to a child
pub record StepsTo (ds : List Bits) (keys : AreKeyBits ds) (leaf at next leaves : ℕ) : Type 0 where
  pub start : ℕ
  pub stands : StandsAt ds keys (get_or ds leaf []) (record { node = next; leaves = leaves; first = start; pos = length (get_or (extents_of ds) at []) + 1 })
  pub low : start ≤ leaf
  pub high : leaf < start + leaves
  pub within : start + leaves ≤ length ds
  pub farther : at < next

module _ (ds : List Bits) (keys : AreKeyBits ds) (leaf : ℕ) where
  abbrev es : List Bits
  es = extents_of ds

  abbrev d : Bits
  d = get_or ds leaf []

  abbrev extent : ℕ → Bits
  extent v = get_or es v []

  -- what begins with the name at a node begins with the node's extent
  under_first : (p e g : Bits) → IsFirst es p e → IsIn es g → begins_with g p ≡ true → begins_with g e ≡ true
  under_first p e g f there begins =
      let common = (extents_trie ds keys).closed g e there f.there in
      let longest = common_longest g e p begins f.begins in
      let not_less = f.least (common_prefix g e) common longest in
      let not_more = begins_not_below e (common_prefix g e) (common_begins_right g e) in
      let same = below_total (common_prefix g e) e not_less not_more in
      subst (λ (q : Bits). begins_with g q ≡ true) same (common_begins_left g e)

  -- of the extents that begin with a name the one that is no longer than the first is the first
  first_alone : (p : Bits) (next v : ℕ) → IsFirst es p (extent next) → next < length es → v < length es → begins_with (extent v) p ≡ true → length (extent v) ≤ length (extent next) → next ≡ v
  first_alone p next v f next_in v_in begins size =
      let under = under_first p (extent next) (extent v) f (in_at es v v_in) begins in
      once_at es (extents_rising ds) next v next_in v_in (begins_whole (extent v) (extent next) under size)

  -- ---- the start

  pub way_starts : leaf < length ds → 1 < length ds → Descends ds keys leaf 0 (record { node = 0; handle = 0 } ∷ [])
  way_starts inside some =
      let s : Stand = record { node = 0; leaves = length ds; first = 0; pos = 0 } in
      let h = stands_start ds keys d (omega arith) in
      let root_in = node_inside ds keys d s h some in
      let f = first_here ds keys d s h some in
      record {
        leaves = length ds;
        start = 0;
        pos = 0;
        stands = h;
        more = some;
        low = omega arith;
        high = omega arith;
        within = omega arith;
        way = record {
          some = omega arith;
          root = refl;
          inner = λ i more less. absurd (omega arith);
          inside = λ i less. let first : i ≡ 0 = omega arith in subst (λ n. (way_at (record { node = 0; handle = 0 } ∷ []) n).node < length es) (sym first) root_in;
          handles = λ i more less. absurd (omega arith);
          rising = λ i less. absurd (omega arith);
        };
        short = omega arith;
        begins = λ i less.
            let first : i ≡ 0 = omega arith in
            subst (λ n. begins_with d (extent (way_at (record { node = 0; handle = 0 } ∷ []) n).node) ≡ true) (sym first)
            (under_at ds keys d s h some leaf inside (omega arith) (omega arith));
        whole = λ v less begins size. (0, omega arith, first_alone (take 0 d) 0 v f root_in less refl size);
      }

  -- ---- a step

  module _ (at : ℕ) (nodes : List WayNode) (h : Descends ds keys leaf at nodes) where
    abbrev stand : Stand
    stand = record { node = at; leaves = h.leaves; first = h.start; pos = h.pos }

    pub at_inside : at < length es
    at_inside = node_inside ds keys d stand h.stands h.more

    leaf_inside : leaf < length ds
    leaf_inside = let a = h.high in let b = h.within in omega arith

    own_begins : begins_with d (extent at) ≡ true
    own_begins = under_at ds keys d stand h.stands h.more leaf leaf_inside h.low h.high

    own_longer : length (extent at) < length d
    own_longer = longer_at ds keys d stand h.stands h.more leaf leaf_inside h.low h.high

    child_at : StandsAt ds keys d (at_child stand (left_at ds stand) (length (extent at)) (bit_at d (length (extent at))))
    child_at = on_child ds keys d stand h.stands h.more own_begins own_longer

    pub step_left : (size first middle after : ℕ) → Found ds stand size first middle after → leaf < middle → StepsTo ds keys leaf at (at + 1) (middle - first)
    step_left size first middle after n less =
        let a = n.first_is in
        let b = n.middle_is in
        let some = n.left_some in
        let fewer = n.left_less in
        let within = h.within in
        let low = h.low in
        let is : left_at ds stand ≡ middle - first = omega arith in
        let bit = left_bit ds keys d stand h.stands h.more leaf leaf_inside low (omega arith) in
        record {
          start = h.start;
          stands = subst (λ m. StandsAt ds keys d (record { node = at + 1; leaves = m; first = h.start; pos = length (extent at) + 1 })) is
              (subst (λ t. StandsAt ds keys d (at_child stand (left_at ds stand) (length (extent at)) t)) bit child_at);
          low = low;
          high = omega arith;
          within = omega arith;
          farther = omega arith;
        }

    pub step_right : (size first middle after : ℕ) → Found ds stand size first middle after → middle ≤ leaf → StepsTo ds keys leaf at (at + (middle - first)) (after - middle)
    step_right size first middle after n more =
        let a = n.first_is in
        let b = n.middle_is in
        let e = n.after_is in
        let some = n.left_some in
        let fewer = n.left_less in
        let within = h.within in
        let high = h.high in
        let is : left_at ds stand ≡ middle - first = omega arith in
        let rest : h.leaves - left_at ds stand ≡ after - middle = omega arith in
        let bit = right_bit ds keys d stand h.stands h.more leaf leaf_inside (omega arith) high in
        record {
          start = h.start + left_at ds stand;
          stands = subst (λ m. StandsAt ds keys d (record { node = at + m; leaves = after - middle; first = h.start + left_at ds stand; pos = length (extent at) + 1 })) is
              (subst (λ m. StandsAt ds keys d (record { node = at + left_at ds stand; leaves = m; first = h.start + left_at ds stand; pos = length (extent at) + 1 })) rest
              (subst (λ t. StandsAt ds keys d (at_child stand (left_at ds stand) (length (extent at)) t)) bit child_at));
          low = omega arith;
          high = omega arith;
          within = omega arith;
          farther = omega arith;
        }

    -- the child under which the leaf stands
    pub step_down : (size first middle after next leaves : ℕ) → Found ds stand size first middle after
        → (leaf < middle → (next ≡ at + 1) × (leaves ≡ middle - first)) → (middle ≤ leaf → (next ≡ at + (middle - first)) × (leaves ≡ after - middle)) → StepsTo ds keys leaf at next leaves
    step_down size first middle after next leaves n left right =
        elim (cases_lt leaf middle) [
          | inl less ↦
              let is = left less in
              subst (λ m. StepsTo ds keys leaf at m leaves) (sym is.0) (subst (StepsTo ds keys leaf at (at + 1)) (sym is.1) (step_left size first middle after n less))
          | inr more ↦
              let is = right more in
              subst (λ m. StepsTo ds keys leaf at m leaves) (sym is.0) (subst (StepsTo ds keys leaf at (at + (middle - first))) (sym is.1) (step_right size first middle after n more))
        ]

    module _ (next leaves : ℕ) (t : StepsTo ds keys leaf at next leaves) where
      abbrev name : Bits
      name = take (length (extent at) + 1) d

      length_name : length name ≡ length (extent at) + 1
      length_name = length-take-le (length (extent at) + 1) d t.stands.inside

      -- a longer extent on the way begins with the child's name
      begins_name : (v : ℕ) → begins_with d (extent v) ≡ true → length (extent at) < length (extent v) → begins_with (extent v) name ≡ true
      begins_name v begins longer =
          let size = length_name in
          begins_shorter d name (extent v) (begins_take (length (extent at) + 1) d) begins (omega arith)

      pub step_within : next ≤ length es
      step_within =
          let few = count_by-le-length (λ (f : Bits). is_below f name) es in
          let own = t.stands.node in
          omega arith

      -- at the leaf there is no longer one
      pub way_ends : leaves ≡ 1 → IsWayTo ds leaf nodes
      way_ends one = record {
        way = h.way;
        begins = h.begins;
        whole = λ v less begins.
            elim (cases_lt (length (extent at)) (length (extent v))) [
              | inl longer ↦
                  let some = count_some (λ g. begins_with g name) es (extent v) (in_at es v less) (begins_name v begins longer) in
                  let none = extents_under ds name keys in
                  let own = t.stands.leaves in
                  absurd (omega arith)
              | inr short ↦ h.whole v less begins short
            ];
      }

      module _ (more : 1 < leaves) where
        abbrev stand_next : Stand
        stand_next = record { node = next; leaves = leaves; first = t.start; pos = length (extent at) + 1 }

        pub next_inside : next < length es
        next_inside = node_inside ds keys d stand_next t.stands more

        next_first : IsFirst es name (extent next)
        next_first = first_here ds keys d stand_next t.stands more

        pub way_goes_on : (handle : ℕ) → handle ≡ fattest (name_len es (extent next) - 1) (length (extent next)) → Descends ds keys leaf next (nodes ++ record { node = next; handle = handle } ∷ [])
        way_goes_on handle is =
            let n : WayNode = record { node = next; handle = handle } in
            let inside = next_inside in
            let f = next_first in
            let farther = t.farther in
            let parent = has_parent ds keys next (omega arith) inside in
            let size = length-handle_of es (extent next) parent in
            let fat = (handle_fattest es (extent next) parent).above in
            let named = name_here ds keys d stand_next t.stands more in
            let short = h.short in
            let long = begins_length (extent next) (handle_of es (extent next)) (handle_begins es (extent next)) in
            let named_long = begins_length (extent next) name f.begins in
            let named_size = length_name in
            let pushed = length_push nodes n in
            let last : (way_at (nodes ++ n ∷ []) (length (nodes ++ n ∷ []) - 1)).handle ≡ handle = ap (λ (w : WayNode). w.handle) (at_last nodes n (length (nodes ++ n ∷ []) - 1) (omega arith)) in
            let own : begins_with d (extent next) ≡ true = under_at ds keys d stand_next t.stands more leaf leaf_inside t.low t.high in
            record {
              leaves = leaves;
              start = t.start;
              pos = length (extent at) + 1;
              stands = t.stands;
              more = more;
              low = t.low;
              high = t.high;
              within = t.within;
              way = way_grown nodes n es h.way (omega arith) inside (omega arith) (omega arith);
              short = omega arith;
              begins = λ i less. each_grown nodes n (λ w. begins_with d (extent w.node) ≡ true) i less (λ early. h.begins i early) (λ e. own);
              whole = λ v less begins within.
                  elim (cases_lt (length (extent at)) (length (extent v))) [
                    | inl longer ↦
                        let there = ap (λ (w : WayNode). w.node) (at_last nodes n (length nodes) refl) in
                        (length nodes, omega arith, there ∙ first_alone name next v f inside less (begins_name v begins longer) within)
                    | inr met ↦
                        let found = h.whole v less begins met in
                        let found_in = found.1 in
                        (found.0, omega arith, ap (λ (w : WayNode). w.node) (at_old nodes n found.0 found.1) ∙ found.2)
                  ];
            }

-- ---- what a trie says of a node

module _ (lines : List (List ℕ)) (t : Contents) (built : IsTrieOf lines t) where
  abbrev own : List Bits
  own = delimiter_bits lines t.delimiters

  pub nodes_are : length t.nodes ≡ length (extents_of own)
  nodes_are = ap length built.nodes ∙ length-map (extents_of own) (node_of own)

  pub name_is : (i : ℕ) → i < length t.nodes → slice_index t.names i ≡ name_len (extents_of own) (get_or (extents_of own) i [])
  name_is i inside =
      let all = nodes_are in
      ap (λ ns. slice_index ns i) built.names
      ∙ get_or-map (name_len (extents_of own)) (extents_of own) i [] 0 (omega arith)

  -- the node at which a walk stands, and the child to which it steps
  module _ (leaf at : ℕ) (nodes : List WayNode) (h : Descends own built.keys leaf at nodes) (n : TrieNode) (is : trie_node n ≡ node_at t.nodes at) where
    pub node_found : Found own (stand own built.keys leaf at nodes h) n.extent n.first n.middle n.after
    node_found = found own built.keys (get_or own leaf []) (stand own built.keys leaf at nodes h) h.stands h.more t.nodes built.nodes (trie_node n) is

    pub child_found : (next leaves : ℕ) → (leaf < n.middle → (next ≡ at + 1) × (leaves ≡ n.middle - n.first)) → (n.middle ≤ leaf → (next ≡ at + (n.middle - n.first)) × (leaves ≡ n.after - n.middle))
        → StepsTo own built.keys leaf at next leaves
    child_found next leaves left right = step_down own built.keys leaf at nodes h n.extent n.first n.middle n.after next leaves node_found left right

    -- the number of the right child is no larger than that of the nodes
    pub right_within : n.middle ≤ leaf → at + (n.middle - n.first) ≤ length t.nodes
    right_within more =
        let all = nodes_are in
        let step = step_right own built.keys leaf at nodes h n.extent n.first n.middle n.after node_found more in
        let few = step_within own built.keys leaf at nodes h (at + (n.middle - n.first)) (n.after - n.middle) step in
        omega arith

  extent_of : (e : Bits) → (node_of own e).extent ≡ length e
  unfolding node_of
  extent_of e = refl

  pub size_is : (i : ℕ) → i < length t.nodes → (node_at t.nodes i).extent ≡ length (get_or (extents_of own) i [])
  size_is i inside =
      let all = nodes_are in
      ap (λ ns. (node_at ns i).extent) built.nodes
      ∙ ap (λ (n : Node). n.extent) (get_or-map (node_of own) (extents_of own) i [] no_node (omega arith))
      ∙ extent_of (get_or (extents_of own) i [])

  pub handle_is : (i : ℕ) → i < length t.nodes → fattest (slice_index t.names i - 1) (node_at t.nodes i).extent ≡ fattest (name_len (extents_of own) (get_or (extents_of own) i []) - 1) (length (get_or (extents_of own) i []))
  handle_is i inside =
      ap (λ n. fattest (n - 1) (node_at t.nodes i).extent) (name_is i inside)
      ∙ ap (λ n. fattest (name_len (extents_of own) (get_or (extents_of own) i []) - 1) n) (size_is i inside)

-- The code of a key from its block and the node at which its true search ends.
use Rattle.std.proofs.Common.{◌≡◌, ◌⊎◌, ℕ, ◌<◌, ◌≤◌, Bool, true, false, not, List, [], ◌∷◌, ◌++◌, length, get_or, map, Some, refl, sym, ap, subst, ◌∙◌, arith, inl, inr}
use Rattle.std.specs.Prelude.{nat_le, slice_index, count_by}
use Rattle.std.specs.List.{list_all}
use Rattle.std.proofs.lemmas.Bool.{cases_Bool, cases_lt, le-leb, lt-leb}
use Rattle.std.proofs.lemmas.List.{length-map, get_or-map}
use Rattle.sx_spec_strings.specs.Bits.{Bits, AreKeyBits, begins_with, bit_at, is_below, key_bits}
use Rattle.sx_spec_strings.specs.Ordered.{IsIn}
use Rattle.sx_spec_strings.proofs.BitLaws.{begins_whole}
use Rattle.sx_spec_kinds.specs.Blocks.{block_of}
use Rattle.sx_spec_kinds.specs.Trie.{Node, node_at, node_of, extents_of, under}
use Rattle.sx_spec_kinds.specs.Search.{true_search_of}
use Rattle.sx_spec_kinds.specs.Zfast.{block_from, child_first, child_after, code_at, code_of}
use Rattle.sx_spec_kinds.proofs.NameLaws.{at_in, in_at}
use Rattle.sx_spec_kinds.proofs.TrieLaws.{extents_trie, keys_prefix, length-extents_of}
use Rattle.sx_spec_kinds.proofs.CountLaws.{count_some, length-under}
use Rattle.sx_spec_kinds.proofs.ChildLaws.{parts, left_under, delimiter_differs, start_of_child, end_of_child}
use Rattle.sx_spec_kinds.proofs.ExactBlock.{EndsAt, ends_at, ends_inside, block_from_code}
use Rattle.sx_bits.specs.KeyLists.{Keys, IsKeyList}
use Rattle.sx_bits.proofs.KeyListBits.{key_list_bits}
use Rattle.sx_trie.specs.Tries.{Contents, IsTrieOf, delimiter_bits}
use Rattle.sx_handles.specs.declared.ways.way_node.WayNode.{WayNode}
use Rattle.sx_handles.specs.Ways.{IsWayOf, extent_at, key_at, way_at}
use Rattle.sx_handles.proofs.OnWay.{end_on_way}
use Rattle.sx_handles.proofs.NodeHandles.{as_many, extent_first, node_is, nodes_are}
use Rattle.sx_handles.proofs.KeyCodes.{key_is}

-- ---- the four codes

code_is_at : (ds : List Bits) (x : Bits) → 1 < length ds → code_of ds x ≡ code_at ds (extent_at (extents_of ds) (true_search_of (extents_of ds) x).node) x
unfolding code_of
code_is_at [] x some = absurd (omega arith)
code_is_at (d ∷ []) x some = absurd (omega arith)
code_is_at (d ∷ g ∷ ds) x some = refl

from_zero : (v : Node) (x : Bits) → block_from v 0 x ≡ Some v.first
unfolding block_from
from_zero v x = refl

from_one : (v : Node) (x : Bits) → block_from v 1 x ≡ Some v.after
unfolding block_from
from_one v x = refl

from_two : (v : Node) (x : Bits) → v.extent < length x → block_from v 2 x ≡ Some (child_first v (bit_at x v.extent))
unfolding block_from
from_two v x less = rw (lt-leb (length x) v.extent less) refl

from_three : (v : Node) (x : Bits) → v.extent < length x → block_from v 3 x ≡ Some (child_after v (bit_at x v.extent))
unfolding block_from
from_three v x less = rw (lt-leb (length x) v.extent less) refl

code_outside : (ds : List Bits) (e x : Bits) → begins_with x e ≡ false → (code_at ds e x ≡ 0) ⊎ (code_at ds e x ≡ 1)
unfolding code_at
code_outside ds e x out =
    elim (cases_Bool (is_below x e)) [
      | inl less ↦ inl (rw (out, less) refl)
      | inr more ↦ inr (rw (out, more) refl)
    ]

code_inside : (ds : List Bits) (e x : Bits) → begins_with x e ≡ true → (code_at ds e x ≡ 2) ⊎ (code_at ds e x ≡ 3)
unfolding code_at
code_inside ds e x begins =
    elim (cases_Bool (list_all (λ d. not (is_below d x)) (under ds (e ++ bit_at x (length e) ∷ [])))) [
      | inl all ↦ inl (rw (begins, all) refl)
      | inr some ↦ inr (rw (begins, some) refl)
    ]

some_same : (a b : ℕ) → Some a ≡ Some b → a ≡ b
some_same a b h = cc

-- ---- which of them it is, by the block

module _ (ds : List Bits) (keys : AreKeyBits ds) (x e : Bits) (ends : EndsAt (extents_of ds) x e) (own : (d : Bits) → IsIn ds d → begins_with d x ≡ true → d ≡ x) where
  leaves_some : (node_of ds e).first < (node_of ds e).after
  unfolding node_of
  leaves_some =
      let size = length-under ds e in
      let there = count_some (λ d. begins_with d e) ds (parts ds keys e ends.there).left (parts ds keys e ends.there).left_there (left_under ds keys e ends.there) in
      omega arith

  child_some : (b : Bool) → 0 < count_by (λ d. begins_with d (e ++ b ∷ [])) ds
  child_some false =
      count_some (λ d. begins_with d (e ++ false ∷ [])) ds (parts ds keys e ends.there).left (parts ds keys e ends.there).left_there (parts ds keys e ends.there).left_begins
  child_some true =
      count_some (λ d. begins_with d (e ++ true ∷ [])) ds (parts ds keys e ends.there).right (parts ds keys e ends.there).right_there (parts ds keys e ends.there).right_begins

  child_leaves_some : (b : Bool) → child_first (node_of ds e) b < child_after (node_of ds e) b
  child_leaves_some b =
      let first = start_of_child ds keys e ends.there b in
      let last = end_of_child ds keys e ends.there b in
      let some = child_some b in
      omega arith

  longer : begins_with x e ≡ true → length e < length x
  longer h =
      elim (cases_lt (length e) (length x)) [
        | inl less ↦ less
        | inr whole ↦
            let same = begins_whole x e h whole in
            let p = parts ds keys e ends.there in
            let begins : begins_with p.left x ≡ true = subst (λ (z : Bits). begins_with p.left z ≡ true) same (left_under ds keys e ends.there) in
            let left_x = own p.left p.left_there begins in
            absurd (delimiter_differs ds keys e ends.there p.left p.left_there (left_x ∙ sym same))
      ]

  given : (c : ℕ) → code_at ds e x ≡ c → block_from (node_of ds e) c x ≡ Some (block_of ds x)
  given c is = subst (λ (k : ℕ). block_from (node_of ds e) k x ≡ Some (block_of ds x)) is (block_from_code ds keys x e ends own)

  below : begins_with x e ≡ false → block_of ds x ≤ (node_of ds e).first → 0 ≡ code_at ds e x
  below out low =
      elim (code_outside ds e x out) [
        | inl zero' ↦ sym zero'
        | inr one ↦
            let is = some_same (node_of ds e).after (block_of ds x) (sym (from_one (node_of ds e) x) ∙ given 1 one) in
            let less = leaves_some in
            absurd (omega arith)
      ]

  above : begins_with x e ≡ false → (node_of ds e).first < block_of ds x → 1 ≡ code_at ds e x
  above out high =
      elim (code_outside ds e x out) [
        | inl zero' ↦
            let is = some_same (node_of ds e).first (block_of ds x) (sym (from_zero (node_of ds e) x) ∙ given 0 zero') in
            absurd (omega arith)
        | inr one ↦ sym one
      ]

  extent_within : begins_with x e ≡ true → (node_of ds e).extent < length x
  extent_within begins =
      let size = (extent_first ds e).0 in
      let long = longer begins in
      omega arith

  first_of_child : begins_with x e ≡ true → block_of ds x ≤ child_first (node_of ds e) (bit_at x (node_of ds e).extent) → 2 ≡ code_at ds e x
  first_of_child begins low =
      elim (code_inside ds e x begins) [
        | inl two ↦ sym two
        | inr three ↦
            let is = some_same (child_after (node_of ds e) (bit_at x (node_of ds e).extent)) (block_of ds x) (sym (from_three (node_of ds e) x (extent_within begins)) ∙ given 3 three) in
            let less = child_leaves_some (bit_at x (node_of ds e).extent) in
            absurd (omega arith)
      ]

  last_of_child : begins_with x e ≡ true → child_first (node_of ds e) (bit_at x (node_of ds e).extent) < block_of ds x → 3 ≡ code_at ds e x
  last_of_child begins high =
      elim (code_inside ds e x begins) [
        | inl two ↦
            let is = some_same (child_first (node_of ds e) (bit_at x (node_of ds e).extent)) (block_of ds x) (sym (from_two (node_of ds e) x (extent_within begins)) ∙ given 2 two) in
            absurd (omega arith)
        | inr three ↦ sym three
      ]

-- ---- a key and its way

-- no delimiter begins with a key but that key
no_prefix : (keys : Keys) → IsKeyList keys → (t : Contents) → IsTrieOf keys.lines t → (key : ℕ) → key < length keys.lines
    → (d : Bits) → IsIn (delimiter_bits keys.lines t.delimiters) d → begins_with d (key_at keys.lines key) ≡ true → d ≡ key_at keys.lines key
no_prefix keys valid t built key inside d there begins =
    let lines = keys.lines in
    let ks = map key_bits lines in
    let size = length-map lines key_bits in
    let at = at_in (delimiter_bits lines t.delimiters) d there in
    let i = at.0 in
    let many = as_many lines t.delimiters in
    let i_in : i < length t.delimiters = let l = at.1 in omega arith in
    let number = slice_index t.delimiters i in
    let number_in = built.rising.inside i i_in in
    let d_is : get_or ks number [] ≡ d =
    key_is lines number number_in ∙ sym (get_or-map (λ m. key_at lines m) t.delimiters i 0 [] i_in) ∙ at.2 in
    let d_there : IsIn ks d = subst (λ (z : Bits). IsIn ks z) d_is (in_at ks number (omega arith)) in
    let x_there : IsIn ks (key_at lines key) = subst (λ (z : Bits). IsIn ks z) (key_is lines key inside) (in_at ks key (omega arith)) in
    keys_prefix ks (key_at lines key) d (key_list_bits keys valid) x_there d_there begins

module _ (keys : Keys) (valid : IsKeyList keys) (t : Contents) (built : IsTrieOf keys.lines t) (some : 1 < length t.delimiters) (key : ℕ) (inside : key < length keys.lines)
    (shared : ℕ) (nodes : List WayNode) (is : IsWayOf (extents_of (delimiter_bits keys.lines t.delimiters)) (key_at keys.lines key) shared nodes) (v : ℕ)
    (end : v ≡ (true_search_of (extents_of (delimiter_bits keys.lines t.delimiters)) (key_at keys.lines key)).node) where
  abbrev ds : List Bits
  ds = delimiter_bits keys.lines t.delimiters

  abbrev x : Bits
  x = key_at keys.lines key

  abbrev e : Bits
  e = extent_at (extents_of ds) v

  extents_some : 0 < length (extents_of ds)
  extents_some =
      let size = length-extents_of ds built.keys in
      let many = as_many keys.lines t.delimiters in
      omega arith

  pub end_inside : v < length t.nodes
  end_inside =
      let all = nodes_are keys.lines t built in
      let within = ends_inside (extents_of ds) x (extents_trie ds built.keys) extents_some in
      omega arith

  ends : EndsAt (extents_of ds) x e
  ends = subst (λ (w : ℕ). EndsAt (extents_of ds) x (extent_at (extents_of ds) w)) (sym end) (ends_at (extents_of ds) x (extents_trie ds built.keys) extents_some)

  own : (d : Bits) → IsIn ds d → begins_with d x ≡ true → d ≡ x
  own = no_prefix keys valid t built key inside

  code_is : code_at ds e x ≡ code_of ds x
  code_is =
      let many = as_many keys.lines t.delimiters in
      sym (code_is_at ds x (omega arith) ∙ ap (λ w. code_at ds (extent_at (extents_of ds) w) x) (sym end))

  begins_by : begins_with x e ≡ nat_le (length e) shared
  begins_by =
      let at = end_on_way (extents_of ds) (extents_trie ds built.keys) x shared nodes is in
      let here : (way_at nodes at.0).node ≡ v = at.2 ∙ sym end in
      subst (λ (w : ℕ). begins_with x (extent_at (extents_of ds) w) ≡ nat_le (length (extent_at (extents_of ds) w)) shared) here (is.extents at.0 at.1)

  module _ (n : Node) (node : n ≡ node_at t.nodes v) where
    whole : n ≡ node_of ds e
    whole = (node_is keys.lines t built v n end_inside node).whole

    size_is : n.extent ≡ length e
    size_is = (node_is keys.lines t built v n end_inside node).size

    out : shared < n.extent → begins_with x e ≡ false
    out short = let size = size_is in begins_by ∙ lt-leb (length e) shared (omega arith)

    begins : n.extent ≤ shared → begins_with x e ≡ true
    begins long = let size = size_is in begins_by ∙ le-leb (length e) shared (omega arith)

    pub bit_inside : n.extent ≤ shared → n.extent < length x
    bit_inside long =
        let size = size_is in
        let more = longer ds built.keys x e ends own (begins long) in
        omega arith

    module _ (block : ℕ) (block_is : block ≡ block_of ds x) where
      pub code_below : shared < n.extent → block ≤ n.first → 0 ≡ code_of ds x
      code_below short low =
          let first = ap (λ (w : Node). w.first) whole in
          below ds built.keys x e ends own (out short) (omega arith) ∙ code_is

      pub code_above : shared < n.extent → n.first < block → 1 ≡ code_of ds x
      code_above short high =
          let first = ap (λ (w : Node). w.first) whole in
          above ds built.keys x e ends own (out short) (omega arith) ∙ code_is

      module _ (right : Bool) (right_is : right ≡ bit_at x n.extent) where
        child_is : child_first n right ≡ child_first (node_of ds e) (bit_at x (node_of ds e).extent)
        child_is = ap (child_first n) right_is ∙ ap (λ (w : Node). child_first w (bit_at x w.extent)) whole

        pub code_first : n.extent ≤ shared → block ≤ child_first n right → 2 ≡ code_of ds x
        code_first long low =
            let first = child_is in
            first_of_child ds built.keys x e ends own (begins long) (omega arith) ∙ code_is

        pub code_last : n.extent ≤ shared → child_first n right < block → 3 ≡ code_of ds x
        code_last long high =
            let first = child_is in
            last_of_child ds built.keys x e ends own (begins long) (omega arith) ∙ code_is

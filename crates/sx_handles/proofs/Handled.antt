-- The nodes whose handle is a prefix of a string are on the way to a delimiter that begins with each such handle.
use Rattle.std.proofs.Common.{◌≡◌, ℕ, zero, suc, ◌<◌, ◌≤◌, true, false, List, [], ◌∷◌, length, get_or, refl, sym, ◌∙◌, ap, subst, arith, inl, inr}
use Rattle.std.proofs.lemmas.Bool.{cases_lt, le-leb, lt-leb, false_from_ne_true}
use Rattle.std.specs.Bool.{nat_le}
use Rattle.sx_spec_strings.specs.Bits.{Bits, AreKeyBits, begins_with, common_prefix}
use Rattle.sx_spec_strings.specs.Ordered.{IsIn}
use Rattle.sx_spec_strings.proofs.BitLaws.{begins_trans, begins_length, begins_shorter, common_begins_left, common_begins_right, common_longest, proper_from}
use Rattle.sx_spec_kinds.specs.Search.{handle_of}
use Rattle.sx_spec_kinds.specs.Trie.{IsTrie, extents_of}
use Rattle.sx_spec_kinds.proofs.NameLaws.{in_at, same_or_not, name_len_above, HasParent, parent_from, handle_fattest, handle_begins, length-handle_of}
use Rattle.sx_spec_kinds.proofs.TrieLaws.{extents_trie, common_extent, parts_of_extent}
use Rattle.sx_spec_kinds.proofs.ChildLaws.{begins_longer}
use Rattle.sx_handles.specs.Ways.{way_at, IsWayTo, IsWayOf}
use Rattle.sx_handles.specs.declared.ways.way_node.WayNode.{WayNode}

-- a node other than the root has a parent
later_has_parent : (es : List Bits) → IsTrie es → (v : ℕ) → 0 < v → v < length es → HasParent es (get_or es v [])
later_has_parent [] trie v some inside = absurd (omega arith)
later_has_parent (r ∷ es) trie zero some inside = absurd (omega arith)
later_has_parent (r ∷ es) trie (suc v) some inside =
    parent_from (r ∷ es) r (get_or es v []) (inl refl) (trie.rooted (get_or es v []) (in_at es v (omega arith)))

pub has_parent : (ds : List Bits) → AreKeyBits ds → (v : ℕ) → 0 < v → v < length (extents_of ds) → HasParent (extents_of ds) (get_or (extents_of ds) v [])
has_parent ds keys v some inside = later_has_parent (extents_of ds) (extents_trie ds keys) v some inside

-- a delimiter that begins with a node's handle begins with its extent
pub extent_from_handle : (ds : List Bits) → AreKeyBits ds → (d e : Bits) → IsIn ds d → IsIn (extents_of ds) e → HasParent (extents_of ds) e → begins_with d (handle_of (extents_of ds) e) ≡ true → begins_with d e ≡ true
extent_from_handle ds keys d e there node parent handled =
    let es = extents_of ds in
    let p = parts_of_extent ds e keys node in
    let left_e = begins_longer p.left e false p.left_begins in
    let left_h = begins_trans p.left e (handle_of es e) left_e (handle_begins es e) in
    let q = common_prefix p.left d in
    elim (same_or_not p.left d) [
      | inl same ↦ subst (λ (g : Bits). begins_with g e ≡ true) same left_e
      | inr differ ↦
          elim (cases_lt (length q) (length e)) [
            | inl short ↦
                let extent = common_extent ds p.left d keys p.left_there there differ in
                let e_q = begins_shorter p.left q e (common_begins_left p.left d) left_e (omega arith) in
                let above = name_len_above es q e extent (proper_from q e e_q short) in
                let long = begins_length q (handle_of es e) (common_longest p.left d (handle_of es e) left_h handled) in
                let size = length-handle_of es e parent in
                let over = (handle_fattest es e parent).above in
                absurd (omega arith)
            | inr long ↦
                let q_e = begins_shorter p.left e q left_e (common_begins_left p.left d) long in
                begins_trans d q e (common_begins_right p.left d) q_e
          ]
    ]

-- some delimiter begins with each handle
pub some_begins : (ds : List Bits) → AreKeyBits ds → (e : Bits) → IsIn (extents_of ds) e → (g : Bits) × IsIn ds g × (begins_with g (handle_of (extents_of ds) e) ≡ true)
some_begins ds keys e node =
    let p = parts_of_extent ds e keys node in
    (p.left, p.left_there, begins_trans p.left e (handle_of (extents_of ds) e) (begins_longer p.left e false p.left_begins) (handle_begins (extents_of ds) e))

-- the delimiter begins with each prefix that the string and some delimiter share
abbrev pub IsNearest : (ds : List Bits) (x d : Bits) → Type 0
IsNearest ds x d = (h g : Bits) → IsIn ds g → begins_with g h ≡ true → begins_with x h ≡ true → begins_with d h ≡ true

-- of the prefixes of the delimiter those are prefixes of the string that are no longer than what both share
pub shared_begins : (x d p : Bits) (shared : ℕ) → shared ≡ length (common_prefix x d) → begins_with d p ≡ true → begins_with x p ≡ nat_le (length p) shared
shared_begins x d p shared is d_p =
    elim (cases_lt shared (length p)) [
      | inl more ↦
          let none : begins_with x p ≡ false = false_from_ne_true (begins_with x p) (λ b.
          let size = begins_length (common_prefix x d) p (common_longest x d p b d_p) in
          absurd (omega arith)) in
          none ∙ sym (lt-leb (length p) shared more)
      | inr within ↦
          let q_p = begins_shorter d p (common_prefix x d) d_p (common_begins_right x d) (omega arith) in
          begins_trans x (common_prefix x d) p (common_begins_left x d) q_p ∙ sym (le-leb (length p) shared within)
    ]

shared_begins_if : (x d p : Bits) (shared : ℕ) → shared ≡ length (common_prefix x d) → begins_with d p ≡ true → length p ≤ shared → begins_with x p ≡ true
shared_begins_if x d p shared is d_p within = shared_begins x d p shared is d_p ∙ le-leb (length p) shared within

module _ (ds : List Bits) (keys : AreKeyBits ds) (leaf : ℕ) (inside : leaf < length ds) (nodes : List WayNode) (to : IsWayTo ds leaf nodes)
    (x : Bits) (shared : ℕ) (is : shared ≡ length (common_prefix x (get_or ds leaf []))) (nearest : IsNearest ds x (get_or ds leaf [])) where
  abbrev es : List Bits
  es = extents_of ds

  abbrev d : Bits
  d = get_or ds leaf []

  abbrev at : ℕ → WayNode
  at i = way_at nodes i

  handle_at : (i : ℕ) → 0 < i → i < length nodes → (at i).handle ≤ shared → begins_with x (handle_of es (get_or es (at i).node [])) ≡ true
  handle_at i some less short =
      let e = get_or es (at i).node [] in
      let size = to.way.handles i some less in
      shared_begins_if x d (handle_of es e) shared is (begins_trans d e (handle_of es e) (to.begins i less) (handle_begins es e)) (omega arith)

  on_way : (v : ℕ) → 0 < v → v < length es → begins_with x (handle_of es (get_or es v [])) ≡ true → (i : ℕ) × (0 < i) × (i < length nodes) × ((at i).node ≡ v) × ((at i).handle ≤ shared)
  on_way v some less handled =
      let e = get_or es v [] in
      let node = in_at es v less in
      let (g, there, begins) = some_begins ds keys e node in
      let d_h = nearest (handle_of es e) g there begins handled in
      let d_e = extent_from_handle ds keys d e (in_at ds leaf inside) node (has_parent ds keys v some less) d_h in
      let found = to.whole v less d_e in
      let i = found.0 in
      let i_in = found.1 in
      let is_v = found.2 in
      let positive : 0 < i =
      elim (cases_lt 0 i) [
        | inl more ↦ more
        | inr none ↦
            let first : i ≡ 0 = omega arith in
            let root : (at i).node ≡ 0 = ap (λ n. (at n).node) first ∙ ap (λ (w : WayNode). w.node) to.way.root in
            absurd (omega arith)
      ] in
      let size = to.way.handles i positive i_in in
      let own = ap (λ n. length (handle_of es (get_or es n []))) is_v in
      let most = begins_length (common_prefix x d) (handle_of es e) (common_longest x d (handle_of es e) handled d_h) in
      (i, positive, i_in, is_v, omega arith)

  -- the way to the nearest delimiter is that of the string
  pub way_of_nearest : IsWayOf (extents_of ds) x shared nodes
  way_of_nearest = record {
    way = to.way;
    long = let most = begins_length x (common_prefix x d) (common_begins_left x d) in omega arith;
    begins = handle_at;
    extents = λ i less. shared_begins x d (get_or es (at i).node []) shared is (to.begins i less);
    whole = on_way;
  }

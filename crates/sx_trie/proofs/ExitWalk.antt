-- Where the walk of a string ends is its exit.
use Rattle.std.proofs.Common.{◌≡◌, ℕ, zero, suc, ◌+◌, ◌-◌, ◌<◌, ◌≤◌, Bool, true, false, List, [], ◌∷◌, ◌++◌, ◌≢◌, length, get_or, take, drop, refl, sym, ap, ap₂, subst, ◌∙◌, arith, inl, inr}
use Rattle.std.specs.Prelude.{count_by, not, ◌⊎◌}
use Rattle.std.specs.List.{list_all, position_or_len}
use Rattle.std.proofs.lemmas.Bool.{cases_Bool, cases_lt, cases_eq, false_from_ne_true}
use Rattle.std.proofs.lemmas.List.{length-take, length-drop, length-take-le, take_all, take-take, take-append-drop, drop-take}
use Rattle.sx_spec_strings.specs.Bits.{Bits, AreKeyBits, bit_at, bits_cmp, bits_eq, begins_with, common_prefix, common_prefix_of, is_below, is_proper_prefix}
use Rattle.sx_spec_strings.specs.Ordered.{IsIn, IsRising}
use Rattle.sx_spec_strings.proofs.BitLaws.{begins_refl, begins_whole, common_of_prefix, begins_trans, begins_length, begins_shorter, begins_both, begins_not_below, below_total, below_irrefl, common_begins_left, common_begins_right, common_longest, proper_parts, proper_from}
use Rattle.std.specs.declared.cmp.Ordering.{Ordering}
use Rattle.std.specs.Ordering.{is_lt}
use Rattle.sx_spec_strings.proofs.KeyBits.{tests_are_the_order}
use Rattle.sx_spec_strings.proofs.OrderedLaws.{rising_first, rising_rest}
use Rattle.sx_spec_kinds.specs.Trie.{Place, inner, leaf, extents_of, under, name_len, place_of, exit_of}
use Rattle.sx_spec_kinds.specs.Hollow.{Stand}
use Rattle.sx_spec_kinds.proofs.NameLaws.{begins_take, take_of_begins, in_at, bits_same, bits_eq_refl, name_len_above, name_len_from}
use Rattle.sx_spec_kinds.proofs.TrieLaws.{extents_rising, extents_trie}
use Rattle.sx_spec_kinds.proofs.CountLaws.{count_some, length-under, in_under, under_from}
use Rattle.sx_spec_kinds.proofs.ChildLaws.{parts, begins_longer}
use Rattle.sx_spec_kinds.proofs.LcpLaws.{begins_common_of, common_of_longest}
use Rattle.sx_spec_kinds.proofs.HollowLaws.{IsFirst, StandsAt, stands_start, first_here, key_under, extents_under}
use Rattle.sx_spec_kinds.proofs.ExactBlock.{all_at, some_at}
use Rattle.sx_spec_kinds.proofs.ExitLaws.{all_or_none}
use Rattle.sx_trie.proofs.Delimiters.{in_range, parted_prefix}
use Rattle.sx_trie.proofs.Stands.{extent_at, left_at, at_child, under_at, on_child, Found}

-- an element of a rising list is found at its place
found_at : (es : List Bits) → IsRising is_below es → (i : ℕ) → i < length es → position_or_len (λ q. bits_eq q (get_or es i [])) es ≡ i
found_at [] rising i inside = absurd (omega arith)
found_at (z ∷ zs) rising zero inside = rw (bits_eq_refl z) refl
found_at (z ∷ zs) rising (suc i) inside =
    let g = get_or zs i [] in
    let less = rising_first z zs rising g (in_at zs i (omega arith)) in
    let other : bits_eq z g ≡ false = false_from_ne_true (bits_eq z g) (λ e.
    let same = bits_same z g e in
    let again : is_below g g ≡ true = rw same at less in
    let none = below_irrefl g in
    cc) in
    let e : 1 + i ≡ suc i = omega arith in
    rw other (ap (λ n. 1 + n) (found_at zs (rising_rest z zs rising) i (omega arith)) ∙ e)

place_one : (extents : List Bits) (first : ℕ) (G : List Bits) → length G ≡ 1 → place_of extents first G ≡ leaf first
place_one extents first [] one = absurd (omega arith)
place_one extents first (d ∷ []) one = refl
place_one extents first (d ∷ e ∷ G) one = absurd (omega arith)

place_more : (extents : List Bits) (first : ℕ) (G : List Bits) → 1 < length G → place_of extents first G ≡ inner (position_or_len (λ q. bits_eq q (common_prefix_of G)) extents)
place_more extents first [] more = absurd (omega arith)
place_more extents first (d ∷ []) more = absurd (omega arith)
place_more extents first (d ∷ e ∷ G) more = refl

common_longest_of : (G : List Bits) (s : Bits) → 0 < length G → ((d : Bits) → IsIn G d → begins_with d s ≡ true) → begins_with (common_prefix_of G) s ≡ true
common_longest_of [] s some each = absurd (omega arith)
common_longest_of (d ∷ G) s some each = common_of_longest d G s each

module _ (ds : List Bits) (keys : AreKeyBits ds) (x : Bits) (s : Stand) (h : StandsAt ds keys x s) where
  abbrev name : Bits
  name = take s.pos x

  long_name : length name ≡ s.pos
  long_name = length-take-le s.pos x h.inside

  -- the name is the longest that an extent gives the string
  name_is : ((f : Bits) → IsIn (extents_of ds) f → is_proper_prefix f x ≡ true → length f < s.pos) → name_len (extents_of ds) x ≡ s.pos
  name_is shorter =
      elim (cases_lt s.pos (name_len (extents_of ds) x)) [
        | inl over ↦
            let (f, there, proper, size) = name_len_from (extents_of ds) x (omega arith) in
            let short = shorter f there proper in
            absurd (omega arith)
        | inr under ↦
            elim h.parent [
              | inl none ↦ omega arith
              | inr there ↦
                  elim (cases_eq s.pos 0) [
                    | inl none ↦ omega arith
                    | inr some ↦
                        let inside = h.inside in
                        let short = length-take-le (s.pos - 1) x (omega arith) in
                        let above = name_len_above (extents_of ds) (take (s.pos - 1) x) x there (proper_from (take (s.pos - 1) x) x (begins_take (s.pos - 1) x) (omega arith)) in
                        omega arith
                  ]
            ]
      ]

  module _ (named : name_len (extents_of ds) x ≡ s.pos) where
    first_under : s.first < length ds → begins_with (get_or ds s.first []) name ≡ true
    first_under inside =
        let a = h.first in
        let b = h.leaves in
        let some = h.some in
        in_range ds keys name s.first inside (omega arith) (omega arith)

    right_is : s.first < length ds → list_all (λ d. is_below d x) (under ds name) ≡ is_below (get_or ds s.first []) x
    right_is inside =
        let first = get_or ds s.first [] in
        let there = in_at ds s.first inside in
        let begins = first_under inside in
        elim (cases_Bool (list_all (λ d. is_below d x) (under ds name))) [
          | inl all ↦ let one = all_at (λ d. is_below d x) (under ds name) first all (in_under ds name first there begins) in cc
          | inr some ↦
              let (d, i, not) = some_at (λ d. is_below d x) (under ds name) some in
              let (d_there, d_begins) = under_from ds name d i in
              let none : is_below first x ≡ false = false_from_ne_true (is_below first x) (λ less.
              let also = all_or_none ds keys x name (let size = long_name in omega arith) first d there d_there begins d_begins less in
              cc) in
              cc
        ]

    exit_at : (p : Place) → s.first < length ds → place_of (extents_of ds) s.first (under ds name) ≡ p → record { place = p; right = is_below (get_or ds s.first []) x } ≡ exit_of ds x
    unfolding exit_of
    exit_at p inside place =
        let below : s.first ≡ count_by (λ d. is_below d name) ds = h.first in
        let e : take (name_len (extents_of ds) x) x ≡ name = ap (λ n. take n x) named in
        rw (e, ← below, place, right_is inside) refl

  -- ---- a leaf

  pub exit_at_leaf : s.first < length ds → s.leaves ≡ 1 → record { place = leaf s.first; right = is_below (get_or ds s.first []) x } ≡ exit_of ds x
  exit_at_leaf inside one =
      let named = name_is (λ f there proper.
      elim (cases_lt (length f) s.pos) [
        | inl short ↦ short
        | inr long ↦
            let size = long_name in
            let begins = begins_shorter x name f (begins_take s.pos x) (proper_parts f x proper).0 (omega arith) in
            let some = count_some (λ g. begins_with g name) (extents_of ds) f there begins in
            let none = extents_under ds name keys in
            let leaves = h.leaves in
            absurd (omega arith)
      ]) in
      let under_size = length-under ds name in
      let leaves = h.leaves in
      exit_at named (leaf s.first) inside (place_one (extents_of ds) s.first (under ds name) (omega arith))

  -- ---- an inner node

  module _ (more : 1 < s.leaves) where
    first_extent : IsFirst (extents_of ds) name (extent_at ds s)
    first_extent = first_here ds keys x s h more

    under_extent : (g : Bits) → IsIn (extents_of ds) g → begins_with g name ≡ true → begins_with g (extent_at ds s) ≡ true
    under_extent g i b =
        let e = extent_at ds s in
        let f = first_extent in
        let common = (extents_trie ds keys).closed g e i f.there in
        let begins = common_longest g e name b f.begins in
        let not_less = f.least (common_prefix g e) common begins in
        let not_more = begins_not_below e (common_prefix g e) (common_begins_right g e) in
        let same = below_total (common_prefix g e) e not_less not_more in
        rw same at (common_begins_left g e)

    -- all delimiters there have just the extent in common
    common_is : common_prefix_of (under ds name) ≡ extent_at ds s
    common_is =
        let e = extent_at ds s in
        let f = first_extent in
        let q = common_prefix_of (under ds name) in
        let size = length-under ds name in
        let leaves = h.leaves in
        let p = parts ds keys e f.there in
        let left_e = begins_longer p.left e false p.left_begins in
        let right_e = begins_longer p.right e true p.right_begins in
        let left_in = in_under ds name p.left p.left_there (begins_trans p.left e name left_e f.begins) in
        let right_in = in_under ds name p.right p.right_there (begins_trans p.right e name right_e f.begins) in
        let q_e = common_longest_of (under ds name) e (omega arith) (λ d i.
        let (there, begins) = under_from ds name d i in
        key_under ds keys x name e d f (omega arith) there begins) in
        let both = common_longest p.left p.right q (begins_common_of (under ds name) p.left left_in) (begins_common_of (under ds name) p.right right_in) in
        let e_q : begins_with e q ≡ true = rw (parted_prefix p.left p.right e p.left_begins p.right_begins) at both in
        begins_both q e q_e e_q

    pub exit_at_inner : s.first < length ds → (begins_with x (extent_at ds s) ≡ true → length (extent_at ds s) < length x → ⊥)
        → record { place = inner s.node; right = is_below (get_or ds s.first []) x } ≡ exit_of ds x
    exit_at_inner inside stops =
        let e = extent_at ds s in
        let f = first_extent in
        let named = name_is (λ g there proper.
        elim (cases_lt (length g) s.pos) [
          | inl short ↦ short
          | inr long ↦
              let size = long_name in
              let (x_g, less) = proper_parts g x proper in
              let begins = begins_shorter x name g (begins_take s.pos x) x_g (omega arith) in
              let g_e = under_extent g there begins in
              let shorter = begins_length g e g_e in
              absurd (stops (begins_trans x g e x_g g_e) (omega arith))
        ]) in
        let size = length-under ds name in
        let leaves = h.leaves in
        let node = h.node in
        let there = f.inside in
        exit_at named (inner s.node) inside
        (place_more (extents_of ds) s.first (under ds name) (omega arith)
        ∙ ap (λ q. inner (position_or_len (λ g. bits_eq g q) (extents_of ds))) common_is
        ∙ ap inner (found_at (extents_of ds) (extents_rising ds) s.node (omega arith)))

-- ---- the test whether a walk goes on

-- a front of the strings, and what follows it up to bit n
front_and_rest : (x : Bits) (m n : ℕ) → m ≤ n → take n x ≡ take m x ++ take (n - m) (drop m x)
front_and_rest x m n le =
    let e : n ≡ m + (n - m) = omega arith in
    let whole = take-append-drop m (take (m + (n - m)) x) in
    ap (λ k. take k x) e ∙ sym (rw (take-take m (m + (n - m)) x (omega arith), drop-take m (n - m) x) at whole)

-- strings of one length with a common prefix of that length are one
whole_common : (x y : Bits) (n : ℕ) → length x ≡ n → length y ≡ n → length (common_prefix x y) ≡ n → x ≡ y
whole_common x y n lx ly all =
    sym (begins_whole x (common_prefix x y) (common_begins_left x y) (omega arith))
    ∙ begins_whole y (common_prefix x y) (common_begins_right x y) (omega arith)

pub fronts_same : (x d : Bits) (name extent : ℕ) → name ≤ extent → extent ≤ length x → extent ≤ length d → take name d ≡ take name x
    → length (common_prefix (take (extent - name) (drop name x)) (take (extent - name) (drop name d))) ≡ extent - name → take extent x ≡ take extent d
fronts_same x d name extent le lx ld shared all =
    let a = length-take (extent - name) (drop name x) in
    let b = length-drop name x in
    let c = length-take (extent - name) (drop name d) in
    let e = length-drop name d in
    let rest = whole_common (take (extent - name) (drop name x)) (take (extent - name) (drop name d)) (extent - name) (omega arith) (omega arith) all in
    front_and_rest x name extent le
    ∙ ap₂ (λ (u v : Bits). u ++ v) (sym shared) rest
    ∙ sym (front_and_rest d name extent le)

pub fronts_differ : (x d : Bits) (name extent : ℕ) → name ≤ extent → extent ≤ length x → extent ≤ length d
    → (length (common_prefix (take (extent - name) (drop name x)) (take (extent - name) (drop name d))) ≡ extent - name → ⊥) → take extent x ≢ take extent d
fronts_differ x d name extent le lx ld apart same =
    let e : extent ≡ name + (extent - name) = omega arith in
    let a = length-take (extent - name) (drop name x) in
    let b = length-drop name x in
    let rest : take (extent - name) (drop name x) ≡ take (extent - name) (drop name d) =
    sym (drop-take name (extent - name) x) ∙ ap (λ n. drop name (take n x)) (sym e) ∙ ap (drop name) same ∙ ap (λ n. drop name (take n d)) e ∙ drop-take name (extent - name) d in
    let u = take (extent - name) (drop name x) in
    let whole : common_prefix u u ≡ u = common_of_prefix u u (begins_refl u) in
    apart (ap (λ v. length (common_prefix u v)) (sym rest) ∙ ap length whole ∙ (let n : length u ≡ extent - name = omega arith in n))

-- a string begins with a prefix of a delimiter where the fronts of both are one
pub walk_goes_on : (d x e : Bits) (extent : ℕ) → extent ≡ length e → begins_with d e ≡ true → take extent x ≡ take extent d → begins_with x e ≡ true
walk_goes_on d x e extent is d_e same =
    let front : take extent d ≡ e = take_of_begins d e extent d_e (omega arith) ∙ take_all extent e (omega arith) in
    subst (λ p. begins_with x p ≡ true) (same ∙ front) (begins_take extent x)

-- where the walk ends at an inner node, the extent is no proper prefix of the string
pub walk_stops : (d x e : Bits) (extent : ℕ) → extent ≡ length e → begins_with d e ≡ true → (length x ≤ extent) ⊎ (take extent x ≢ take extent d)
    → begins_with x e ≡ true → length e < length x → ⊥
walk_stops d x e extent is d_e (inl short) x_e longer = absurd (omega arith)
walk_stops d x e extent is d_e (inr apart) x_e longer =
    apart (take_of_begins x e extent x_e (omega arith) ∙ sym (take_of_begins d e extent d_e (omega arith)))

-- what a string shares with the delimiters where its walk stands
pub shared_name : (ds : List Bits) (keys : AreKeyBits ds) (x : Bits) (s : Stand) (h : StandsAt ds keys x s) (more : 1 < s.leaves) → s.first < length ds
    → (s.pos ≤ length (extent_at ds s)) × (take s.pos (get_or ds s.first []) ≡ take s.pos x)
shared_name ds keys x s h more inside =
    let e = extent_at ds s in
    let d = get_or ds s.first [] in
    let f = first_here ds keys x s h more in
    let size = length-take-le s.pos x h.inside in
    let long = begins_length e (take s.pos x) f.begins in
    let d_e = under_at ds keys x s h more s.first inside (omega arith) (omega arith) in
    let d_n = begins_trans d e (take s.pos x) d_e f.begins in
    (omega arith, take_of_begins d (take s.pos x) s.pos d_n (omega arith) ∙ take_all s.pos (take s.pos x) (omega arith))

-- ---- the start and the steps of a walk

-- a walk stands at a place, after a name
abbrev pub Walks : (ds : List Bits) (keys : AreKeyBits ds) (x : Bits) (at leaves first name : ℕ) → Type 0
Walks ds keys x at leaves first name = StandsAt ds keys x (record { node = at; leaves = leaves; first = first; pos = name })

pub walk_starts : (ds : List Bits) (keys : AreKeyBits ds) (x : Bits) (leaves : ℕ) → leaves ≡ length ds → 0 < length ds → Walks ds keys x 0 leaves 0 0
walk_starts ds keys x leaves all some = subst (λ n. Walks ds keys x 0 n 0 0) (sym all) (stands_start ds keys x some)

module _ (ds : List Bits) (keys : AreKeyBits ds) (x : Bits) (s : Stand) (h : StandsAt ds keys x s) (more : 1 < s.leaves)
    (extent first middle after : ℕ) (node : Found ds s extent first middle after) (inside : s.first + s.leaves ≤ length ds)
    (longer : extent < length x) (shares : take extent x ≡ take extent (get_or ds s.first [])) where
  child_stands : StandsAt ds keys x (at_child s (left_at ds s) (length (extent_at ds s)) (bit_at x (length (extent_at ds s))))
  child_stands =
      let is = node.extent_is in
      let d_e = under_at ds keys x s h more s.first (omega arith) (omega arith) (omega arith) in
      let x_e = walk_goes_on (get_or ds s.first []) x (extent_at ds s) extent is d_e shares in
      on_child ds keys x s h more x_e (omega arith)

  pub walk_right : bit_at x extent ≡ true → Walks ds keys x (s.node + (middle - first)) (after - middle) middle (extent + 1)
  walk_right bit =
      let l = left_at ds s in
      let p = length (extent_at ds s) in
      let b : bit_at x p ≡ true = ap (bit_at x) (sym node.extent_is) ∙ bit in
      let a = node.first_is in
      let m = node.middle_is in
      let e = node.after_is in
      let n1 : s.node + l ≡ s.node + (middle - first) = omega arith in
      let n2 : s.leaves - l ≡ after - middle = omega arith in
      let n3 : s.first + l ≡ middle = omega arith in
      let n4 : p + 1 ≡ extent + 1 = ap (λ m. m + 1) (sym node.extent_is) in
      subst (StandsAt ds keys x)
      (ap (at_child s l p) b ∙ (λ i. record { node = n1 i; leaves = n2 i; first = n3 i; pos = n4 i }))
      child_stands

  pub walk_left : bit_at x extent ≡ false → Walks ds keys x (s.node + 1) (middle - first) s.first (extent + 1)
  walk_left bit =
      let l = left_at ds s in
      let p = length (extent_at ds s) in
      let b : bit_at x p ≡ false = ap (bit_at x) (sym node.extent_is) ∙ bit in
      let a = node.first_is in
      let m = node.middle_is in
      let n2 : l ≡ middle - first = omega arith in
      let n4 : p + 1 ≡ extent + 1 = ap (λ m. m + 1) (sym node.extent_is) in
      subst (StandsAt ds keys x)
      (ap (at_child s l p) b ∙ (λ i. record { node = s.node + 1; leaves = n2 i; first = s.first; pos = n4 i }))
      child_stands

-- ---- what stands to the right of a delimiter

pub right_by_order : (d x : Bits) (order : Ordering) (right : Bool) → order ≡ bits_cmp d x → right ≡ is_lt order → right ≡ is_below d x
right_by_order d x order right is r = r ∙ ap is_lt is ∙ sym (tests_are_the_order.below d x)

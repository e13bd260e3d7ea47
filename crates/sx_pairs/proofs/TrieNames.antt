-- The nodes of the trie of delimiters by keys: their extents, and the lengths of their names.
use Rattle.std.proofs.Common.{◌≡◌, ℕ, zero, suc, max, ◌+◌, ◌-◌, ◌<◌, ◌≤◌, true, false, List, [], ◌∷◌, length, get_or, take, map, Some, refl, sym, ap, ap₂, subst, ◌∙◌, arith, inl, inr}
use Rattle.std.specs.Prelude.{slice_get, slice_index, slice_index_or, count_by}
use Rattle.std.proofs.lemmas.Bool.{cases_lt, cases_eq, lt-ltb, le-ltb}
use Rattle.std.proofs.lemmas.List.{length-map, get_or-map, take_all}
use Rattle.sx_spec_strings.specs.Bits.{Bits, AreKeyBits, begins_with, common_prefix, is_below, key_bits}
use Rattle.sx_spec_strings.specs.Ordered.{IsIn}
use Rattle.sx_spec_strings.proofs.BitLaws.{begins_length, whole_or_proper, proper_parts, common_begins_left, common_begins_right, common_longest, below_irrefl}
use Rattle.sx_spec.proofs.Signatures.{length-key_bits}
use Rattle.sx_spec_kinds.specs.Trie.{Node, no_node, node_at, node_of, extents_of, name_len}
use Rattle.sx_spec_kinds.proofs.NameLaws.{in_at, at_in, take_of_begins, same_or_not, name_len_above, name_len_from}
use Rattle.sx_spec_kinds.proofs.TrieLaws.{keys_prefix, common_extent, parts_of_extent, branch_below, length-extents_of, common_sym}
use Rattle.sx_spec_kinds.proofs.ChildLaws.{begins_longer}
use Rattle.sx_spec_kinds.proofs.HollowLaws.{stands_start}
use Rattle.sx_bits.specs.KeyLists.{Keys, IsKeyList}
use Rattle.sx_bits.proofs.Faultless.{key_file}
use Rattle.sx_trie.specs.Tries.{Contents, AreRising, IsTrieOf, delimiter_bits}
use Rattle.sx_trie.specs.Ranges.{string_at}
use Rattle.sx_trie.proofs.Delimiters.{key_pair, in_range, range_of}
use Rattle.sx_trie.proofs.Stands.{name_here}
use Rattle.sx_pairs.specs.Pairs.{key_at, bits_before, bits_after, name_at}
use Rattle.sx_pairs.proofs.KeyRuns.{between}

-- ---- delimiters as keys

pub delimiter_is : (lines : List (List ℕ)) (numbers : List ℕ) (i : ℕ) → i < length numbers → slice_index numbers i < length lines → string_at lines numbers i ≡ key_at lines (slice_index numbers i)
delimiter_is lines numbers i inside there =
    get_or-map (λ n. key_bits (slice_index_or lines n [])) numbers i 0 [] inside
    ∙ sym (get_or-map key_bits lines (slice_index numbers i) [] [] there)

pub as_many : (lines : List (List ℕ)) (numbers : List ℕ) → length (delimiter_bits lines numbers) ≡ length numbers
as_many lines numbers = length-map numbers (λ n. key_bits (slice_index_or lines n []))

get_at : {X : Type 0} (xs : List X) (i : ℕ) (d : X) → i < length xs → slice_get xs i ≡ Some (get_or xs i d)
get_at [] i d h = absurd (omega arith)
get_at (x ∷ xs) zero d h = refl
get_at (x ∷ xs) (suc i) d h = get_at xs i d (omega arith)

-- keys are no longer than the longest
pub key_short : (keys : Keys) → IsKeyList keys → (x : Bits) → IsIn (map key_bits keys.lines) x → length x ≤ 65536
key_short keys valid x there =
    let at = at_in (map key_bits keys.lines) x there in
    let size = length-map keys.lines key_bits in
    let inside = at.1 in
    let line = get_or keys.lines at.0 [] in
    let short = (key_file keys valid).short at.0 line (get_at keys.lines at.0 [] (omega arith)) in
    let most = valid.limits.line in
    let bits = length-key_bits line in
    let is = ap length (sym (get_or-map key_bits keys.lines at.0 [] [] (omega arith)) ∙ at.2) in
    omega arith

-- ---- names of leaves

module _ (ds : List Bits) (keys : AreKeyBits ds) where
  abbrev es : List Bits
  es = extents_of ds

  -- what two delimiters share is a proper prefix of each, and ends within its name
  shared_above : (d g : Bits) → IsIn ds d → IsIn ds g → (d ≡ g → ⊥) → length (common_prefix d g) < name_len es d
  shared_above d g i j differ =
      let there = common_extent ds d g keys i j differ in
      elim (whole_or_proper (common_prefix d g) d (common_begins_left d g)) [
        | inl same ↦
            let b : begins_with g d ≡ true = subst (λ (q : Bits). begins_with g q ≡ true) same (common_begins_right d g) in
            absurd (differ (sym (keys_prefix ds d g keys i j b)))
        | inr proper ↦ name_len_above es (common_prefix d g) d there proper
      ]

  apart : (i j : ℕ) → i < j → j < length ds → get_or ds i [] ≡ get_or ds j [] → ⊥
  apart i j lt inside same =
      let less = (key_pair ds i j keys lt inside).0 in
      let again : is_below (get_or ds j []) (get_or ds j []) ≡ true = subst (λ (q : Bits). is_below q (get_or ds j []) ≡ true) same less in
      let none = below_irrefl (get_or ds j []) in
      cc

  before_above : (j : ℕ) → j < length ds → bits_before ds j ≤ name_len es (get_or ds j [])
  before_above zero inside = omega arith
  before_above (suc j) inside =
      let d = get_or ds (suc j) [] in
      let g = get_or ds j [] in
      let less = shared_above d g (in_at ds (suc j) inside) (in_at ds j (omega arith)) (λ e. apart j (suc j) (omega arith) inside (sym e)) in
      let turned = ap length (common_sym d g) in
      omega arith

  pub after_is : (j : ℕ) → suc j < length ds → bits_after ds j ≡ suc (length (common_prefix (get_or ds j []) (get_or ds (suc j) [])))
  after_is j more = let t = lt-ltb (suc j) (length ds) more in rw t refl

  after_last : (j : ℕ) → length ds ≤ suc j → bits_after ds j ≡ 0
  after_last j last = let t = le-ltb (suc j) (length ds) last in rw t refl

  after_above : (j : ℕ) → j < length ds → bits_after ds j ≤ name_len es (get_or ds j [])
  after_above j inside =
      elim (cases_lt (suc j) (length ds)) [
        | inl more ↦
            let d = get_or ds j [] in
            let g = get_or ds (suc j) [] in
            let less = shared_above d g (in_at ds j inside) (in_at ds (suc j) more) (apart j (suc j) (omega arith) more) in
            let is = after_is j more in
            omega arith
        | inr last ↦ let is = after_last j last in omega arith
      ]

  -- what another delimiter shares, a neighbour shares
  nearer_before : (i j : ℕ) (p : Bits) → i < j → j < length ds → begins_with (get_or ds i []) p ≡ true → begins_with (get_or ds j []) p ≡ true → length p < bits_before ds j
  nearer_before i zero p lt inside h k = absurd (omega arith)
  nearer_before i (suc j) p lt inside h k =
      let g = between ds keys i j (suc j) p (omega arith) (omega arith) inside h k in
      let most = begins_length (common_prefix (get_or ds j []) (get_or ds (suc j) [])) p (common_longest (get_or ds j []) (get_or ds (suc j) []) p g k) in
      omega arith

  nearer_after : (i j : ℕ) (p : Bits) → j < i → i < length ds → begins_with (get_or ds i []) p ≡ true → begins_with (get_or ds j []) p ≡ true → length p < bits_after ds j
  nearer_after i j p lt inside h k =
      let g = between ds keys j (suc j) i p (omega arith) (omega arith) inside k h in
      let most = begins_length (common_prefix (get_or ds j []) (get_or ds (suc j) [])) p (common_longest (get_or ds j []) (get_or ds (suc j) []) p k g) in
      let is = after_is j (omega arith) in
      omega arith

  nearer : (g : Bits) (j : ℕ) (p : Bits) → IsIn ds g → j < length ds → (g ≡ get_or ds j [] → ⊥) → begins_with g p ≡ true → begins_with (get_or ds j []) p ≡ true → length p < max (bits_before ds j) (bits_after ds j)
  nearer g j p there inside differ h k =
      let at = at_in ds g there in
      let i = at.0 in
      let i_in = at.1 in
      let b : begins_with (get_or ds i []) p ≡ true = subst (λ (q : Bits). begins_with q p ≡ true) (sym at.2) h in
      elim (cases_lt i j) [
        | inl before ↦ let less = nearer_before i j p before inside b k in omega arith
        | inr not ↦
            elim (cases_eq i j) [
              | inl same ↦ absurd (differ (sym at.2 ∙ ap (λ n. get_or ds n []) same))
              | inr other ↦ let less = nearer_after i j p (omega arith) i_in b k in omega arith
            ]
      ]

  pub name_of_leaf : (j : ℕ) → j < length ds → max (bits_before ds j) (bits_after ds j) ≡ name_len es (get_or ds j [])
  name_of_leaf j inside =
      let d = get_or ds j [] in
      let low = before_above j inside in
      let low' = after_above j inside in
      elim (cases_eq (name_len es d) 0) [
        | inl none ↦ omega arith
        | inr some ↦
            let found = name_len_from es d (omega arith) in
            let p = found.0 in
            let size = found.3 in
            let d_p = (proper_parts p d found.2).0 in
            let parts = parts_of_extent ds p keys found.1 in
            let left = begins_longer parts.left p false parts.left_begins in
            let right = begins_longer parts.right p true parts.right_begins in
            let less = branch_below parts.left parts.right p parts.left_begins parts.right_begins in
            let high : length p < max (bits_before ds j) (bits_after ds j) =
            elim (same_or_not parts.left d) [
              | inl same ↦
                  nearer parts.right j p parts.right_there inside
                  (λ e.
                  let again : is_below parts.right parts.right ≡ true = subst (λ (q : Bits). is_below q parts.right ≡ true) (same ∙ sym e) less in
                  let none = below_irrefl parts.right in
                  cc)
                  right d_p
              | inr differ ↦ nearer parts.left j p parts.left_there inside differ left d_p
            ] in
            omega arith
      ]

  -- a name is no longer than its string
  pub name_within : (x : Bits) → name_len es x ≤ length x
  name_within x =
      elim (cases_eq (name_len es x) 0) [
        | inl none ↦ omega arith
        | inr some ↦
            let found = name_len_from es x (omega arith) in
            let less = (proper_parts found.0 x found.2).1 in
            let size = found.3 in
            omega arith
      ]

  -- ---- inner nodes

  pub root_name : 0 < length es → name_len es (get_or es 0 []) ≡ 0
  root_name some =
      let size = length-extents_of ds keys in
      name_here ds keys [] (record { node = 0; leaves = length ds; first = 0; pos = 0 }) (stands_start ds keys [] (omega arith)) (omega arith)

  -- the first delimiter under a node begins with its extent
  pub first_under : (e : Bits) → IsIn es e → (count_by (λ d. is_below d e) ds < length ds) × (begins_with (get_or ds (count_by (λ d. is_below d e) ds) []) e ≡ true)
  first_under e there =
      let parts = parts_of_extent ds e keys there in
      let at = at_in ds parts.left parts.left_there in
      let inside = at.1 in
      let b : begins_with (get_or ds at.0 []) e ≡ true =
      subst (λ (q : Bits). begins_with q e ≡ true) (sym at.2) (begins_longer parts.left e false parts.left_begins) in
      let (low, high) = range_of ds keys e at.0 inside b in
      (omega arith, in_range ds keys e (count_by (λ d. is_below d e) ds) (omega arith) (omega arith) (omega arith))

-- what a trie says of a node
pub record NodeIs (lines : List (List ℕ)) (numbers : List ℕ) (i extent first : ℕ) : Type 0 where
  pub inside : i < length (extents_of (delimiter_bits lines numbers))
  pub size : extent ≡ length (get_or (extents_of (delimiter_bits lines numbers)) i [])
  pub leaf : first < length numbers
  pub there : slice_index numbers first < length lines
  pub cut : get_or (extents_of (delimiter_bits lines numbers)) i [] ≡ take extent (key_at lines (slice_index numbers first))
  pub within : extent ≤ length (key_at lines (slice_index numbers first))

module _ (lines : List (List ℕ)) (t : Contents) (built : IsTrieOf lines t) where
  abbrev own : List Bits
  own = delimiter_bits lines t.delimiters

  pub nodes_are : length t.nodes ≡ length (extents_of own)
  nodes_are = ap length built.nodes ∙ length-map (extents_of own) (node_of own)

  pub name_is : (i : ℕ) → i < length t.nodes → slice_index t.names i ≡ name_at lines t.delimiters i
  name_is i inside =
      let all = nodes_are in
      ap (λ ns. slice_index ns i) built.names
      ∙ get_or-map (name_len (extents_of own)) (extents_of own) i [] 0 (omega arith)

  extent_first : (e : Bits) → ((node_of own e).extent ≡ length e) × ((node_of own e).first ≡ count_by (λ d. is_below d e) own)
  unfolding node_of
  extent_first e = (refl, refl)

  node_is : (i : ℕ) (n : Node) → i < length t.nodes → n ≡ node_at t.nodes i → NodeIs lines t.delimiters i n.extent n.first
  node_is i n inside is =
      let all = nodes_are in
      let e = get_or (extents_of own) i [] in
      let i_in : i < length (extents_of own) = omega arith in
      let here : n ≡ node_of own e = is ∙ ap (λ ns. node_at ns i) built.nodes ∙ get_or-map (node_of own) (extents_of own) i [] no_node i_in in
      let size : n.extent ≡ length e = ap (λ (v : Node). v.extent) here ∙ (extent_first e).0 in
      let first : n.first ≡ count_by (λ d. is_below d e) own = ap (λ (v : Node). v.first) here ∙ (extent_first e).1 in
      let under = first_under own built.keys e (in_at (extents_of own) i i_in) in
      let many = as_many lines t.delimiters in
      let under_in = under.0 in
      let leaf : n.first < length t.delimiters = omega arith in
      let there = built.rising.inside n.first leaf in
      let d = key_at lines (slice_index t.delimiters n.first) in
      let d_is : get_or own (count_by (λ d. is_below d e) own) [] ≡ d =
      ap (λ m. get_or own m []) (sym first) ∙ delimiter_is lines t.delimiters n.first leaf there in
      let begins : begins_with d e ≡ true = subst (λ (q : Bits). begins_with q e ≡ true) d_is under.1 in
      let long = begins_length d e begins in
      record {
        inside = i_in;
        size = size;
        leaf = leaf;
        there = there;
        cut = sym (take_of_begins d e n.extent begins (omega arith) ∙ take_all n.extent e (omega arith));
        within = omega arith;
      }

  pub node_among : (numbers : List ℕ) → t.delimiters ≡ numbers → (i : ℕ) (n : Node) → i < length t.nodes → n ≡ node_at t.nodes i → NodeIs lines numbers i n.extent n.first
  node_among numbers same i n inside is = subst (λ ns. NodeIs lines ns i n.extent n.first) same (node_is i n inside is)

-- ---- what leaves share with their neighbours

module _ (lines : List (List ℕ)) (numbers : List ℕ) (rising : AreRising lines numbers) where
  shared_is : (i j : ℕ) → i < length numbers → j < length numbers → length (common_prefix (key_at lines (slice_index numbers i)) (key_at lines (slice_index numbers j))) ≡ length (common_prefix (string_at lines numbers i) (string_at lines numbers j))
  shared_is i j i_in j_in =
      ap₂ (λ x y. length (common_prefix x y)) (sym (delimiter_is lines numbers i i_in (rising.inside i i_in))) (sym (delimiter_is lines numbers j j_in (rising.inside j j_in)))

  pub before_by : (leaf result : ℕ) → leaf < length numbers → (leaf ≡ 0 → ⊥)
      → result ≡ length (common_prefix (key_at lines (slice_index numbers (leaf - 1))) (key_at lines (slice_index numbers leaf))) + 1
      → result ≡ bits_before (delimiter_bits lines numbers) leaf
  before_by zero result inside some is = absurd (some refl)
  before_by (suc j) result inside some is =
      let e : suc j - 1 ≡ j = omega arith in
      let there = ap (λ m. length (common_prefix (key_at lines (slice_index numbers m)) (key_at lines (slice_index numbers (suc j))))) e in
      let same = shared_is j (suc j) (omega arith) inside in
      omega arith

  pub after_by : (keys : AreKeyBits (delimiter_bits lines numbers)) (leaf result : ℕ) → leaf + 1 < length numbers
      → result ≡ length (common_prefix (key_at lines (slice_index numbers leaf)) (key_at lines (slice_index numbers (leaf + 1)))) + 1
      → result ≡ bits_after (delimiter_bits lines numbers) leaf
  after_by keys leaf result inside is =
      let many = as_many lines numbers in
      let e : leaf + 1 ≡ suc leaf = omega arith in
      let there = ap (λ m. length (common_prefix (key_at lines (slice_index numbers leaf)) (key_at lines (slice_index numbers m)))) e in
      let same = shared_is leaf (suc leaf) (omega arith) (omega arith) in
      let after = after_is (delimiter_bits lines numbers) keys leaf (omega arith) in
      omega arith

-- how many inner nodes a trie of these delimiters has
pub nodes_of_numbers : (lines : List (List ℕ)) (t : Contents) → IsTrieOf lines t → (numbers : List ℕ) → t.delimiters ≡ numbers → length t.nodes ≡ length (extents_of (delimiter_bits lines numbers))
nodes_of_numbers lines t built numbers same =
    nodes_are lines t built ∙ ap (λ ns. length (extents_of (delimiter_bits lines ns))) same

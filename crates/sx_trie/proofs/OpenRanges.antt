-- The ranges of leaves whose nodes are still to come, and how one of them is opened.
use Rattle.std.proofs.Common.{◌≡◌, ℕ, ◌+◌, ◌-◌, ◌<◌, ◌≤◌, Bool, true, false, List, [], ◌∷◌, ◌++◌, length, get_or, take, refl, sym, ap, subst, ◌∙◌, arith, inl, inr}
use Rattle.std.specs.Prelude.{map, if◌then◌else◌}
use Rattle.std.proofs.lemmas.Bool.{cases_lt, lt-ltb, le-ltb}
use Rattle.std.proofs.lemmas.List.{take_all, take-take, take_more, map_push, length_push, length-take-le}
use Rattle.sx_spec_strings.specs.Bits.{Bits, AreKeyBits, bit_at, begins_with, common_prefix}
use Rattle.sx_spec_strings.proofs.BitLaws.{begins_trans, begins_length}
use Rattle.sx_spec_kinds.specs.Trie as spec
use Rattle.sx_spec_kinds.specs.Hollow.{Stand}
use Rattle.sx_spec_kinds.proofs.NameLaws.{take_of_begins}
use Rattle.sx_spec_kinds.proofs.HollowLaws.{StandsAt, stands_start, first_here}
use Rattle.sx_spec_kinds.proofs.TrieLaws.{length-extents_of}
use Rattle.sx_trie.specs.declared.building.Range.{Range}
use Rattle.sx_trie.specs.declared.nodes.Node.{Node}
use Rattle.sx_trie.specs.Tries.{node_of}
use Rattle.sx_trie.specs.Ranges.{IsSplittable, with_range}
use Rattle.sx_trie.proofs.Stands.{extent_at, left_at, at_child, on_child, stands_other, under_at, longer_at, left_some, left_less, ends_part, splittable, middle_is, node_is, name_here}

-- how many inner nodes stand over a range
abbrev pub width : Range → ℕ
width r = r.after - r.first - 1

abbrev pub pending : List Range → ℕ
pending [] = 0
pending (r ∷ rs) = width r + pending rs

-- a range of two leaves or more, over which stands the node of this number
pub record IsOpen (ds : List Bits) (keys : AreKeyBits ds) (node : ℕ) (r : Range) : Type 0 where
  pub stands : StandsAt ds keys (get_or ds r.first []) (record { node = node; leaves = r.after - r.first; first = r.first; pos = r.name })
  pub more : 1 < r.after - r.first
  pub inside : r.after ≤ length ds

-- of so many nodes in all the last are those over the first ranges
abbrev pub AreOpen : (ds : List Bits) (keys : AreKeyBits ds) (all above : ℕ) → List Range → Type 0
AreOpen ds keys all above [] = Unit {0}
AreOpen ds keys all above (r ∷ rs) = IsOpen ds keys (all - (above + width r)) r × AreOpen ds keys all (above + width r) rs

-- ---- the stack

pub pending_push : (rs : List Range) (r : Range) → pending (rs ++ r ∷ []) ≡ pending rs + width r
pending_push [] r = omega arith
pending_push (x ∷ rs) r = let rest = pending_push rs r in omega arith

module _ (ds : List Bits) (keys : AreKeyBits ds) (all : ℕ) where
  open_push : (rs : List Range) (r : Range) (above : ℕ) → AreOpen ds keys all above rs → IsOpen ds keys (all - (above + pending rs + width r)) r → AreOpen ds keys all above (rs ++ r ∷ [])
  open_push [] r above opened last =
      let e : above + 0 + width r ≡ above + width r = omega arith in
      (subst (λ n. IsOpen ds keys (all - n) r) e last, tt)
  open_push (x ∷ rs) r above opened last =
      let e : above + (width x + pending rs) + width r ≡ above + width x + pending rs + width r = omega arith in
      (opened.0, open_push rs r (above + width x) opened.1 (subst (λ n. IsOpen ds keys (all - n) r) e last))

  open_pop : (rs : List Range) (r : Range) (above : ℕ) → AreOpen ds keys all above (rs ++ r ∷ []) → AreOpen ds keys all above rs × IsOpen ds keys (all - (above + pending rs + width r)) r
  open_pop [] r above opened =
      let e : above + width r ≡ above + 0 + width r = omega arith in
      (tt, subst (λ n. IsOpen ds keys (all - n) r) e opened.0)
  open_pop (x ∷ rs) r above opened =
      let e : above + width x + pending rs + width r ≡ above + (width x + pending rs) + width r = omega arith in
      let (front, last) = open_pop rs r (above + width x) opened.1 in
      ((opened.0, front), subst (λ n. IsOpen ds keys (all - n) r) e last)

  -- one range more, unless it has one leaf
  pub open_with : (rs now : List Range) (r : Range) (node : ℕ) → now ≡ with_range rs r → AreOpen ds keys all 0 rs → node + (pending rs + width r) ≡ all
      → (1 < r.after - r.first → IsOpen ds keys node r) → AreOpen ds keys all 0 now × (pending now ≡ pending rs + width r)
  open_with rs now r node is opened place last =
      elim (cases_lt 1 (r.after - r.first)) [
        | inl more ↦
            let e : now ≡ rs ++ r ∷ [] = is ∙ ap (λ (b : Bool). if b then rs ++ r ∷ [] else rs) (lt-ltb 1 (r.after - r.first) more) in
            let n : node ≡ all - (0 + pending rs + width r) = omega arith in
            (subst (AreOpen ds keys all 0) (sym e) (open_push rs r 0 opened (subst (λ m. IsOpen ds keys m r) n (last more))), ap pending e ∙ pending_push rs r)
        | inr one ↦
            let e : now ≡ rs = is ∙ ap (λ (b : Bool). if b then rs ++ r ∷ [] else rs) (le-ltb 1 (r.after - r.first) one) in
            (subst (AreOpen ds keys all 0) (sym e) opened, ap pending e ∙ (let w : width r ≡ 0 = omega arith in omega arith))
      ]

  -- the range on top, whose node comes next
  pub open_top : (rs before : List Range) (r : Range) (node : ℕ) → before ≡ rs ++ r ∷ [] → AreOpen ds keys all 0 before → node + pending before ≡ all
      → AreOpen ds keys all 0 rs × IsOpen ds keys node r × (node + (pending rs + width r) ≡ all)
  open_top rs before r node is opened counted =
      let p = ap pending is ∙ pending_push rs r in
      let (front, last) = open_pop rs r 0 (subst (AreOpen ds keys all 0) is opened) in
      let n : all - (0 + pending rs + width r) ≡ node = omega arith in
      (front, subst (λ m. IsOpen ds keys m r) n last, omega arith)

-- ---- opening a range

module _ (ds : List Bits) (keys : AreKeyBits ds) (n : ℕ) (r : Range) (o : IsOpen ds keys n r) where
  abbrev pub stand : Stand
  stand = record { node = n; leaves = r.after - r.first; first = r.first; pos = r.name }

  abbrev first_string : Bits
  first_string = get_or ds r.first []

  all_leaves : r.first + (r.after - r.first) ≡ r.after
  all_leaves = let a = o.more in omega arith

  pub extent_is : length (common_prefix (get_or ds r.first []) (get_or ds (r.after - 1) [])) ≡ length (extent_at ds stand)
  extent_is =
      let a = o.inside in
      let e = all_leaves in
      ap (λ m. length (common_prefix (get_or ds r.first []) (get_or ds (m - 1) []))) (sym e)
      ∙ ap length (ends_part ds keys first_string stand o.stands o.more (omega arith))

  pub splits : IsSplittable ds r.first r.after (length (common_prefix (get_or ds r.first []) (get_or ds (r.after - 1) [])))
  splits =
      let a = o.inside in
      let e = all_leaves in
      subst (IsSplittable ds r.first r.after) (sym extent_is)
      (subst (λ m. IsSplittable ds r.first m (length (extent_at ds stand))) e (splittable ds keys first_string stand o.stands o.more (omega arith)))

  module _ (extent middle : ℕ)
      (is : extent ≡ length (common_prefix (get_or ds r.first []) (get_or ds (r.after - 1) [])))
      (low : r.first ≤ middle) (high : middle ≤ r.after)
      (zeros : (j : ℕ) → r.first ≤ j → j < middle → bit_at (get_or ds j []) extent ≡ false)
      (ones : (j : ℕ) → middle ≤ j → j < r.after → bit_at (get_or ds j []) extent ≡ true) where
    pub length_is : extent ≡ length (extent_at ds stand)
    length_is = is ∙ extent_is

    pub turn_is : middle ≡ r.first + left_at ds stand
    turn_is =
        let a = o.inside in
        let b = o.more in
        let e = length_is in
        middle_is ds keys first_string stand o.stands o.more middle (omega arith) low (omega arith)
        (λ j f t. ap (bit_at (get_or ds j [])) (sym e) ∙ zeros j f t)
        (λ j f t. ap (bit_at (get_or ds j [])) (sym e) ∙ ones j f (omega arith))

    -- the node there, and its name
    pub node_there : (node : Node) → node.extent ≡ extent → node.first ≡ r.first → node.middle ≡ middle → node.after ≡ r.after → node_of node ≡ spec.node_of ds (extent_at ds stand)
    node_there node e1 e2 e3 e4 =
        let a = e1 ∙ length_is in
        let b = e3 ∙ turn_is in
        let d : node.after ≡ r.first + (r.after - r.first) = e4 ∙ sym all_leaves in
        (λ i. record { extent = a i; first = e2 i; middle = b i; after = d i }) ∙ sym (node_is ds keys first_string stand o.stands o.more)

    pub name_there : r.name ≡ spec.name_len (spec.extents_of ds) (extent_at ds stand)
    name_there = sym (name_here ds keys first_string stand o.stands o.more)

    -- the children's widths
    pub widths : (r.after - middle - 1) + (middle - r.first - 1) + 1 ≡ width r
    widths =
        let m = turn_is in
        let s = left_some ds keys first_string stand o.stands o.more in
        let l = left_less ds keys first_string stand o.stands o.more in
        omega arith

    child_of : (k : Bits) (j : ℕ) → k ≡ get_or ds j [] → r.first ≤ j → j < r.after → StandsAt ds keys k stand
        → StandsAt ds keys k (at_child stand (left_at ds stand) (length (extent_at ds stand)) (bit_at k (length (extent_at ds stand))))
    child_of k j same from before h =
        let a = o.inside in
        let b = under_at ds keys first_string stand o.stands o.more j (omega arith) from (omega arith) in
        let l = longer_at ds keys first_string stand o.stands o.more j (omega arith) from (omega arith) in
        let e = ap length same in
        on_child ds keys k stand h o.more (ap (λ x. begins_with x (extent_at ds stand)) same ∙ b) (omega arith)

    -- the left child
    pub left_open : 1 < middle - r.first → IsOpen ds keys (n + 1) (record { first = r.first; after = middle; name = extent + 1 })
    left_open more =
        let a = o.inside in
        let m = turn_is in
        let e = length_is in
        let some = left_some ds keys first_string stand o.stands o.more in
        let bit : bit_at first_string (length (extent_at ds stand)) ≡ false = ap (bit_at first_string) (sym e) ∙ zeros r.first (omega arith) (omega arith) in
        let l : left_at ds stand ≡ middle - r.first = omega arith in
        let p : length (extent_at ds stand) + 1 ≡ extent + 1 = omega arith in
        record {
          stands = subst (StandsAt ds keys first_string)
              (ap (at_child stand (left_at ds stand) (length (extent_at ds stand))) bit
              ∙ (λ i. record { node = n + 1; leaves = l i; first = r.first; pos = p i }))
              (child_of first_string r.first refl (omega arith) (let b = o.more in omega arith) o.stands);
          more = more;
          inside = omega arith;
        }

    -- the right child
    pub right_open : 1 < r.after - middle → IsOpen ds keys (n + (middle - r.first)) (record { first = middle; after = r.after; name = extent + 1 })
    right_open more =
        let a = o.inside in
        let m = turn_is in
        let e = length_is in
        let k = get_or ds middle [] in
        let bit : bit_at k (length (extent_at ds stand)) ≡ true = ap (bit_at k) (sym e) ∙ ones middle (omega arith) (omega arith) in
        let k_e = under_at ds keys first_string stand o.stands o.more middle (omega arith) low (omega arith) in
        let f = first_here ds keys first_string stand o.stands o.more in
        let name = take r.name first_string in
        let k_n = begins_trans k (extent_at ds stand) name k_e f.begins in
        let long = length-take-le r.name first_string o.stands.inside in
        let fits = begins_length k name k_n in
        let same : name ≡ take r.name k =
        sym (take_of_begins k name r.name k_n (omega arith) ∙ take_all r.name name (omega arith)) in
        let shorter : take (r.name - 1) first_string ≡ take (r.name - 1) k =
        sym (take-take (r.name - 1) r.name first_string (omega arith)) ∙ ap (take (r.name - 1)) same ∙ take-take (r.name - 1) r.name k (omega arith) in
        let there = stands_other ds keys first_string stand o.stands k (omega arith) same shorter in
        let n1 : n + left_at ds stand ≡ n + (middle - r.first) = omega arith in
        let n2 : r.after - r.first - left_at ds stand ≡ r.after - middle = omega arith in
        let n3 : r.first + left_at ds stand ≡ middle = omega arith in
        let p : length (extent_at ds stand) + 1 ≡ extent + 1 = omega arith in
        record {
          stands = subst (StandsAt ds keys k)
              (ap (at_child stand (left_at ds stand) (length (extent_at ds stand))) bit
              ∙ (λ i. record { node = n1 i; leaves = n2 i; first = n3 i; pos = p i }))
              (child_of k middle refl low (omega arith) there);
          more = more;
          inside = a;
        }

-- ---- one more entry

-- as many as there are, and one more
pub mapped_push : {X Y Z : Type 0} (f : X → Z) (g : Y → Z) (xs : List X) (x : X) (ys : List Y) (d : Y) → map f xs ≡ map g (take (length xs) ys) → length xs < length ys
    → f x ≡ g (get_or ys (length xs) d) → map f (xs ++ x ∷ []) ≡ map g (take (length (xs ++ x ∷ [])) ys)
mapped_push f g xs x ys d so_far less next =
    map_push f xs x
    ∙ ap (λ zs. zs ++ f x ∷ []) so_far
    ∙ ap (λ z. map g (take (length xs) ys) ++ z ∷ []) next
    ∙ sym (ap (λ n. map g (take n ys)) (length_push xs x) ∙ ap (map g) (take_more ys (length xs) d less) ∙ map_push g (take (length xs) ys) (get_or ys (length xs) d))

pub mapped_all : {X Y Z : Type 0} (f : X → Z) (g : Y → Z) (xs : List X) (ys : List Y) → map f xs ≡ map g (take (length xs) ys) → length ys ≤ length xs → map f xs ≡ map g ys
mapped_all f g xs ys so_far all = so_far ∙ ap (map g) (take_all (length xs) ys all)

-- ---- the loop over the stack

pub opened_first : (ds : List Bits) (keys : AreKeyBits ds) (count : ℕ) (now : List Range) → count ≡ length ds
    → now ≡ with_range [] (record { first = 0; after = count; name = 0 }) → AreOpen ds keys (length ds - 1) 0 now × (pending now ≡ length ds - 1)
opened_first ds keys count now all is =
    let r : Range = record { first = 0; after = count; name = 0 } in
    let (opened, size) = open_with ds keys (length ds - 1) [] now r 0 is tt (omega arith) (λ more. record {
      stands = subst (λ n. StandsAt ds keys (get_or ds 0 []) (record { node = 0; leaves = n; first = 0; pos = 0 })) (let e : length ds ≡ count - 0 = omega arith in e)
          (stands_start ds keys (get_or ds 0 []) (omega arith));
      more = more;
      inside = omega arith;
    }) in
    (opened, omega arith)

module _ (ds : List Bits) (keys : AreKeyBits ds) (n : ℕ) (before rs : List Range) (r : Range)
    (popped : before ≡ rs ++ r ∷ []) (opened : AreOpen ds keys (length ds - 1) 0 before) (counted : n + pending before ≡ length ds - 1) where
  pub top : IsOpen ds keys n r
  top = (open_top ds keys (length ds - 1) rs before r n popped opened counted).1

  pub top_inside : n < length (spec.extents_of ds)
  top_inside =
      let (rest, o, all) = open_top ds keys (length ds - 1) rs before r n popped opened counted in
      let more = o.more in
      let size = length-extents_of ds keys in
      omega arith

  module _ (node : Node)
      (is : node.extent ≡ length (common_prefix (get_or ds r.first []) (get_or ds (r.after - 1) [])))
      (first : node.first ≡ r.first) (after : node.after ≡ r.after)
      (low : r.first ≤ node.middle) (high : node.middle ≤ r.after)
      (zeros : (j : ℕ) → r.first ≤ j → j < node.middle → bit_at (get_or ds j []) node.extent ≡ false)
      (ones : (j : ℕ) → node.middle ≤ j → j < r.after → bit_at (get_or ds j []) node.extent ≡ true) where
    pub top_node : node_of node ≡ spec.node_of ds (get_or (spec.extents_of ds) n [])
    top_node = node_there ds keys n r top node.extent node.middle is low high zeros ones node refl first refl after

    pub top_name : r.name ≡ spec.name_len (spec.extents_of ds) (get_or (spec.extents_of ds) n [])
    top_name = name_there ds keys n r top node.extent node.middle is low high zeros ones

    pub opened_step : (one two : List Range) → one ≡ with_range rs (record { first = node.middle; after = node.after; name = node.extent + 1 })
        → two ≡ with_range one (record { first = node.first; after = node.middle; name = node.extent + 1 })
        → AreOpen ds keys (length ds - 1) 0 two × (n + 1 + pending two ≡ length ds - 1)
    opened_step one two one_is two_is =
        let (rest, o, all) = open_top ds keys (length ds - 1) rs before r n popped opened counted in
        let w = widths ds keys n r top node.extent node.middle is low high zeros ones in
        let right : Range = record { first = node.middle; after = node.after; name = node.extent + 1 } in
        let left : Range = record { first = node.first; after = node.middle; name = node.extent + 1 } in
        let right_same : record { first = node.middle; after = r.after; name = node.extent + 1 } ≡ right = λ i. record { first = node.middle; after = sym after i; name = node.extent + 1 } in
        let left_same : record { first = r.first; after = node.middle; name = node.extent + 1 } ≡ left = λ i. record { first = sym first i; after = node.middle; name = node.extent + 1 } in
        let more = o.more in
        let turn = turn_is ds keys n r top node.extent node.middle is low high zeros ones in
        let some = left_some ds keys (get_or ds r.first []) (stand ds keys n r top) top.stands top.more in
        let less = left_less ds keys (get_or ds r.first []) (stand ds keys n r top) top.stands top.more in
        let (opened_one, size_one) = open_with ds keys (length ds - 1) rs one right (n + (node.middle - r.first)) one_is rest (omega arith)
        (λ wide. subst (IsOpen ds keys (n + (node.middle - r.first))) right_same (right_open ds keys n r top node.extent node.middle is low high zeros ones (omega arith))) in
        let (opened_two, size_two) = open_with ds keys (length ds - 1) one two left (n + 1) two_is opened_one (omega arith)
        (λ wide. subst (IsOpen ds keys (n + 1)) left_same (left_open ds keys n r top node.extent node.middle is low high zeros ones (omega arith))) in
        (opened_two, omega arith)

pub mapped_none : {X Y Z : Type 0} (f : X → Z) (g : Y → Z) (xs : List X) (ys : List Y) → xs ≡ [] → map f xs ≡ map g (take (length xs) ys)
mapped_none f g xs ys none = rw none refl

pub pending_none : (rs : List Range) → length rs ≡ 0 → pending rs ≡ 0
pending_none [] none = refl
pending_none (r ∷ rs) none = absurd (omega arith)

-- Where a true search ends on the way of a string, and which handle there has so many bits.
use Rattle.std.proofs.Common.{◌≡◌, ℕ, zero, suc, ◌+◌, ◌-◌, ◌<◌, ◌≤◌, true, List, [], ◌∷◌, length, take, Option, Some, None, refl, sym, ◌∙◌, ap, subst, arith, inl, inr}
use Rattle.std.specs.Prelude.{drop}
use Rattle.std.proofs.lemmas.Bool.{cases_lt, cases_eq}
use Rattle.std.proofs.lemmas.List.{length-take-le}
use Rattle.sx_spec_strings.specs.Bits.{Bits, begins_with}
use Rattle.sx_spec_strings.specs.Ordered.{IsIn}
use Rattle.sx_spec_strings.proofs.BitLaws.{begins_trans, begins_length, begins_whole, begins_shorter, begins_both, proper_parts}
use Rattle.sx_spec_kinds.specs.Trie.{IsTrie}
use Rattle.sx_spec_kinds.specs.Search.{IsDeepest, handle_of, handles_of, handle_node, true_search_of}
use Rattle.sx_spec_kinds.proofs.NameLaws.{HasParent, parent_from, in_at, begins_take, take_of_begins, handle_begins, begins_from_handle, handle_missing, handle_found}
use Rattle.sx_spec_kinds.proofs.FatSearch.{true_search_lem}
use Rattle.sx_handles.specs.declared.ways.way_node.WayNode.{WayNode}
use Rattle.sx_handles.specs.Ways.{IsWayOf, extent_at, way_at}

-- node v stands behind the root
in_rest : (es : List Bits) (v : ℕ) → 0 < v → v < length es → IsIn (drop 1 es) (extent_at es v)
in_rest [] v some inside = absurd (omega arith)
in_rest (r ∷ rest) zero some inside = absurd (omega arith)
in_rest (r ∷ rest) (suc v) some inside = in_at rest v (omega arith)

-- the node that has a handle
named : (es : List Bits) → IsTrie es → (y : Bits) (w : ℕ) → handle_node (handles_of es) y ≡ Some w → (0 < w) × (w < length es) × (handle_of es (extent_at es w) ≡ y)
named [] trie y w h = absurd cc
named (r ∷ rest) trie y zero h =
    let found = handle_found r rest y 0 h in
    let less = (proper_parts r r (trie.rooted r found.there)).1 in
    absurd (omega arith)
named (r ∷ rest) trie y (suc w) h =
    let found = handle_found r rest y (suc w) h in
    (omega arith, found.inside, found.own)

missing : (es : List Bits) (y : Bits) → handle_node (handles_of es) y ≡ None → (v : ℕ) → 0 < v → v < length es → handle_of es (extent_at es v) ≡ y → ⊥
missing [] y none v some inside own = absurd (omega arith)
missing (r ∷ rest) y none v some inside own = handle_missing r rest y none (extent_at (r ∷ rest) v) (in_rest (r ∷ rest) v some inside) own

module _ (es : List Bits) (trie : IsTrie es) where
  pub parent_at : (v : ℕ) → 0 < v → v < length es → HasParent es (extent_at es v)
  parent_at v some inside =
      parent_from es (extent_at es 0) (extent_at es v) (in_at es 0 (omega arith)) (trie.rooted (extent_at es v) (in_rest es v some inside))

  root_shorter : (v : ℕ) → 0 < v → v < length es → length (extent_at es 0) < length (extent_at es v)
  root_shorter v some inside = (proper_parts (extent_at es 0) (extent_at es v) (trie.rooted (extent_at es v) (in_rest es v some inside))).1

  module _ (x : Bits) (shared : ℕ) (nodes : List WayNode) (is : IsWayOf es x shared nodes) where
    abbrev node : ℕ → ℕ
    node i = (way_at nodes i).node

    abbrev handle : ℕ → ℕ
    handle i = (way_at nodes i).handle

    -- handles are longer further on
    rises : (i n : ℕ) → suc (i + n) < length nodes → handle i < handle (suc (i + n))
    rises i zero inside =
        let e : i + 0 ≡ i = omega arith in
        subst (λ j. handle i < handle (suc j)) (sym e) (is.way.rising i (omega arith))
    rises i (suc n) inside =
        let e : i + suc n ≡ suc (i + n) = omega arith in
        let before = rises i n (omega arith) in
        let step = is.way.rising (suc (i + n)) (omega arith) in
        subst (λ j. handle i < handle (suc j)) (sym e) (omega arith)

    longer : (i j : ℕ) → i < j → j < length nodes → handle i < handle j
    longer i j less inside =
        let e : suc (i + (j - suc i)) ≡ j = omega arith in
        subst (λ k. handle i < handle k) e (rises i (j - suc i) (omega arith))

    -- the last node whose handle has at most so many bits
    pub record IsLast (len k : ℕ) : Type 0 where
      pub inside : k < length nodes
      pub short : handle k ≤ len
      pub beyond : (i : ℕ) → k < i → i < length nodes → len < handle i

    -- a node whose handle has no more bits is that or stands before
    no_later : (len k : ℕ) → IsLast len k → (i : ℕ) → i < length nodes → handle i ≤ len → i ≤ k
    no_later len k last i inside short =
        elim (cases_lt k i) [
          | inl more ↦ let over = last.beyond i more inside in absurd (omega arith)
          | inr less ↦ less
        ]

    at_root : node 0 ≡ 0
    at_root = ap (λ w. w.node) is.way.root

    -- a node before a later one has another number: their handles have other lengths
    node_behind : (i j : ℕ) → 0 < i → i < j → j < length nodes → node i ≡ node j → ⊥
    node_behind i j some less inside same =
        let one = is.way.handles i some (omega arith) in
        let two = is.way.handles j (omega arith) inside in
        let e = ap (λ v. length (handle_of es (extent_at es v))) same in
        let more = longer i j less inside in
        omega arith

    -- ---- the deepest node

    module _ (k : ℕ) (last : IsLast shared k) (t : ℕ) (deepest : IsDeepest es x t) where
      -- the last node is above where the search ends
      over_end : 0 < k → begins_with (extent_at es t) (extent_at es (node k)) ≡ true
      over_end some =
          deepest.deepest (node k) (is.way.inner k some last.inside) (is.way.inside k last.inside) (is.begins k some last.inside last.short)

      at_start : t ≡ 0 → node k ≡ t
      at_start zero' =
          elim (cases_eq k 0) [
            | inl first ↦ ap node first ∙ at_root ∙ sym zero'
            | inr differ ↦
                let some : 0 < k = omega arith in
                let size = begins_length (extent_at es t) (extent_at es (node k)) (over_end some) in
                let less = root_shorter (node k) (is.way.inner k some last.inside) (is.way.inside k last.inside) in
                let e = ap (λ v. length (extent_at es v)) zero' in
                absurd (omega arith)
          ]

      -- were a node before the last the end of the search, then both would have one extent
      before_last : (i : ℕ) → 0 < i → i < k → node i ≡ t → ⊥
      before_last i some less same =
          let inside : i < length nodes = let l = last.inside in omega arith in
          let e = extent_at es t in
          let f = extent_at es (node k) in
          let positive : 0 < t = subst (λ (v : ℕ). 0 < v) same (is.way.inner i some inside) in
          let parent = parent_at t positive deepest.inside in
          let more = longer i k less last.inside in
          let short = last.short in
          let own : begins_with x (handle_of es e) ≡ true = subst (λ (v : ℕ). begins_with x (handle_of es (extent_at es v)) ≡ true) same (is.begins i some inside (omega arith)) in
          let size : handle i ≡ length (handle_of es e) = is.way.handles i some inside ∙ ap (λ v. length (handle_of es (extent_at es v))) same in
          let size' = is.way.handles k (omega arith) last.inside in
          let inner = begins_shorter x (handle_of es e) (handle_of es f) own (is.begins k (omega arith) last.inside short) (omega arith) in
          let f_h = begins_trans f (handle_of es f) (handle_of es e) (handle_begins es f) inner in
          let f_e = begins_from_handle es e f parent (trie.closed e f (in_at es t deepest.inside) (in_at es (node k) (is.way.inside k last.inside))) f_h in
          let whole : f ≡ e = begins_both f e f_e (over_end (omega arith)) in
          let lengths = ap (λ g. length (handle_of es g)) whole in
          omega arith

      last_is_end : node k ≡ t
      last_is_end =
          elim (cases_eq t 0) [
            | inl zero' ↦ at_start zero'
            | inr differ ↦
                elim deepest.handled [
                  | inl zero' ↦ at_start zero'
                  | inr begins ↦
                      let found = is.whole t (omega arith) deepest.inside begins in
                      let i = found.0 in
                      let some : 0 < i = found.1 in
                      let inside : i < length nodes = found.2 in
                      let same : node i ≡ t = found.3 in
                      let short : handle i ≤ shared = found.4 in
                      let near = no_later shared k last i inside short in
                      elim (cases_eq i k) [
                        | inl here ↦ subst (λ (j : ℕ). node j ≡ t) here same
                        | inr before ↦ absurd (before_last i some (omega arith) same)
                      ]
                ]
          ]

    pub deepest_on_way : (k : ℕ) → IsLast shared k → node k ≡ (true_search_of es x).node
    deepest_on_way k last =
        last_is_end k last (true_search_of es x).node (true_search_lem es trie (let i = is.way.inside 0 is.way.some in omega arith) x)

    -- where the search ends is on the way
    pub end_on_way : (i : ℕ) × (i < length nodes) × (node i ≡ (true_search_of es x).node)
    end_on_way =
        let first = is.way.some in
        let root_in = is.way.inside 0 first in
        let t = (true_search_of es x).node in
        let deepest = true_search_lem es trie (omega arith) x in
        let at_first : t ≡ 0 → (i : ℕ) × (i < length nodes) × (node i ≡ t) = λ zero'. (0, first, at_root ∙ sym zero') in
        elim (cases_eq t 0) [
          | inl zero' ↦ at_first zero'
          | inr differ ↦
              elim deepest.handled [
                | inl zero' ↦ at_first zero'
                | inr begins ↦ let there = is.whole t (omega arith) deepest.inside begins in (there.0, there.2, there.3)
              ]
        ]

    -- ---- the node of a handle

    module _ (len : ℕ) (fits : len ≤ length x) where
      -- it stands on the way
      pub record IsNamed (w i : ℕ) : Type 0 where
        pub some : 0 < i
        pub inside : i < length nodes
        pub node_is : node i ≡ w
        pub handle_is : handle i ≡ len
        pub within : len ≤ shared

      on_way : (w : ℕ) → handle_node (handles_of es) (take len x) ≡ Some w → (i : ℕ) × IsNamed w i
      on_way w h =
          let found = named es trie (take len x) w h in
          let own = found.2 in
          let begins : begins_with x (handle_of es (extent_at es w)) ≡ true = subst (λ (y : Bits). begins_with x y ≡ true) (sym own) (begins_take len x) in
          let there = is.whole w found.0 found.1 begins in
          let i = there.0 in
          let some : 0 < i = there.1 in
          let inside : i < length nodes = there.2 in
          let same : node i ≡ w = there.3 in
          let short : handle i ≤ shared = there.4 in
          let size : handle i ≡ length (handle_of es (extent_at es w)) = is.way.handles i some inside ∙ ap (λ v. length (handle_of es (extent_at es v))) same in
          let many : length (handle_of es (extent_at es w)) ≡ len = ap length own ∙ length-take-le len x fits in
          (i, record { some = some; inside = inside; node_is = same; handle_is = size ∙ many; within = omega arith })

      none_from : (o : Option ℕ) → handle_node (handles_of es) (take len x) ≡ o → ((w i : ℕ) → IsNamed w i → ⊥) → None ≡ o
      none_from None e not = refl
      none_from (Some w) e not = let there = on_way w e in absurd (not w there.0 there.1)

      pub none_beyond : shared < len → None ≡ handle_node (handles_of es) (take len x)
      none_beyond more =
          none_from (handle_node (handles_of es) (take len x)) refl (λ w i named. let within = named.within in omega arith)

      module _ (k : ℕ) (last : IsLast len k) where
        last_is : (w i : ℕ) → IsNamed w i → i ≡ k
        last_is w i named =
            let size = named.handle_is in
            let near = no_later len k last i named.inside (omega arith) in
            let short = last.short in
            elim (cases_eq i k) [
              | inl here ↦ here
              | inr before ↦ let more = longer i k (omega arith) last.inside in absurd (omega arith)
            ]

        pub none_handled : ((0 < node k) → handle k ≡ len → ⊥) → None ≡ handle_node (handles_of es) (take len x)
        none_handled not =
            none_from (handle_node (handles_of es) (take len x)) refl (λ w i named.
            let here = last_is w i named in
            let size : handle k ≡ len = subst (λ (j : ℕ). handle j ≡ len) here named.handle_is in
            let some : 0 < node k = subst (λ (j : ℕ). 0 < node j) here (is.way.inner i named.some named.inside) in
            not some size)

        module _ (some : 0 < node k) (size : handle k ≡ len) (within : len ≤ shared) where
          behind_root : 0 < k
          behind_root =
              elim (cases_eq k 0) [
                | inl first ↦ let e = ap node first in let r = at_root in absurd (omega arith)
                | inr differ ↦ omega arith
              ]

          own_handle : handle_of es (extent_at es (node k)) ≡ take len x
          own_handle =
              let h = handle_of es (extent_at es (node k)) in
              let many = is.way.handles k behind_root last.inside in
              let begins = is.begins k behind_root last.inside (omega arith) in
              let front = take_of_begins x h len begins (omega arith) in
              let whole = begins_whole h (take len h) (begins_take len h) (let s = length-take-le len h (omega arith) in omega arith) in
              sym (front ∙ whole)

          some_from : (o : Option ℕ) → handle_node (handles_of es) (take len x) ≡ o → Some (node k) ≡ o
          some_from None e = absurd (missing es (take len x) e (node k) some (is.way.inside k last.inside) own_handle)
          some_from (Some w) e =
              let there = on_way w e in
              let here = last_is w there.0 there.1 in
              ap Some (ap node (sym here) ∙ there.1.node_is)

          pub some_handled : Some (node k) ≡ handle_node (handles_of es) (take len x)
          some_handled = some_from (handle_node (handles_of es) (take len x)) refl

-- One edge of those left is taken.
use Rattle.std.proofs.Common.{◌≡◌, ℕ, zero, suc, ◌+◌, ◌<◌, Bool, true, false, cond, List, [], ◌∷◌, ◌++◌, length, refl, sym, ap, subst, ◌∙◌, arith, inl, inr, Some, None, Option}
use Rattle.std.specs.Prelude.{◌==◌, ◌||◌, slice_get, IsSomeAnd}
use Rattle.std.specs.List.{cons_option}
use Rattle.std.proofs.lemmas.Bool.Decides.{Decides-eqb}
use Rattle.std.proofs.lemmas.List.{length_push, length-append, map_push}
use Rattle.std.proofs.lemmas.List.Elements.{filter_map-append}
use Rattle.std.proofs.lemmas.List.Sums.{sum_by-append, sum_by-cons}
use Rattle.sx_spec_strings.proofs.Lists.{all_without}
use Rattle.sx_spec.specs.declared.Edge.{Edge}
use Rattle.sx_spec.specs.Systems.{count_of, chosen, degree, has_vertex}
use Rattle.sx_spec.proofs.Counts.{front_cases}
use Rattle.sx_peel.specs.declared.Taken.{Taken}
use Rattle.sx_peel.specs.Peeling.{vertex_in, taken_edges}
use Rattle.sx_peel.specs.UnderWay.{degree_among, AreFreeBefore, IsBetween}
use Rattle.sx_peel.proofs.Numbers.{count_of-append, count_of_middle, rising_without}

-- ---- degrees among some of the edges

pub degree_among-append : (edges : List Edge) (v : ℕ) (xs ys : List ℕ) → degree_among edges v (xs ++ ys) ≡ degree_among edges v xs + degree_among edges v ys
degree_among-append edges v xs ys =
    ap (degree v) (filter_map-append (slice_get edges) xs ys)
    ∙ sum_by-append (λ e. cond (has_vertex v e) 1 0) (chosen edges xs) (chosen edges ys)

pub degree_among-cons : (edges : List Edge) (v i : ℕ) (e : Edge) (ys : List ℕ) → slice_get edges i ≡ Some e → degree_among edges v (i ∷ ys) ≡ cond (has_vertex v e) 1 0 + degree_among edges v ys
degree_among-cons edges v i e ys at =
    ap (λ o. degree v (cons_option o (chosen edges ys))) at
    ∙ sum_by-cons (λ d. cond (has_vertex v d) 1 0) e (chosen edges ys)

pub degree_among_middle : (edges : List Edge) (v i : ℕ) (e : Edge) (xs ys : List ℕ) → slice_get edges i ≡ Some e
    → degree_among edges v (xs ++ i ∷ ys) ≡ cond (has_vertex v e) 1 0 + degree_among edges v (xs ++ ys)
degree_among_middle edges v i e xs ys at =
    let whole = degree_among-append edges v xs (i ∷ ys) in
    let without = degree_among-append edges v xs ys in
    let front = degree_among-cons edges v i e ys at in
    omega arith

same_number : (n : ℕ) → (n == n) ≡ true
same_number n = (Decides-eqb n n).1 refl

-- the vertex in a slot lies on the edge
pub vertex_lies_on : (e : Edge) (slot : ℕ) → has_vertex (vertex_in e slot) e ≡ true
vertex_lies_on e zero = simp same_number
vertex_lies_on e (suc zero) = or_true_middle (e.a == e.b) (e.b == e.b) (e.c == e.b) (same_number e.b)
  where
    or_true_middle : (p q r : Bool) → q ≡ true → (p || (q || r)) ≡ true
    or_true_middle true q r h = refl
    or_true_middle false true r h = refl
    or_true_middle false false r h = absurd cc
vertex_lies_on e (suc (suc n)) = or_true_last (e.a == e.c) (e.b == e.c) (e.c == e.c) (same_number e.c)
  where
    or_true_last : (p q r : Bool) → r ≡ true → (p || (q || r)) ≡ true
    or_true_last true q r h = refl
    or_true_last false true r h = refl
    or_true_last false false r h = h

-- what is true counts once
one_where : (b : Bool) → b ≡ true → ◌≡◌ {A = ℕ} (cond b 1 0) 1
one_where true h = refl
one_where false h = absurd cc

-- an edge that is left counts on its vertices
pub degree_of_left : (edges : List Edge) (v i : ℕ) (e : Edge) (left : List ℕ) → has_vertex v e ≡ true → slice_get edges i ≡ Some e → 0 < count_of i left → 0 < degree_among edges v left
degree_of_left edges v i e [] on at counted = absurd (omega arith)
degree_of_left edges v i e (j ∷ left) on at counted =
    elim (front_cases i j left) [
      | inl here ↦
          let at_j : slice_get edges j ≡ Some e = subst (λ k. slice_get edges k ≡ Some e) (sym here.0) at in
          let split = degree_among-cons edges v j e left at_j in
          let one = one_where (has_vertex v e) on in
          omega arith
      | inr later ↦
          let rest = degree_of_left edges v i e left on at (omega arith) in
          elim (slice_get edges j) as (λ o. slice_get edges j ≡ o → 0 < degree v (cons_option o (chosen edges left))) [
            | None ↦ λ at_j. rest
            | Some d ↦ λ at_j.
                let split = degree_among-cons edges v j d left at_j in
                subst (λ o. 0 < degree v (cons_option o (chosen edges left))) at_j (omega arith)
          ] refl
    ]

-- ---- an edge is taken

some_and_weaker : {X : Type 0} (P Q : X → Type 0) (o : Option X) → ((x : X) → P x → Q x) → IsSomeAnd o P → IsSomeAnd o Q
some_and_weaker P Q None weaker h = h
some_and_weaker P Q (Some x) weaker h = weaker x h

pub free_push : (edges : List Edge) (order : List Taken) (t : Taken) (e : Edge) (xs ys : List ℕ)
    → slice_get edges t.edge ≡ Some e → t.slot < 3 → degree_among edges (vertex_in e t.slot) (xs ++ ys) ≡ 0
    → AreFreeBefore edges order (xs ++ t.edge ∷ ys) → AreFreeBefore edges (order ++ t ∷ []) (xs ++ ys)
free_push edges [] t e xs ys at slot none free =
    let now : IsSomeAnd (Some e) (λ d. degree_among edges (vertex_in d t.slot) [] + degree_among edges (vertex_in d t.slot) (xs ++ ys) ≡ 0) = omega arith in
    (slot, subst (λ o. IsSomeAnd o (λ d. degree_among edges (vertex_in d t.slot) [] + degree_among edges (vertex_in d t.slot) (xs ++ ys) ≡ 0)) (sym at) now, tt)
free_push edges (u ∷ later) t e xs ys at slot none free = (
  free.0,
  some_and_weaker
      (λ d. degree_among edges (vertex_in d u.slot) (taken_edges later) + degree_among edges (vertex_in d u.slot) (xs ++ t.edge ∷ ys) ≡ 0)
      (λ d. degree_among edges (vertex_in d u.slot) (taken_edges (later ++ t ∷ [])) + degree_among edges (vertex_in d u.slot) (xs ++ ys) ≡ 0)
      (slice_get edges u.edge) (λ d h. moved (vertex_in d u.slot) h) free.1,
  free_push edges later t e xs ys at slot none free.2,
)
  where
    moved : (v : ℕ) → degree_among edges v (taken_edges later) + degree_among edges v (xs ++ t.edge ∷ ys) ≡ 0
        → degree_among edges v (taken_edges (later ++ t ∷ [])) + degree_among edges v (xs ++ ys) ≡ 0
    moved v h =
        let pushed : degree_among edges v (taken_edges (later ++ t ∷ [])) ≡ degree_among edges v (taken_edges later ++ t.edge ∷ []) =
        ap (degree_among edges v) (map_push (λ (w : Taken). w.edge) later t) in
        let split = degree_among-append edges v (taken_edges later) (t.edge ∷ []) in
        let one = degree_among-cons edges v t.edge e [] at in
        let middle = degree_among_middle edges v t.edge e xs ys at in
        omega arith

pub between_take : (edges : List Edge) (order : List Taken) (t : Taken) (e : Edge) (xs ys : List ℕ)
    → slice_get edges t.edge ≡ Some e → t.slot < 3
    → degree_among edges (vertex_in e t.slot) (xs ++ t.edge ∷ ys) ≡ 1
    → IsBetween edges order (xs ++ t.edge ∷ ys) → IsBetween edges (order ++ t ∷ []) (xs ++ ys)
between_take edges order t e xs ys at slot single between = record {
  each = λ i h.
      let before = between.each i h in
      let middle = count_of_middle i t.edge xs ys in
      let pushed : count_of i (taken_edges (order ++ t ∷ [])) ≡ count_of i (taken_edges order ++ t.edge ∷ []) =
      ap (count_of i) (map_push (λ (w : Taken). w.edge) order t) in
      let split = count_of-append i (taken_edges order) (t.edge ∷ []) in
      let one : count_of i (t.edge ∷ []) ≡ cond (t.edge == i) 1 0 + count_of i [] = sum_by-cons (λ y. cond (y == i) 1 0) t.edge [] in
      omega arith;
  many =
      let before = between.many in
      let whole = length-append xs (t.edge ∷ ys) in
      let without = length-append xs ys in
      let pushed = length_push order t in
      omega arith;
  within = all_without (λ i. i < length edges) xs t.edge ys between.within;
  rising = rising_without xs t.edge ys between.rising;
  free = free_push edges order t e xs ys at slot
      (let v = vertex_in e t.slot in
      let middle = degree_among_middle edges v t.edge e xs ys at in
      let on = one_where (has_vertex v e) (vertex_lies_on e t.slot) in
      omega arith) between.free;
}

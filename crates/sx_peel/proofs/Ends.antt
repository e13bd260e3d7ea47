-- How peeling begins and ends.
use Rattle.std.proofs.Common.{◌≡◌, ◌≢◌, ℕ, zero, suc, ◌+◌, ◌<◌, ◌≤◌, true, List, [], ◌∷◌, length, refl, ap, subst, arith, inl, inr, Some, None, Option}
use Rattle.std.specs.Prelude.{slice_get, IsSomeAnd, Contains}
use Rattle.std.specs.List.{AllByRecursion, cons_option, range_with_len}
use Rattle.std.proofs.lemmas.List.{length-map, nil_from_length}
use Rattle.std.proofs.lemmas.List.FromFn.{length-range_with_len}
use Rattle.sx_spec_strings.proofs.Lists.{range_rising}
use Rattle.sx_spec.specs.declared.Edge.{Edge}
use Rattle.sx_spec.specs.Systems.{count_of, chosen, degree, has_vertex, vertices, IsCore, IsPeeling}
use Rattle.sx_spec.proofs.Counts.{front_cases}
use Rattle.sx_peel.specs.declared.Taken.{Taken}
use Rattle.sx_peel.specs.Peeling.{vertex_in, taken_edges, AreFree, IsTakenOrder}
use Rattle.sx_peel.specs.UnderWay.{degree_among, AreFreeBefore, IsBetween}
use Rattle.sx_peel.proofs.Numbers.{counted_contains, range_once, range_within}
use Rattle.sx_peel.proofs.Between.{degree_of_left, vertex_lies_on}

-- ---- the beginning

pub all_left : (edges : List Edge) → IsBetween edges [] (range_with_len 0 (length edges))
all_left edges = record {
  each = λ i h. let once = range_once 0 (length edges) i (omega arith) (omega arith) in omega arith;
  many = let n = length-range_with_len 0 (length edges) in omega arith;
  within = range_within 0 (length edges) (length edges) (omega arith);
  rising = range_rising 0 (length edges);
  free = tt;
}

-- ---- all are taken

free_at_end : (edges : List Edge) (order : List Taken) → AreFreeBefore edges order [] → AreFree edges order
free_at_end edges [] free = tt
free_at_end edges (t ∷ later) free = (free.0, here (slice_get edges t.edge) free.1, free_at_end edges later free.2)
  where
    here : (o : Option Edge)
        → IsSomeAnd o (λ e. degree_among edges (vertex_in e t.slot) (taken_edges later) + degree_among edges (vertex_in e t.slot) [] ≡ 0)
        → IsSomeAnd o (λ e. degree (vertex_in e t.slot) (chosen edges (taken_edges later)) ≡ 0)
    here None h = h
    here (Some e) h = omega arith

vertex_contained : (e : Edge) (slot : ℕ) → Contains (vertices e) (vertex_in e slot)
vertex_contained e zero = (0, omega arith, refl)
vertex_contained e (suc zero) = (1, omega arith, refl)
vertex_contained e (suc (suc n)) = (2, omega arith, refl)

free_peels : (edges : List Edge) (order : List Taken) → AreFree edges order → IsPeeling (chosen edges (taken_edges order))
free_peels edges [] free = tt
free_peels edges (t ∷ later) free = here (slice_get edges t.edge) free.1 (free_peels edges later free.2)
  where
    here : (o : Option Edge) → IsSomeAnd o (λ e. degree (vertex_in e t.slot) (chosen edges (taken_edges later)) ≡ 0)
        → IsPeeling (chosen edges (taken_edges later)) → IsPeeling (cons_option o (chosen edges (taken_edges later)))
    here None h rest = absurd h
    here (Some e) h rest = ((vertex_in e t.slot, vertex_contained e t.slot, h), rest)

pub taken_whole : (edges : List Edge) (order : List Taken) (left : List ℕ) → length left ≡ 0
    → IsBetween edges order left → IsTakenOrder edges order
taken_whole edges order left none between =
    let empty : left ≡ [] = nil_from_length left none in
    let free : AreFree edges order = free_at_end edges order (subst (AreFreeBefore edges order) empty between.free) in
    record {
      order = record {
        each = record {
          as_many = let e = length-map order (λ (t : Taken). t.edge) in let m = between.many in omega arith;
          each = λ i h.
              let one = between.each i h in
              let gone : count_of i left ≡ 0 = ap (count_of i) empty in
              counted_contains (taken_edges order) i (omega arith);
        };
        peels = free_peels edges order free;
      };
      free = free;
    }

-- ---- a core is left

chosen_each : {X : Type 0} (P : X → Type 0) (xs : List X) (is : List ℕ) → ((i : ℕ) (x : X) → 0 < count_of i is → slice_get xs i ≡ Some x → P x) → AllByRecursion P (chosen xs is)
chosen_each P xs [] each = tt
chosen_each P xs (i ∷ is) each =
    let rest : AllByRecursion P (chosen xs is) =
    chosen_each P xs is (λ j x counted at. each j x (elim (front_cases j i is) [ inl here ↦ omega arith | inr later ↦ omega arith ]) at) in
    elim (slice_get xs i) as (λ o. slice_get xs i ≡ o → AllByRecursion P (cons_option o (chosen xs is))) [
      | None ↦ λ e. rest
      | Some x ↦ λ e. (each i x (elim (front_cases i i is) [ inl here ↦ omega arith | inr later ↦ absurd (later.0 refl) ]) e, rest)
    ] refl

-- no vertex of the edge lies on one edge alone of those left
abbrev pub HasNoSingle : List Edge → List ℕ → Edge → Type 0
HasNoSingle edges left e = AllByRecursion (λ v. degree_among edges v left ≢ 1) (vertices e)

module _ (edges : List Edge) (order : List Taken) (left : List ℕ) (between : IsBetween edges order left) where
  crowded : (v i : ℕ) (e : Edge) → 0 < count_of i left → slice_get edges i ≡ Some e → has_vertex v e ≡ true → degree_among edges v left ≢ 1 → 2 ≤ degree_among edges v left
  crowded v i e counted at on differs =
      let some = degree_of_left edges v i e left on at counted in
      omega arith

  crowded_edge : (i : ℕ) (e : Edge) → 0 < count_of i left → slice_get edges i ≡ Some e → HasNoSingle edges left e → AllByRecursion (λ v. 2 ≤ degree v (chosen edges left)) (vertices e)
  crowded_edge i e counted at none = (
    crowded e.a i e counted at (vertex_lies_on e 0) none.0,
    (crowded e.b i e counted at (vertex_lies_on e 1) none.1.0, (crowded e.c i e counted at (vertex_lies_on e 2) none.1.1.0, tt)),
  )

  pub core_left : 0 < length left → ((i : ℕ) (e : Edge) → 0 < count_of i left → slice_get edges i ≡ Some e → HasNoSingle edges left e) → IsCore edges left
  core_left some none = record {
    set = record { rising = between.rising; within = between.within; nonempty = some };
    core = chosen_each (λ e. AllByRecursion (λ v. 2 ≤ degree v (chosen edges left)) (vertices e)) edges left
        (λ i e counted at. crowded_edge i e counted at (none i e counted at));
  }

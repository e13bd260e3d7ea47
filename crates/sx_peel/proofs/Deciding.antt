-- Edges are peeled by some order or have a core: while an edge has a vertex of its own it is taken, and what is left in the end is a core.
use Rattle.std.proofs.Common.{◌≡◌, ℕ, zero, suc, ◌<◌, ◌≤◌, List, [], ◌∷◌, ◌++◌, length, refl, sym, ap, subst, arith, inl, inr, ◌⊎◌, Some}
use Rattle.std.specs.Prelude.{slice_get, IsSomeAnd}
use Rattle.std.specs.List.{AllByRecursion, range_with_len}
use Rattle.std.proofs.lemmas.Bool.{cases_eq}
use Rattle.std.proofs.lemmas.List.{length-append}
use Rattle.sx_spec.specs.declared.Edge.{Edge}
use Rattle.sx_spec.specs.Systems.{IsPeelable}
use Rattle.sx_spec.proofs.Cores.{cores_refute_peeling}
use Rattle.sx_spec.proofs.Counts.{all_counted, at_index}
use Rattle.sx_peel.specs.declared.Taken.{Taken}
use Rattle.sx_peel.specs.Law.{HasCore, EdgesPeelOrHaveCore}
use Rattle.sx_peel.specs.Peeling.{vertex_in, taken_edges}
use Rattle.sx_peel.specs.UnderWay.{degree_among, IsBetween}
use Rattle.sx_peel.proofs.Between.{between_take}
use Rattle.sx_peel.proofs.Ends.{HasNoSingle, all_left, taken_whole, core_left}

-- an edge among the numbers with a vertex that lies on one alone of those left
record Leaf (edges : List Edge) (left rest : List ℕ) : Type 0 where
  xs : List ℕ
  ys : List ℕ
  taken : Taken
  e : Edge
  same : rest ≡ xs ++ taken.edge ∷ ys
  at : slice_get edges taken.edge ≡ Some e
  fits : taken.slot < 3
  single : degree_among edges (vertex_in e taken.slot) left ≡ 1

-- no vertex of the edge of this number lies on one edge alone of those left
abbrev IsKept : List Edge → List ℕ → ℕ → Type 0
IsKept edges left i = IsSomeAnd (slice_get edges i) (HasNoSingle edges left)

single_or_none : (edges : List Edge) (left : List ℕ) (e : Edge) → ((slot : ℕ) × (slot < 3) × (degree_among edges (vertex_in e slot) left ≡ 1)) ⊎ HasNoSingle edges left e
single_or_none edges left e =
    elim (cases_eq (degree_among edges e.a left) 1) [
      | inl a ↦ inl (0, omega arith, a)
      | inr not_a ↦ elim (cases_eq (degree_among edges e.b left) 1) [
        | inl b ↦ inl (1, omega arith, b)
        | inr not_b ↦ elim (cases_eq (degree_among edges e.c left) 1) [
          | inl c ↦ inl (2, omega arith, c)
          | inr not_c ↦ inr (not_a, (not_b, (not_c, tt)))
        ]
      ]
    ]

find_leaf : (edges : List Edge) (left rest : List ℕ) → AllByRecursion (λ i. i < length edges) rest → Leaf edges left rest ⊎ AllByRecursion (IsKept edges left) rest
find_leaf edges left [] within = inr tt
find_leaf edges left (i ∷ rest) within =
    let (e, at) = at_index edges i within.0 in
    elim (single_or_none edges left e) [
      | inl leaf ↦ inl (record { xs = []; ys = rest; taken = record { edge = i; slot = leaf.0 }; e = e; same = refl; at = at; fits = leaf.1; single = leaf.2 })
      | inr none ↦ elim (find_leaf edges left rest within.1) [
        | inl leaf ↦ inl (record {
          xs = i ∷ leaf.xs;
          ys = leaf.ys;
          taken = leaf.taken;
          e = leaf.e;
          same = ap (λ ns. i ∷ ns) leaf.same;
          at = leaf.at;
          fits = leaf.fits;
          single = leaf.single;
        })
        | inr kept ↦ inr (subst (λ o. IsSomeAnd o (HasNoSingle edges left)) (sym at) none, kept)
      ]
    ]

-- an edge less is left
leaf_taken : (edges : List Edge) (order : List Taken) (left : List ℕ) (leaf : Leaf edges left left)
    → IsBetween edges order left → IsBetween edges (order ++ leaf.taken ∷ []) (leaf.xs ++ leaf.ys)
leaf_taken edges order left leaf between =
    between_take edges order leaf.taken leaf.e leaf.xs leaf.ys leaf.at leaf.fits
    (subst (λ ns. degree_among edges (vertex_in leaf.e leaf.taken.slot) ns ≡ 1) leaf.same leaf.single)
    (subst (IsBetween edges order) leaf.same between)

decided : (edges : List Edge) (n : ℕ) (order : List Taken) (left : List ℕ) → length left ≤ n → IsBetween edges order left → IsPeelable edges ⊎ HasCore edges
decided edges n order [] few between = inl (taken_edges order, (taken_whole edges order [] refl between).order)
decided edges zero order (i ∷ left) few between = absurd (omega arith)
decided edges (suc n) order (i ∷ left) few between =
    elim (find_leaf edges (i ∷ left) (i ∷ left) between.within) [
      | inl leaf ↦
          let shorter : length (leaf.xs ++ leaf.ys) ≤ n =
          (let whole = length-append leaf.xs (leaf.taken.edge ∷ leaf.ys) in let without = length-append leaf.xs leaf.ys in let same = ap length leaf.same in omega arith) in
          decided edges n (order ++ leaf.taken ∷ []) (leaf.xs ++ leaf.ys) shorter (leaf_taken edges order (i ∷ left) leaf between)
      | inr kept ↦ inr (
        i ∷ left,
        core_left edges order (i ∷ left) between (omega arith)
            (λ j e counted at. subst (λ o. IsSomeAnd o (HasNoSingle edges (i ∷ left))) at (all_counted (IsKept edges (i ∷ left)) (i ∷ left) j kept counted)),
      )
    ]

pub edges_peel_or_have_core : EdgesPeelOrHaveCore
edges_peel_or_have_core bound edges within =
    let left = range_with_len 0 (length edges) in (
      decided edges (length left) [] left (omega arith) (all_left edges),
      λ peelable (numbers, core). cores_refute_peeling edges numbers core peelable,
    )

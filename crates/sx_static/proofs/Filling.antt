-- Cells are set from the end of the order: a cell that no later edge has leaves the later edges met.
use Rattle.std.proofs.Common.{◌≡◌, ◌≢◌, ℕ, zero, suc, ◌+◌, ◌<◌, Bool, true, false, cond, List, [], ◌∷◌, length, get_or, drop, map, refl, sym, subst, ◌∙◌, arith, Some, None}
use Rattle.std.specs.Prelude.{◌==◌, ◌||◌, slice_get, slice_index, IsSomeAnd}
use Rattle.std.specs.List.{AllByRecursion, cons_option}
use Rattle.std.proofs.lemmas.Bool.Decides.{Decides-eqb}
use Rattle.std.proofs.lemmas.List.{drop_more}
use Rattle.std.proofs.lemmas.List.Sums.{sum_by-cons}
use Rattle.std.proofs.lemmas.Option.{slice_get-get_or, slice_get_within}
use Rattle.std.proofs.lemmas.Bool.{or_parts}
use Rattle.sx_spec.specs.declared.Edge.{Edge}
use Rattle.sx_spec.specs.Systems.{chosen, degree, has_vertex, cells_at}
use Rattle.sx_spec.proofs.Counts.{all_counted, contains_counted}
use Rattle.sx_peel.specs.declared.Taken.{Taken}
use Rattle.sx_peel.specs.Peeling.{vertex_in, taken_edges, AreFree, IsTakenOrder}
use Rattle.sx_static.specs.Solving.{IsMet, AreMet}

-- ---- the order from a place on

free_drop : (edges : List Edge) (order : List Taken) (i : ℕ) → AreFree edges order → AreFree edges (drop i order)
free_drop edges order zero free = free
free_drop edges [] (suc i) free = tt
free_drop edges (t ∷ later) (suc i) free = free_drop edges later i free.2

pub free_at : (edges : List Edge) (order : List Taken) (i : ℕ) (d : Taken) → i < length order → AreFree edges order
    → AreFree edges (get_or order i d ∷ drop (i + 1) order)
free_at edges order i d inside free = subst (AreFree edges) (drop_more order i d inside) (free_drop edges order i free)

pub some_below : {X : Type 0} (P : X → Type 0) (xs : List X) (k : ℕ) → IsSomeAnd (slice_get xs k) P → k < length xs
some_below P xs k h = elim (slice_get xs k) as (λ o. slice_get xs k ≡ o → IsSomeAnd o P → k < length xs) [
  | None ↦ λ at none. absurd none
  | Some x ↦ λ at some. slice_get_within xs k x at
] refl h

-- the number of an edge that was taken is in range
pub taken_below : (edges : List Edge) (order : List Taken) (i : ℕ) (d : Taken) → i < length order → AreFree edges order → (get_or order i d).edge < length edges
taken_below edges order i d inside free =
    let t = get_or order i d in
    let here = free_at edges order i d inside free in
    some_below (λ e. degree (vertex_in e t.slot) (chosen edges (taken_edges (drop (i + 1) order))) ≡ 0) edges t.edge here.1

-- ---- edges off a vertex

differs : (m n : ℕ) → (m == n) ≡ false → m ≢ n
differs m n h same = absurd (let t : (m == n) ≡ true = (Decides-eqb m n).1 same in cc)

same_cells : (cells changed : List ℕ) (v : ℕ) (e : Edge) → ((w : ℕ) → w ≢ v → slice_index changed w ≡ slice_index cells w)
    → has_vertex v e ≡ false → cells_at changed e ≡ cells_at cells e
same_cells cells changed v e others off =
    let (a, rest) = or_parts (e.a == v) (e.b == v || e.c == v) off in
    let (b, c) = or_parts (e.b == v) (e.c == v) rest in
    let at_a = others e.a (differs e.a v a) in
    let at_b = others e.b (differs e.b v b) in
    let at_c = others e.c (differs e.c v c) in
    cc

off_where_none : (b : Bool) (n : ℕ) → cond b 1 0 + n ≡ 0 → b ≡ false
off_where_none true n h = absurd (omega arith)
off_where_none false n h = refl

later_met : (edges : List Edge) (values cells changed : List ℕ) (v : ℕ) → ((w : ℕ) → w ≢ v → slice_index changed w ≡ slice_index cells w)
    → (later : List Taken) → degree v (chosen edges (taken_edges later)) ≡ 0 → AreMet edges values cells later → AreMet edges values changed later
later_met edges values cells changed v others [] none met = tt
later_met edges values cells changed v others (t ∷ later) none met =
    elim (slice_get edges t.edge) as (λ o. degree v (cons_option o (chosen edges (taken_edges later))) ≡ 0
    → IsSomeAnd o (λ e. cells_at cells e ≡ slice_index values t.edge)
    → IsSomeAnd o (λ e. cells_at changed e ≡ slice_index values t.edge) × AreMet edges values changed later) [
      | None ↦ λ none h. absurd h
      | Some e ↦ λ none h.
          let rest = chosen edges (taken_edges later) in
          let split : degree v (e ∷ rest) ≡ cond (has_vertex v e) 1 0 + degree v rest = sum_by-cons (λ d. cond (has_vertex v d) 1 0) e rest in
          let off = off_where_none (has_vertex v e) (degree v rest) (sym split ∙ none) in
          (same_cells cells changed v e others off ∙ h, later_met edges values cells changed v others later (omega arith) met.1)
    ] none met.0

-- ---- one edge more is met

pub one_more_met : (edges : List Edge) (values cells changed : List ℕ) (order : List Taken) (i : ℕ) (d : Taken) (f : Edge)
    → i < length order → AreFree edges order
    → ((w : ℕ) → w ≢ vertex_in (get_or edges (get_or order i d).edge f) (get_or order i d).slot → slice_index changed w ≡ slice_index cells w)
    → cells_at changed (get_or edges (get_or order i d).edge f) ≡ slice_index values (get_or order i d).edge
    → AreMet edges values cells (drop (i + 1) order) → AreMet edges values changed (drop i order)
one_more_met edges values cells changed order i d f inside free others met later =
    let t = get_or order i d in
    let e = get_or edges t.edge f in
    let here = free_at edges order i d inside free in
    let at : slice_get edges t.edge ≡ Some e = slice_get-get_or edges t.edge f (taken_below edges order i d inside free) in
    let none : degree (vertex_in e t.slot) (chosen edges (taken_edges (drop (i + 1) order))) ≡ 0 =
    subst (λ o. IsSomeAnd o (λ e. degree (vertex_in e t.slot) (chosen edges (taken_edges (drop (i + 1) order))) ≡ 0)) at here.1 in
    let met_here : IsMet edges values changed t.edge = subst (λ o. IsSomeAnd o (λ e. cells_at changed e ≡ slice_index values t.edge)) (sym at) met in
    let all : AreMet edges values changed (t ∷ drop (i + 1) order) =
    (met_here, later_met edges values cells changed (vertex_in e t.slot) others (drop (i + 1) order) none later) in
    subst (AreMet edges values changed) (sym (drop_more order i d inside)) all

-- ---- all are met

pub recursion_map : {X Y : Type 0} (f : X → Y) (P : Y → Type 0) (xs : List X) → AllByRecursion (λ x. P (f x)) xs → AllByRecursion P (map f xs)
recursion_map f P [] all = tt
recursion_map f P (x ∷ xs) all = (all.0, recursion_map f P xs all.1)

pub each_met : (edges : List Edge) (values cells : List ℕ) (order : List Taken) → IsTakenOrder edges order → AreMet edges values cells order
    → (i : ℕ) → i < length edges → IsMet edges values cells i
each_met edges values cells order whole met i inside =
    let (k, within, at) = whole.order.each.each i inside in
    all_counted (IsMet edges values cells) (taken_edges order) i
    (recursion_map (λ (t : Taken). t.edge) (IsMet edges values cells) order met)
    (contains_counted (taken_edges order) i k within at)

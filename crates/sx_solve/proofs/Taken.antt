-- A row more, and what the rows say in the end.
use Rattle.std.proofs.Common.{◌≡◌, ℕ, ◌+◌, ◌/◌, ◌^◌, ◌<◌, ◌≤◌, List, [], ◌∷◌, ◌++◌, length, get_or, take, refl, sym, subst, ◌∙◌, arith, All, inl, inr, Some}
use Rattle.std.specs.Prelude.{AllPairs, slice_get}
use Rattle.std.specs.List.{AllByRecursion}
use Rattle.std.proofs.lemmas.Bool.{cases_lt}
use Rattle.std.proofs.lemmas.List.{get_or_append_left, get_or_push, length_push, take_all}
use Rattle.std.proofs.lemmas.List.Elements.{All-push, All-more, recursion_from_All, All-from_recursion}
use Rattle.std.proofs.lemmas.Option.{slice_get-get_or}
use Rattle.sx_spec.specs.declared.Equation.{Equation}
use Rattle.sx_spec.specs.Systems.{unknowns, cells_at, Solves}
use Rattle.sx_solve.specs.declared.rows.Row.{Row}
use Rattle.sx_solve.specs.Solving.{IsEquationWithin, IsSolution}
use Rattle.sx_solve.specs.Rows.{bit, values, HasWords, IsRow, Meets, AreRows}
use Rattle.sx_solve.proofs.Marks.{xor_by_none, xor_by_below, times_by_past}
use Rattle.sx_solve.proofs.WordBits.{bit_small}

pairs_push : {X : Type 0} (R : X → X → Type 0) (xs : List X) (x : X) → AllPairs R xs → All (λ y. R y x) xs → AllPairs R (xs ++ x ∷ [])
pairs_push R xs x pairs all i j d order within =
    let size = length_push xs x in
    let at_i : get_or (xs ++ x ∷ []) i d ≡ get_or xs i d = get_or_append_left xs (x ∷ []) d i (omega arith) in
    elim (cases_lt j (length xs)) [
      | inl low ↦
          let at_j : get_or (xs ++ x ∷ []) j d ≡ get_or xs j d = get_or_append_left xs (x ∷ []) d j low in
          rw (at_i, at_j) (pairs i j d order low)
      | inr high ↦
          let last : j ≡ length xs = omega arith in
          let at_j : get_or (xs ++ x ∷ []) j d ≡ x = get_or_push xs x d j (sym last) in
          rw (at_i, at_j) (all i d (omega arith))
    ]

all_front : {X : Type 0} (P : X → Type 0) (xs : List X) (x : X) → All P (xs ++ x ∷ []) → All P xs
all_front P xs x all k d within =
    let size = length_push xs x in
    subst P (get_or_append_left xs (x ∷ []) d k within) (all k d (omega arith))

all_last : {X : Type 0} (P : X → Type 0) (xs : List X) (x : X) → All P (xs ++ x ∷ []) → P x
all_last P xs x all =
    let size = length_push xs x in
    subst P (get_or_push xs x x (length xs) refl) (all (length xs) x (omega arith))

solves_more : (cells : List ℕ) (equations : List Equation) (number : ℕ) (d : Equation) → number < length equations → Solves cells (take number equations)
    → cells_at cells (unknowns (get_or equations number d)) ≡ (get_or equations number d).value → Solves cells (take (number + 1) equations)
solves_more cells equations number d within before here =
    let IsMet : Equation → Type 0 = λ q. cells_at cells (unknowns q) ≡ q.value in
    recursion_from_All IsMet (take (number + 1) equations)
    (All-more IsMet equations number d within (All-from_recursion IsMet (take number equations) before) here)

module _ (bound : ℕ) (equations : List Equation) (number : ℕ) (rows : List Row) (row : Row) (are : AreRows bound equations number rows)
    (number_in : number < length equations)
    (meets : (cells : List ℕ) → bound ≤ length cells → All (Meets cells) rows → Meets cells row → (q : Equation) → slice_get equations number ≡ Some q → cells_at cells (unknowns q) ≡ q.value) where
  follows : (cells : List ℕ) → bound ≤ length cells → All (Meets cells) rows → Meets cells row → Solves cells (take (number + 1) equations)
  follows cells room all met =
      let d : Equation = record { a = 0; b = 0; c = 0; value = 0 } in
      solves_more cells equations number d number_in (are.follow cells room all)
      (meets cells room all met (get_or equations number d) (slice_get-get_or equations number d number_in))

  -- the row is added
  pub rows_push : (within : All (IsEquationWithin bound) equations) → HasWords (bound / 64 + 1) (length equations / 64 + 1) row → IsRow equations row
      → All (λ s. bit row.unknowns.items s.pivot ≡ 0) rows → bit row.unknowns.items row.pivot ≡ 1 → AreRows bound equations (number + 1) (rows ++ row ∷ [])
  rows_push within words sum cleared one = record {
    steps = record {
      own = All-push (λ r. bit r.unknowns.items r.pivot ≡ 1) rows row are.steps.own one;
      later = pairs_push (λ r s. bit s.unknowns.items r.pivot ≡ 0) rows row are.steps.later cleared;
    };
    pivots = All-push (λ r. r.pivot < bound) rows row are.pivots (elim (cases_lt row.pivot bound) [
      | inl low ↦ low
      | inr past ↦ absurd (let none = times_by_past (bit row.set.items) 0 equations bound row.pivot (recursion_from_All (IsEquationWithin bound) equations within) past in let b = sum.unknowns row.pivot in omega arith)
    ]);
    words = All-push (HasWords (bound / 64 + 1) (length equations / 64 + 1)) rows row are.words words;
    sums = All-push (IsRow equations) rows row are.sums sum;
    follow = λ cells room all. follows cells room (all_front (Meets cells) rows row all) (all_last (Meets cells) rows row all);
  }

  -- the row is 0 and follows from the others
  pub rows_stay : ((v : ℕ) → bit row.unknowns.items v ≡ 0) → row.value ≡ 0 → AreRows bound equations (number + 1) rows
  rows_stay none zero_value = record {
    steps = are.steps;
    pivots = are.pivots;
    words = are.words;
    sums = are.sums;
    follow = λ cells room all. follows cells room all (xor_by_none (bit row.unknowns.items) 0 cells (λ j h. none j) ∙ sym zero_value);
  }

-- ---- in the end

-- the value of a sum is below a power of two that each value is below
narrow_values : (k : ℕ) (equations : List Equation) → AllByRecursion (λ q. q.value < 2 ^ k) equations → AllByRecursion (λ x. x < 2 ^ k) (values equations)
narrow_values k [] all = tt
narrow_values k (q ∷ qs) all = (all.0, narrow_values k qs all.1)

pub narrow_rows : (k : ℕ) (equations : List Equation) (rows : List Row) → All (IsRow equations) rows → AllByRecursion (λ q. q.value < 2 ^ k) equations → All (λ r. r.value < 2 ^ k) rows
narrow_rows k equations rows sums narrow i d within =
    let r = get_or rows i d in
    rw (sums i d within).value (xor_by_below (bit r.set.items) (bit_small r.set.items) k 0 (values equations) (narrow_values k equations narrow))

pub solution : (bound : ℕ) (equations : List Equation) (rows : List Row) (cells : List ℕ) → AreRows bound equations (length equations) rows
    → length cells ≡ bound → All (Meets cells) rows → ((k : ℕ) → All (λ r. r.value < 2 ^ k) rows → All (λ x. x < 2 ^ k) cells) → IsSolution bound equations cells
solution bound equations rows cells are size met narrow = record {
  count = size;
  solves = subst (Solves cells) (take_all (length equations) equations (omega arith)) (are.follow cells (omega arith) met);
  narrow = λ k small. recursion_from_All (λ x. x < 2 ^ k) cells (narrow k (narrow_rows k equations rows are.sums small));
}

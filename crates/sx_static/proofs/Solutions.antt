-- What peeling and solving say of a try.
use Rattle.std.proofs.Common.{◌≡◌, ℕ, zero, suc, ◌+◌, ◌*◌, ◌<◌, ◌^◌, List, [], ◌∷◌, ◌++◌, length, map, sym, ap, subst, ◌∙◌, arith, add-one, add-zero}
use Rattle.std.specs.Prelude.{All}
use Rattle.std.specs.List.{AllByRecursion, AllZip, range_with_len}
use Rattle.std.proofs.lemmas.List.{length-map}
use Rattle.std.proofs.lemmas.List.Elements.{recursion_from_All, All-from_recursion}
use Rattle.sx_spec.specs.declared.Edge.{Edge}
use Rattle.sx_spec.specs.declared.Equation.{Equation}
use Rattle.sx_spec.specs.declared.Method.{Method}
use Rattle.sx_spec.specs.declared.Method.TheVariants.{Mwhc, Gov3}
use Rattle.sx_spec.specs.declared.Signature.{Signature}
use Rattle.sx_spec.specs.Chunks.{places}
use Rattle.sx_spec.specs.StaticFunction.{entry_equation, CanBeBuilt}
use Rattle.sx_spec.specs.Systems.{chosen, unknowns, IsIndexSet, IsPeelingOrder, IsCore, IsSum, IsContradiction, HasNoLeaf}
use Rattle.sx_spec.proofs.Cores.{cores_refute_peeling}
use Rattle.sx_spec.proofs.Sums.{sums_refute_solutions}
use Rattle.sx_spec.proofs.Witnesses.{chosen-map}
use Rattle.sx_peel.specs.declared.Taken.{Taken}
use Rattle.sx_peel.specs.Peeling.{IsEdgeWithin, IsTakenOrder, taken_edges}
use Rattle.sx_solve.specs.Solving.{IsEquationWithin, IsSolution}
use Rattle.sx_static.specs.Answer.{entries_of}
use Rattle.sx_static.specs.Solving.{IsMet}
use Rattle.sx_static.specs.Tries.{try_equations, AreCells, AreRefuting}
use Rattle.sx_static.proofs.Entries.{edges_of_entries, solved_entries, within_edges, narrow_equations, length_of_entries}

-- ---- chosen from a mapped list

-- ---- one try

module _ (s t : ℕ) (sigs : List Signature) (values : List ℕ) (same : length values ≡ length sigs) where
  pub as_many : length (try_equations s t sigs values) ≡ length sigs
  as_many = length-map (entries_of sigs values) (entry_equation t s) ∙ length_of_entries sigs values same

  module _ (edges : List Edge) (edges_are : edges ≡ map (λ sig. places sig t s) sigs) where
    edges_same : edges ≡ map unknowns (try_equations s t sigs values)
    edges_same = edges_are ∙ sym (edges_of_entries s t sigs values same)

    edges_many : length edges ≡ length sigs
    edges_many = ap length edges_are ∙ length-map sigs (λ sig. places sig t s)

    pub peeled_cells : (cells : List ℕ) (order : List Taken) → All (IsEdgeWithin (3 * s)) edges → IsTakenOrder edges order → length cells ≡ 3 * s
        → ((i : ℕ) → i < length edges → IsMet edges values cells i)
        → ((k : ℕ) → All (λ v. v < 2 ^ k) values → All (λ v. v < 2 ^ k) cells)
        → AreCells Mwhc s t sigs values cells
    peeled_cells cells order inside taken size met below = record {
      works = (taken_edges order, subst (λ es. IsPeelingOrder es (taken_edges order)) edges_same taken.order);
      within = within_edges (3 * s) (try_equations s t sigs values) (subst (AllByRecursion (IsEdgeWithin (3 * s))) edges_same (recursion_from_All (IsEdgeWithin (3 * s)) edges inside));
      count = size;
      solves = solved_entries s t cells sigs values same (λ i h. subst (λ es. IsMet es values cells i) edges_are (met i (let e = edges_many in omega arith)));
      narrow = below;
    }

    pub core_refutes : (numbers : List ℕ) → IsCore edges numbers → AreRefuting Mwhc s t sigs values numbers
    core_refutes numbers core = record {
      set = subst (λ n. IsIndexSet n numbers) edges_many core.set;
      fails = subst HasNoLeaf (ap (λ es. chosen es numbers) edges_same ∙ chosen-map unknowns (try_equations s t sigs values) numbers) core.core;
    }

  module _ (equations : List Equation) (equations_are : equations ≡ try_equations s t sigs values) where
    pub solved_cells : (cells : List ℕ) → All (IsEquationWithin (3 * s)) equations → IsSolution (3 * s) equations cells → AreCells Gov3 s t sigs values cells
    solved_cells cells inside solution =
        let inside_same = subst (AllByRecursion (IsEquationWithin (3 * s))) equations_are (recursion_from_All (IsEquationWithin (3 * s)) equations inside) in
        let solution_same = subst (λ qs. IsSolution (3 * s) qs cells) equations_are solution in
        record {
          works = (cells, solution_same.solves);
          within = inside_same;
          count = solution.count;
          solves = solution_same.solves;
          narrow = λ k below. All-from_recursion (λ v. v < 2 ^ k) cells (solution_same.narrow k (narrow_equations s t k sigs values (recursion_from_All (λ v. v < 2 ^ k) values below)));
        }

    pub sum_refutes : (numbers : List ℕ) → IsSum equations numbers → AreRefuting Gov3 s t sigs values numbers
    sum_refutes numbers sum = record {
      set = subst (λ n. IsIndexSet n numbers) (ap length equations_are ∙ as_many) sum.set;
      fails = subst (λ qs. IsContradiction (chosen qs numbers)) equations_are sum.sum;
    }

  -- a try that is refuted doesn't work
  pub refuted : (method : Method) (numbers : List ℕ) → AreRefuting method s t sigs values numbers → ¬ CanBeBuilt method (try_equations s t sigs values)
  refuted Mwhc numbers refuting works =
      let equations = try_equations s t sigs values in
      let size : length sigs ≡ length (map unknowns equations) = sym (length-map equations unknowns ∙ as_many) in
      let core : IsCore (map unknowns equations) numbers = record {
        set = subst (λ n. IsIndexSet n numbers) size refuting.set;
        core = subst HasNoLeaf (sym (chosen-map unknowns equations numbers)) refuting.fails;
      } in
      cores_refute_peeling (map unknowns equations) numbers core works
  refuted Gov3 numbers refuting works =
      let equations = try_equations s t sigs values in
      let sum : IsSum equations numbers = record {
        set = subst (λ n. IsIndexSet n numbers) (sym as_many) refuting.set;
        sum = refuting.fails;
      } in
      sums_refute_solutions equations numbers sum works

-- ---- along a range

-- one more along a range of numbers
pub range_push : {X : Type 0} (R : ℕ → X → Type 0) (a n : ℕ) (xs : List X) (x : X) → AllZip R (range_with_len a n) xs → R (a + n) x → AllZip R (range_with_len a (n + 1)) (xs ++ x ∷ [])
range_push {X} R a n xs x all here = rw (add-one n) (push a n xs all here)
  where
    push : (a n : ℕ) (xs : List X) → AllZip R (range_with_len a n) xs → R (a + n) x → AllZip R (range_with_len a (suc n)) (xs ++ x ∷ [])
    push a zero [] all here = (subst (λ k. R k x) (add-zero a) here, tt)
    push a zero (y ∷ xs) all here = absurd all
    push a (suc n) [] all here = absurd all
    push a (suc n) (y ∷ xs) all here =
        let e : a + suc n ≡ (a + 1) + n = omega arith in
        (all.0, push (a + 1) n xs all.1 (subst (λ k. R k x) e here))

-- facts of two lists for a mapped one
pub zip_mapped : {A X Y : Type 0} (R : A → X → Type 0) (S : A → Y → Type 0) (f : X → Y) (ns : List A) (xs : List X) → ((n : A) (x : X) → R n x → S n (f x)) → AllZip R ns xs → AllZip S ns (map f xs)
zip_mapped R S f [] [] leads all = tt
zip_mapped R S f [] (x ∷ xs) leads all = absurd all
zip_mapped R S f (n ∷ ns) [] leads all = absurd all
zip_mapped R S f (n ∷ ns) (x ∷ xs) leads all = (leads n x all.0, zip_mapped R S f ns xs leads all.1)

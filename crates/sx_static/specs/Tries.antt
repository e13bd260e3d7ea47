-- What tries at the pairs of a chunk come to.
use Rattle.std.specs.Prelude.{◌≡◌, ℕ, ◌*◌, ◌<◌, ◌^◌, List, length, map, slice_index, All}
use Rattle.std.specs.List.{AllByRecursion, AllZip, range_with_len}
use Rattle.sx_spec.specs.declared.Equation.{Equation}
use Rattle.sx_spec.specs.declared.Method.{Method}
use Rattle.sx_spec.specs.declared.Signature.{Signature}
use Rattle.sx_spec.specs.StaticFunction.{AllDiffer, entry_equation, CanBeBuilt, CannotBeBuilt}
use Rattle.sx_spec.specs.Systems.{chosen, Solves, IsIndexSet}
use Rattle.sx_solve.specs.Solving.{IsEquationWithin}
use Rattle.sx_static.specs.Answer.{entries_of, witness_numbers, IsWitnessOf}
use Rattle.sx_static.specs.declared.Witness.{Witness}
use Rattle.sx_static.specs.declared.chunk.Tried.{Tried}
use Rattle.sx_static.specs.declared.chunk.Tried.TheVariants.{Works as WorksAt, Fails as AllFail}
use Rattle.sx_static.specs.declared.tries.Try.{Try}
use Rattle.sx_static.specs.declared.tries.Try.TheVariants.{Works, Fails}

-- the equations of the pairs at a try, over segments of so many cells
abbrev pub try_equations : ℕ → ℕ → List Signature → List ℕ → List Equation
try_equations s t sigs values = map (entry_equation t s) (entries_of sigs values)

-- the try works by these cells, three segments of them; where every value is below a power of two, so is every cell
pub record AreCells (method : Method) (s t : ℕ) (sigs : List Signature) (values cells : List ℕ) : Type 0 where
  pub works : CanBeBuilt method (try_equations s t sigs values)
  pub within : AllByRecursion (IsEquationWithin (3 * s)) (try_equations s t sigs values)
  pub count : length cells ≡ 3 * s
  pub solves : Solves cells (try_equations s t sigs values)
  pub narrow : (k : ℕ) → All (λ v. v < 2 ^ k) values → All (λ v. v < 2 ^ k) cells

-- the pairs at these places show that the try doesn't work
pub record AreRefuting (method : Method) (s t : ℕ) (sigs : List Signature) (values places : List ℕ) : Type 0 where
  pub set : IsIndexSet (length sigs) places
  pub fails : CannotBeBuilt method (chosen (try_equations s t sigs values) places)

-- what a try comes to
abbrev pub IsTry : Method → ℕ → ℕ → List Signature → List ℕ → Try → Type 0
IsTry method s t sigs values (Works cells) = AreCells method s t sigs values cells.items
IsTry method s t sigs values (Fails witness) = AreRefuting method s t sigs values (witness_numbers witness) × IsWitnessOf method witness

-- the witness names the pairs, by these numbers of them, that show that the try doesn't work
pub record IsFailure (method : Method) (s : ℕ) (sigs : List Signature) (values numbers : List ℕ) (t : ℕ) (witness : Witness) : Type 0 where
  pub places : List ℕ
  pub refuting : AreRefuting method s t sigs values places
  pub named : witness_numbers witness ≡ map (slice_index numbers) places
  pub kind : IsWitnessOf method witness

-- the least try that works with its cells, or a witness for each of the 64 tries unless two signatures are equal
abbrev pub IsTried : Method → ℕ → List Signature → List ℕ → List ℕ → Tried → Type 0
IsTried method s sigs values numbers (WorksAt number cells) =
    (number < 64) × AreCells method s number sigs values cells.items × ((t : ℕ) → t < number → ¬ CanBeBuilt method (try_equations s t sigs values))
IsTried method s sigs values numbers (AllFail witnesses) =
    AllDiffer sigs → AllZip (IsFailure method s sigs values numbers) (range_with_len 0 64) witnesses.items

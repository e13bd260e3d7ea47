-- A solution of equations over GF(2), or equations whose sum has none.
use Rattle.std.specs.Prelude.{◌≡◌, ◌≢◌, ◌<◌, ◌^◌, ℕ, List, length}
use Rattle.std.specs.List.{AllByRecursion}
use Rattle.sx_spec.specs.declared.Equation.{Equation}
use Rattle.sx_spec.specs.Systems.{Solves, IsSum}
use Rattle.sx_solve.specs.declared.Solved.{Solved}
use Rattle.sx_solve.specs.declared.Solved.TheVariants.{Cells, Sum}

-- an equation of three different unknowns below the bound
pub record IsEquationWithin (bound : ℕ) (q : Equation) : Type 0 where
  pub a : q.a < bound
  pub b : q.b < bound
  pub c : q.c < bound
  pub ab : q.a ≢ q.b
  pub ac : q.a ≢ q.c
  pub bc : q.b ≢ q.c

-- so many numbers that meet every equation; where every value is below a power of two, so is every number
pub record IsSolution (bound : ℕ) (equations : List Equation) (cells : List ℕ) : Type 0 where
  pub count : length cells ≡ bound
  pub solves : Solves cells equations
  pub narrow : (k : ℕ) → AllByRecursion (λ q. q.value < 2 ^ k) equations → AllByRecursion (λ v. v < 2 ^ k) cells

-- a solution, or a sum that refutes one
abbrev pub IsSolved : ℕ → List Equation → Solved → Type 0
IsSolved bound equations (Cells cells) = IsSolution bound equations cells.items
IsSolved bound equations (Sum numbers) = IsSum equations numbers.items

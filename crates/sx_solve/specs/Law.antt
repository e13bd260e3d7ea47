-- Equations are solved by some cells or have a sum, and never both.
use Rattle.std.specs.Prelude.{ℕ, List, ◌⊎◌}
use Rattle.sx_spec.specs.declared.Equation.{Equation}
use Rattle.sx_spec.specs.Systems.{IsSolvable, IsSum}

-- some numbers of the equations have a sum that no cells meet
abbrev pub HasSum : List Equation → Type 0
HasSum equations = (numbers : List ℕ) × IsSum equations numbers

-- equations of any unknowns and values are solved by some cells or have a sum, and never both
abbrev pub SystemsSolveOrHaveSum : Type 0
SystemsSolveOrHaveSum = (equations : List Equation) → (IsSolvable equations ⊎ HasSum equations) × (IsSolvable equations → ¬ HasSum equations)

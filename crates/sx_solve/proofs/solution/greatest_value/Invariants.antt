use Rattle.std.proofs.Common.{ℕ, ◌<◌, ◌^◌, get_or}
use Rattle.std.specs.Prelude.{◌↔◌}
use Rattle.sx_spec.specs.declared.Equation.{Equation}
use Rattle.sx_solve.proofs.solution.greatest_value.Given as goal

abbrev pub invariant-loop-q : goal.invariant-loop-q
invariant-loop-q l = (k : ℕ) → (l.greatest < 2 ^ k) ↔ ((j : ℕ) (d : Equation) → j < l.q-index → (get_or l.eqs j d).value < 2 ^ k)

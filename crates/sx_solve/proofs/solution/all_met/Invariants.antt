use Rattle.std.proofs.Common.{◌≡◌, ℕ, ◌<◌, get_or}
use Rattle.sx_spec.specs.declared.Equation.{Equation}
use Rattle.sx_spec.specs.Systems.{cells_at, unknowns}
use Rattle.sx_solve.proofs.solution.all_met.Given as goal

abbrev pub invariant-loop-q : goal.invariant-loop-q
invariant-loop-q l = (k : ℕ) (d : Equation) → k < l.q-index → cells_at l.cells (unknowns (get_or l.eqs k d)) ≡ (get_or l.eqs k d).value

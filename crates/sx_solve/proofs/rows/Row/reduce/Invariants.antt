use Rattle.std.proofs.Common.{◌≡◌, ◌<◌, ℕ, List, All, length, get_or}
use Rattle.sx_spec.specs.declared.Equation.{Equation}
use Rattle.sx_solve.specs.declared.rows.Row.{Row}
use Rattle.sx_solve.specs.Rows.{HasWords, IsRow, Meets, bit}
use Rattle.sx_solve.proofs.rows.Row.reduce.Given as goal

abbrev pub invariant-loop-row : goal.invariant-loop-row
invariant-loop-row l = record {
  words : HasWords (length l.initial.self.unknowns.items) (length l.initial.self.set.items) l.self;
  sum : (equations : List Equation) → All (IsRow equations) l.rows → IsRow equations l.initial.self → IsRow equations l.self;
  meets : (cells : List ℕ) → All (Meets cells) l.rows → Meets cells l.self → Meets cells l.initial.self;
  cleared : (j : ℕ) (d : Row) → j < l.row-index → bit l.self.unknowns.items (get_or l.rows j d).pivot ≡ 0;
}

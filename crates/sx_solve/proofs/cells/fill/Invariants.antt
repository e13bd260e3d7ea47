use Rattle.std.proofs.Common.{◌<◌, ◌≤◌, ◌^◌, ℕ, All, length, get_or}
use Rattle.sx_solve.specs.declared.rows.Row.{Row}
use Rattle.sx_solve.specs.Rows.{Meets}
use Rattle.sx_solve.proofs.cells.fill.Given as goal

abbrev pub invariant-loop-k : goal.invariant-loop-k
invariant-loop-k l = record {
  met : (j : ℕ) (d : Row) → l.k ≤ j → j < length l.rows → Meets l.cells (get_or l.rows j d);
  narrow : (n : ℕ) → All (λ r. r.value < 2 ^ n) l.rows → All (λ x. x < 2 ^ n) l.initial.cells → All (λ x. x < 2 ^ n) l.cells;
}

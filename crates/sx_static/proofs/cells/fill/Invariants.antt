use Rattle.std.proofs.Common.{ℕ, ◌<◌, ◌^◌, All, drop}
use Rattle.sx_static.specs.Solving.{AreMet}
use Rattle.sx_static.proofs.cells.fill.Given as goal

abbrev pub invariant-loop-place : goal.invariant-loop-place
invariant-loop-place l = record {
  met : AreMet l.edges l.values l.cells (drop l.place l.order);
  narrow : (k : ℕ) → All (λ w. w < 2 ^ k) l.values → All (λ w. w < 2 ^ k) l.initial.cells → All (λ w. w < 2 ^ k) l.cells;
}

use Rattle.std.proofs.Common.{◌≡◌, ◌*◌, length}
use Rattle.sx_solve.proofs.dense.system_of.Given as goal

abbrev pub invariant-loop-word : goal.invariant-loop-word
invariant-loop-word l = record {
  rows : length l.rows.items ≡ l.count * l.width;
  plane : length l.plane.items ≡ l.vars;
}

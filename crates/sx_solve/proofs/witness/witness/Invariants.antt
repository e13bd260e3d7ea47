use Rattle.std.proofs.Common.{◌≡◌, ◌+◌, ◌/◌, length}
use Rattle.sx_solve.proofs.witness.witness.Given as goal

abbrev pub invariant-loop-row : goal.invariant-loop-row
invariant-loop-row l = record {
  marks : length l.marks.items ≡ length l.eqs / 64 + 1;
  odd : length l.odd.items ≡ l.vars;
}

abbrev pub invariant-loop-k : goal.invariant-loop-k
invariant-loop-k l = record {
  marks : length l.marks.items ≡ length l.eqs / 64 + 1;
  odd : length l.odd.items ≡ l.vars;
}

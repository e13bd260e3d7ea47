use Rattle.std.proofs.Common.{◌≡◌, take}
use Rattle.sx_solve.specs.Rows.{bit, xor_by}
use Rattle.sx_solve.proofs.cells.xor_of.Given as goal

abbrev pub invariant-loop-i : goal.invariant-loop-i
invariant-loop-i l = l.xor ≡ xor_by (bit l.words) 0 (take l.i l.cells)

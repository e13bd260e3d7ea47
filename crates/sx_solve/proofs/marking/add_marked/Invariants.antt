use Rattle.std.proofs.Common.{◌≡◌, ℕ, ◌%◌, get_or, take}
use Rattle.sx_solve.specs.Rows.{bit, times_by, values, xor_by}
use Rattle.sx_solve.proofs.marking.add_marked.Given as goal

abbrev pub invariant-loop-number : goal.invariant-loop-number
invariant-loop-number l = record {
  value : l.value ≡ xor_by (bit l.marks) 0 (take l.number (values l.eqs));
  odd : (v : ℕ) → get_or l.odd v 0 % 2 ≡ times_by (bit l.marks) 0 (take l.number l.eqs) v % 2;
}

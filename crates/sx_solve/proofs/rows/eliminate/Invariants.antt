use Rattle.sx_solve.specs.Rows.{AreRows}
use Rattle.sx_solve.proofs.rows.eliminate.Given as goal

abbrev pub invariant-loop-number : goal.invariant-loop-number
invariant-loop-number l = AreRows l.vars l.eqs l.number l.rows.items

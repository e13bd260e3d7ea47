use Rattle.std.proofs.Common.{length, subst}
use Rattle.sx_solve.specs.Rows.{AreRows, IsEliminated}
use Rattle.sx_solve.proofs.Taken.{solution}
use Rattle.sx_solve.proofs.plain.solve_plainly.Goals as goal

pub returns-in_ok-cells_of-in-Steps : goal.returns-in_ok-cells_of-in-Steps
returns-in_ok-cells_of-in-Steps c =
    let eqs = c.args.eqs.now in
    let are : AreRows c.args.vars eqs (length eqs) c.in-Steps.rows.items = subst (IsEliminated c.args.vars eqs) c.in-Steps.is c.in_ok-rows.ensures in
    let of = c.in_ok-cells_of-in-Steps.ensures in
    solution c.args.vars eqs c.in-Steps.rows.items c.in_ok-cells_of-in-Steps.field-0.items are of.count
    (rw c.deref.ensures.value at of.met) (rw c.deref.ensures.value at of.narrow)

use Rattle.sx_solve.specs.declared.rows.Row.{Row}
use Rattle.sx_solve.proofs.Taken.{rows_push, rows_stay}
use Rattle.sx_solve.proofs.rows.take_in.Goals as goal

pub returns-in_ok-push-in-Some : goal.returns-in_ok-push-in-Some
returns-in_ok-push-in-Some c =
    let r = c.in_ok-row.row in
    let s : Row = record { unknowns = r.unknowns; set = r.set; value = r.value; pivot = c.in-Some.pivot } in
    let of = c.in_ok-row.ensures in
    rw c.in_ok-push-in-Some.ensures.items
    (rows_push c.args.vars c.args.eqs.now c.args.number c.args.rows.now.items s c.requires.rows c.requires.number
    (rw c.deref.ensures.value at of.meets) c.requires.within
    (record { unknowns = of.words.unknowns; set = of.words.set })
    (record { unknowns = of.sum.unknowns; value = of.sum.value })
    (rw c.deref.ensures.value at of.cleared)
    (rw c.deref-2.ensures.value at c.in-Some.ensures))

pub returns-in-None : goal.returns-in-None
returns-in-None c =
    let r = c.in_ok-row.row in
    let of = c.in_ok-row.ensures in
    rows_stay c.args.vars c.args.eqs.now c.args.number c.args.rows.now.items r c.requires.rows c.requires.number
    (rw c.deref.ensures.value at of.meets)
    (rw c.deref-2.ensures.value at c.in-None.ensures)
    c.if-row-eq0.true

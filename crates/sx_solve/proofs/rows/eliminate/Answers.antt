use Rattle.sx_solve.specs.Rows.{IsContradictory}
use Rattle.sx_solve.proofs.Chosen.{contradictory_sum}
use Rattle.sx_solve.proofs.rows.eliminate.Goals as goal

pub returns-in-Some : goal.returns-in-Some
returns-in-Some c =
    let eqs = c.args.eqs.now in
    let is : IsContradictory eqs c.in-Some.row = rw c.in-Some.is at c.in_ok-row.ensures in
    rw (c.in_ok-numbers_of.ensures, c.deref.ensures.value) (contradictory_sum eqs c.in-Some.row is)

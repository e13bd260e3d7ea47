use Rattle.std.proofs.Common.{◌≡◌, ◌*◌, ◌∙◌, length, ap, subst, arith}
use Rattle.sx_solve.specs.declared.Solved.TheVariants.{Cells, Sum}
use Rattle.sx_solve.specs.Solving.{IsSolved}
use Rattle.sx_static.proofs.Solutions.{as_many, solved_cells, sum_refutes}
use Rattle.sx_static.proofs.tries.by_solving.Goals as goal

pub solve-requires-clause-few : goal.solve-requires-clause-few
solve-requires-clause-few c =
    let many : length c.in_ok-equations.equations.items ≡ length c.args.sigs.now = ap length c.in_ok-equations.ensures.equations ∙ as_many c.args.s c.args.t c.args.sigs.now c.args.values.now c.requires.values in
    omega arith

pub returns-in-Cells : goal.returns-in-Cells
returns-in-Cells c =
    let equations = c.in_ok-equations.equations.items in
    let bound = 3 * c.args.s in
    let solved : IsSolved bound equations (Cells c.in-Cells.cells) = subst (IsSolved bound equations) c.in-Cells.is (subst (λ qs. IsSolved bound qs c.in_ok-cells.field-0) c.deref.ensures.value c.in_ok-cells.ensures) in
    solved_cells c.args.s c.args.t c.args.sigs.now c.args.values.now c.requires.values equations c.in_ok-equations.ensures.equations c.in-Cells.cells.items c.in_ok-equations.ensures.within solved

pub returns : goal.returns
returns c =
    let equations = c.in_ok-equations.equations.items in
    let bound = 3 * c.args.s in
    let solved : IsSolved bound equations (Sum c.in-Sum.places) = subst (IsSolved bound equations) c.in-Sum.is (subst (λ qs. IsSolved bound qs c.in_ok-cells.field-0) c.deref.ensures.value c.in_ok-cells.ensures) in
    (sum_refutes c.args.s c.args.t c.args.sigs.now c.args.values.now c.requires.values equations c.in_ok-equations.ensures.equations c.in-Sum.places.items solved, tt)

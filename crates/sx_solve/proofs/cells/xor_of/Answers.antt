use Rattle.std.proofs.Common.{take, ap, sym, ◌∙◌, arith}
use Rattle.std.specs.Prelude.{bit_xor}
use Rattle.sx_solve.specs.Rows.{bit, xor_by}
use Rattle.sx_solve.proofs.Marks.{xor_by_more}
use Rattle.sx_solve.proofs.cells.xor_of.Goals as goal

pub loop-i-preserved : goal.loop-i-preserved
loop-i-preserved c =
    let f = bit c.args.words.now in
    let more = xor_by_more f c.args.cells.now c.loop-i.i 0 (omega arith) in
    ap (λ x. bit_xor x c.marked-xor.result) c.loop-i.invariant
    ∙ ap (bit_xor (xor_by f 0 (take c.loop-i.i c.args.cells.now))) c.marked-xor.ensures
    ∙ sym more

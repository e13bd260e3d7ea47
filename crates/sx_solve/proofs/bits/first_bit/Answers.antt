use Rattle.std.proofs.Common.{arith}
use Rattle.sx_solve.proofs.WordBits.{first_is}
use Rattle.sx_solve.proofs.bits.first_bit.Goals as goal

pub returns-then-word-ne0 : goal.returns-then-word-ne0
returns-then-word-ne0 c =
    let some = c.if-word-ne0.true in
    first_is c.args.words.now c.loop-k.k (omega arith) (c.type_inv.words c.loop-k.k).fits

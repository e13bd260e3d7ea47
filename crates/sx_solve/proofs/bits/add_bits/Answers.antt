use Rattle.std.proofs.Common.{arith}
use Rattle.sx_solve.proofs.WordBits.{added_bits}
use Rattle.sx_solve.proofs.bits.add_bits.Goals as goal

pub returns-clause-bits : goal.returns-clause-bits
returns-clause-bits c =
    let all = c.loop-k.invariant in
    added_bits c.args.words.now.items c.args.others.now c.loop-k.words.items c.requires all.size
    (λ j within. all.done j (omega (arith, c.args.words.now.ok.0)))

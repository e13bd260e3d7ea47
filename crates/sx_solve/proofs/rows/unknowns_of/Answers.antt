use Rattle.sx_solve.proofs.Sums.{xor_of_unknowns}
use Rattle.sx_solve.proofs.rows.unknowns_of.Goals as goal

pub returns-clause-xor : goal.returns-clause-xor
returns-clause-xor c = λ cells room.
    xor_of_unknowns c.args.q c.args.vars c.in_ok-bits.bits.items c.set_bit.new.words.items c.set_bit-2.new.words.items c.set_bit-3.new.words.items cells c.requires room
    c.in_ok-bits.ensures.bits c.set_bit.ensures.same c.set_bit.ensures.others c.set_bit-2.ensures.same c.set_bit-2.ensures.others c.set_bit-3.ensures.same c.set_bit-3.ensures.others

use Rattle.std.proofs.Common.{arith}
use Rattle.sx_dump.proofs.show.signature_in.Goals as goal

pub overflow_add-at : goal.overflow_add-at
overflow_add-at g c = omega (arith, c.words-words.ensures.len, c.words-words.type_inv, c.requires.stands.size, c.requires.stands.within, c.requires.there)

pub overflow_add-at-2 : goal.overflow_add-at-2
overflow_add-at-2 g c = omega (arith, c.words-words.ensures.len, c.words-words.type_inv, c.requires.stands.size, c.requires.stands.within, c.requires.there)

pub overflow_add-at-3 : goal.overflow_add-at-3
overflow_add-at-3 g c = omega (arith, c.words-words.ensures.len, c.words-words.type_inv, c.requires.stands.size, c.requires.stands.within, c.requires.there)

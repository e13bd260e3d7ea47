use Rattle.std.proofs.Common.{◌+◌, ◌-◌, ◌∙◌, ap, arith}
use Rattle.std.specs.Int.{bit_at}
use Rattle.sx_bits.proofs.NumberBytes.{first_of_shifted, last_of_shifted}
use Rattle.sx_bits.proofs.words.shifted_word.Goals as goal

pub returns-clause-first : goal.returns-clause-first
returns-clause-first c = λ k le lt.
    let same = c.from.ensures in
    first_of_shifted c.args.high c.from.result c.args.shift k (omega arith) c.requires le lt

pub returns-clause-last : goal.returns-clause-last
returns-clause-last c = λ k lt.
    last_of_shifted c.args.high c.from.result c.args.shift k c.requires lt ∙ ap (λ m. bit_at m (8 - c.args.shift + k)) c.from.ensures

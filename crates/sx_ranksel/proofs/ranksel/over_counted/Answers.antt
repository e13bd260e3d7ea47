use Rattle.std.proofs.Common.{◌/◌, ◌∙◌, get_or, length, ap, arith}
use Rattle.sx_ranksel.specs.Directory.{number_at}
use Rattle.sx_ranksel.proofs.Ranks.{length-directory, directory_at}
use Rattle.sx_ranksel.proofs.ranksel.over_counted.Goals as goal

pub word-before-requires : goal.word-before-requires
word-before-requires g c =
    let size = ap length c.requires.made.listed ∙ length-directory c.args.bits (number_at c.args.first (g.B.WordBank.words_of c.args.bank)) in
    omega arith

pub ones_below-ones-requires-clause-before : goal.ones_below-ones-requires-clause-before
ones_below-ones-requires-clause-before g c =
    c.word-before.ensures.word
    ∙ ap (λ ds. get_or ds (c.args.bits / 512) 0) c.requires.made.listed
    ∙ directory_at c.args.bits (number_at c.args.first (g.B.WordBank.words_of c.args.bank)) (c.args.bits / 512) (omega arith)

use Rattle.std.proofs.Common.{◌/◌, ◌∙◌, get_or, length, ap, arith}
use Rattle.sx_ranksel.specs.Directory.{number_at}
use Rattle.sx_ranksel.proofs.Ranks.{length-directory, directory_at}
use Rattle.sx_ranksel.proofs.ranksel.RankSel.rank.Goals as goal

pub word-before-requires : goal.word-before-requires
word-before-requires g c =
    let r = c.args.self.now in
    let size = ap length r.made.listed ∙ length-directory r.bits (number_at r.first (g.B.WordBank.words_of r.bank)) in
    omega arith

pub ones_below-requires-clause-before : goal.ones_below-requires-clause-before
ones_below-requires-clause-before g c =
    let r = c.args.self.now in
    c.word-before.ensures.word
    ∙ ap (λ ds. get_or ds (c.args.pos / 512) 0) r.made.listed
    ∙ directory_at r.bits (number_at r.first (g.B.WordBank.words_of r.bank)) (c.args.pos / 512) (omega arith)

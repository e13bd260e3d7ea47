use Rattle.std.proofs.Common.{◌≡◌, ◌/◌, ◌+◌, ◌∙◌, get_or, length, ap, arith}
use Rattle.std.proofs.lemmas.List.{get_or_read}
use Rattle.sx_ranksel.specs.Directory.{number_at}
use Rattle.sx_ranksel.proofs.Ranks.{length-directory, directory_at}
use Rattle.sx_ranksel.proofs.directories.made_counted.Goals as goal

pub index-before-requires : goal.index-before-requires
index-before-requires g c =
    let x = number_at c.args.first (g.B.WordBank.words_of c.args.bank) in
    let size : length c.in_ok-directory.directory.items ≡ c.args.bits / 512 + 1 = ap length c.in_ok-directory.ensures.counts ∙ length-directory c.args.bits x in
    omega (arith, c.in_ok-directory.directory.ok.0)

pub ones_below-ones-requires-clause-before : goal.ones_below-ones-requires-clause-before
ones_below-ones-requires-clause-before g c =
    let x = number_at c.args.first (g.B.WordBank.words_of c.args.bank) in
    let n = c.args.bits / 512 in
    let size : length c.in_ok-directory.directory.items ≡ n + 1 = ap length c.in_ok-directory.ensures.counts ∙ length-directory c.args.bits x in
    get_or_read c.in_ok-directory.directory.items n c.index-before.result.now (omega arith) c.index-before.ensures 0
    ∙ ap (λ ds. get_or ds n 0) c.in_ok-directory.ensures.counts
    ∙ directory_at c.args.bits x n (omega arith)

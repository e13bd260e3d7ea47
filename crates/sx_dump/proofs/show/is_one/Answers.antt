use Rattle.std.proofs.Common.{ℕ, ◌/◌, ◌%◌, ◌^◌, ap, ◌∙◌}
use Rattle.std.specs.Prelude.{◌==◌, bit_and}
use Rattle.sx_dump.proofs.SumsOnes.{bit_read}
use Rattle.sx_dump.proofs.show.is_one.Goals as goal

pub returns-clause-value : goal.returns-clause-value
returns-clause-value g c =
    ap (λ (n : ℕ). n == 1)
    (ap (λ (w : ℕ). bit_and (w / 2 ^ (c.args.bit % 64)) 1) c.word.ensures.word
    ∙ bit_read (g.B.WordBank.words_of c.args.bank.now) c.args.first c.args.bit c.requires.small)

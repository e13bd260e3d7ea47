use Rattle.std.proofs.Common.{◌∙◌}
use Rattle.sx_dump.specs.Opening.{dump_in}
use Rattle.sx_dump.proofs.Replies.{none_kept, unsigned_kept}
use Rattle.sx_dump.proofs.dump.Dump.where_kept.Goals as goal

pub returns-in-None-clause-value : goal.returns-in-None-clause-value
returns-in-None-clause-value g c =
    let d = c.args.self.now in
    unsigned_kept (dump_in (g.B.WordBank.words_of d.bank)) c.args.sig.now c.args.place (d.numbers.none c.in-None.is)

pub returns-in_err-place-in-Some-clause-value : goal.returns-in_err-place-in-Some-clause-value
returns-in_err-place-in-Some-clause-value g c =
    let d = c.args.self.now in
    c.from_residual.ensures ∙ none_kept (dump_in (g.B.WordBank.words_of d.bank)) c.args.sig.now c.args.place c.in_err-place-in-Some.was

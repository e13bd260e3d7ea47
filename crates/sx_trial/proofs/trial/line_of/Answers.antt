use Rattle.std.proofs.Common.{◌≡◌, ◌∙◌, arith}
use Rattle.std.proofs.lemmas.Result.{IfOk-weaker}
use Rattle.sx_spec.specs.Layout.{Dump}
use Rattle.sx_dump.specs.Opening.{dump_in}
use Rattle.sx_trial.proofs.Answered.{line_with}
use Rattle.sx_trial.proofs.BuiltOpens.{line_opened, not_malformed}
use Rattle.sx_trial.proofs.trial.line_of.Goals as goal

pub unreachable-requires : goal.unreachable-requires
unreachable-requires g c =
    let (d, made) = c.requires.made in
    not_malformed c.args.kind c.args.count c.args.words.now d made (λ i. omega (arith, c.type_inv.words i)) c.in-Err-Malformed.field-0-0
    (rw c.in-Err-Malformed.field-0-is at c.in-Err-Malformed.ensures.refused)

pub returns-clause-line : goal.returns-clause-line
returns-clause-line g c =
    let opened : Dump = dump_in c.in-Ok.dump.bank.words.now in
    IfOk-weaker c.trial_text.result (λ text. text.items ≡ line_with c.args.kind c.from.result c.from-2.result c.ask-members.result.sum c.ask-strangers.result.sum) _
    (λ text is d made. line_opened c.args.kind c.args.count c.args.words.now opened (λ i. omega (arith, c.type_inv.words i)) c.in-Ok.ensures.found
    c.from.result c.from-2.result c.ask-members.result.sum c.ask-strangers.result.sum c.from.ensures (c.from-2.ensures ∙ c.ask-members.ensures.count) c.ask-members.ensures.sum c.ask-strangers.ensures.sum
    text.items is d made)
    c.trial_text.ensures

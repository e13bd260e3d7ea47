use Rattle.std.proofs.Common.{◌≡◌, ◌∙◌, ap, sym, None}
use Rattle.std.specs.Prelude.{drop}
use Rattle.std.proofs.lemmas.Result.{IfOk-weaker}
use Rattle.sx_spec.specs.Command.{command}
use Rattle.sx_words.specs.Arguments.{split_for}
use Rattle.sx_words.specs.Rules.{task_with}
use Rattle.sx_words.specs.Tasks.{task_of}
use Rattle.sx_words.proofs.Readings.{formed_for, read_as}
use Rattle.sx_words.proofs.read.read_words.Goals as goal

pub task_with-requires : goal.task_with-requires
task_with-requires c =
    formed_for c.in-Some.command (drop 1 c.args.words.now) c.in-Some-2.arguments
    (ap (split_for c.in-Some.command) (sym c.after.ensures) ∙ sym c.in_ok-arguments.ensures ∙ c.in-Some-2.is)

pub returns-in-Some-2 : goal.returns-in-Some-2
returns-in-Some-2 c =
    let whole = read_as c.args.words.now c.get.result.now c.in-Some.command _ (λ e. c.if-len-eq0.false (c.len.ensures ∙ e)) c.get.ensures c.in-Some.ensures
    (sym c.in-Some-2.is ∙ c.in_ok-arguments.ensures ∙ ap (split_for c.in-Some.command) c.after.ensures) in
    IfOk-weaker c.task_with.result _ (λ task. task_of task ≡ command c.args.words.now) (λ task is. is ∙ whole) c.task_with.ensures

pub returns-in-None : goal.returns-in-None
returns-in-None c =
    read_as c.args.words.now c.get.result.now c.in-Some.command None (λ e. c.if-len-eq0.false (c.len.ensures ∙ e)) c.get.ensures c.in-Some.ensures
    (sym c.in-None.is ∙ c.in_ok-arguments.ensures ∙ ap (split_for c.in-Some.command) c.after.ensures)

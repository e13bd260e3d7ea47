use Rattle.std.proofs.Common.{true, false, ◌∙◌, sym}
use Rattle.sx_words.proofs.Verdicts.{by_value, by_kind, by_pair}
use Rattle.sx_words.proofs.build.broken_rule.Goals as goal

pub returns-in-Some : goal.returns-in-Some
returns-in-Some c = by_value c.args.arguments.now c.args.kind c.in-Some.name c.in-Some.ensures

pub returns-in-Some-first_unfit : goal.returns-in-Some-first_unfit
returns-in-Some-first_unfit c = by_kind c.args.arguments.now c.args.kind c.in-Some-first_unfit.name c.in-None.ensures c.in-Some-first_unfit.ensures

pub returns-then-excludes_itself : goal.returns-then-excludes_itself
returns-then-excludes_itself c = by_pair c.args.arguments.now c.args.kind true c.in-None.ensures c.in-None-first_unfit.ensures (sym c.excludes_itself.ensures ∙ c.if-excludes_itself.true)

pub returns-else-excludes_itself : goal.returns-else-excludes_itself
returns-else-excludes_itself c = by_pair c.args.arguments.now c.args.kind false c.in-None.ensures c.in-None-first_unfit.ensures (sym c.excludes_itself.ensures ∙ c.if-excludes_itself.false)

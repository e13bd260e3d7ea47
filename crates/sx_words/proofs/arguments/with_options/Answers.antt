use Rattle.std.proofs.Common.{◌∙◌, ap}
use Rattle.clap.specs.Words.{app_of, with_rule}
use Rattle.sx_words.specs.Parsers.{option_rule}
use Rattle.sx_words.proofs.Adding.{one_more}
use Rattle.sx_words.proofs.arguments.with_options.Goals as goal

pub loop-name-preserved : goal.loop-name-preserved
loop-name-preserved c =
    one_more option_rule c.options_of-name-items.result.now c.loop-name.name-index _ (app_of c.args.parser) (app_of c.loop-name.parser) (app_of c.in_ok-parser.parser) c.loop-name-test.true c.loop-name.invariant
    (c.in_ok-parser.ensures.shape c.option.ensures.local ∙ ap (with_rule (app_of c.loop-name.parser)) c.option.ensures.rule)

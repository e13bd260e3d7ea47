use Rattle.std.proofs.Common.{◌≡◌, ◌∙◌, ap, map}
use Rattle.std.proofs.lemmas.Result.{IfOk-weaker}
use Rattle.clap.specs.Words.{App, app_of}
use Rattle.sx_words.specs.Parsers.{parser_of, with_rules, option_rule, positional_rule, options_of, positional_ids}
use Rattle.sx_words.proofs.arguments.parser_of.Goals as goal

pub returns : goal.returns
unfolding parser_of
returns c =
    let command = c.args.command in
    IfOk-weaker c.with_positional.result _ (λ p. app_of p ≡ parser_of command)
    (λ p e. e ∙ ap (λ (a : App). with_rules a (map positional_rule (positional_ids command)))
    (c.in_ok-parser.ensures ∙ ap (λ (a : App). with_rules a (map option_rule (options_of command))) c.bare_parser.ensures))
    c.with_positional.ensures

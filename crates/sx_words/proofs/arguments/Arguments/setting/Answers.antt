use Rattle.std.proofs.Common.{◌∙◌, ap}
use Rattle.clap.specs.Words.{first_value, found_of, rows_of}
use Rattle.clap.proofs.WalkLemmas.{first_value-rows}
use Rattle.sx_spec.specs.Command.{Split, setting}
use Rattle.sx_words.specs.Parsers.{positional_ids, option_id}
use Rattle.sx_words.proofs.Rows.{setting_is}
use Rattle.sx_words.proofs.arguments.Arguments.setting.Goals as goal

pub returns : goal.returns
returns c =
    let found = found_of c.self.inside.matches in
    c.get_str.ensures ∙ ap (first_value found) c.option_id.ensures ∙ first_value-rows found (option_id c.args.name)
    ∙ setting_is (positional_ids c.self.inside.command) c.args.name (rows_of found) c.self.invariant ∙ ap (λ (s : Split). setting s c.args.name) c.self.view_is

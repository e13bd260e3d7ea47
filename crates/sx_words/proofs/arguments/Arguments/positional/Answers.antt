use Rattle.std.proofs.Common.{◌∙◌, ap, [], Option}
use Rattle.std.specs.Prelude.{unwrap_or}
use Rattle.clap.specs.Words.{found_of}
use Rattle.sx_spec.specs.Command.{Text}
use Rattle.sx_words.specs.Parsers.{positional_ids}
use Rattle.sx_words.proofs.Rows.{word_at}
use Rattle.sx_words.proofs.arguments.Arguments.positional.Goals as goal

pub returns-in-Some : goal.returns-in-Some
returns-in-Some c =
    ap (λ (o : Option Text). unwrap_or o []) c.in-Some.ensures
    ∙ word_at (positional_ids c.self.inside.command) c.positional_ids.result.now (found_of c.self.inside.matches) c.args.self.now c.args.i _ c.positional_ids.ensures c.self.view_is c.requires

pub returns-in-None : goal.returns-in-None
returns-in-None c =
    ap (λ (o : Option Text). unwrap_or o []) c.in-None.ensures
    ∙ word_at (positional_ids c.self.inside.command) c.positional_ids.result.now (found_of c.self.inside.matches) c.args.self.now c.args.i _ c.positional_ids.ensures c.self.view_is c.requires

use Rattle.std.proofs.Common.{◌≡◌, map, take}
use Rattle.clap.specs.Words.{app_of}
use Rattle.sx_words.specs.Parsers.{with_rules, option_rule}
use Rattle.sx_words.proofs.arguments.with_options.Given as goal

abbrev pub invariant-loop-name : goal.invariant-loop-name
invariant-loop-name l = app_of l.parser ≡ with_rules (app_of l.initial.parser) (map option_rule (take l.name-index l.name-items))

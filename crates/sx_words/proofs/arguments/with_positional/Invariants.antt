use Rattle.std.proofs.Common.{◌≡◌, map, take}
use Rattle.clap.specs.Words.{app_of}
use Rattle.sx_words.specs.Parsers.{with_rules, positional_rule}
use Rattle.sx_words.proofs.arguments.with_positional.Given as goal

abbrev pub invariant-loop-id : goal.invariant-loop-id
invariant-loop-id l = app_of l.parser ≡ with_rules (app_of l.initial.parser) (map (λ id. positional_rule id.now) (take l.id-index l.id-items))

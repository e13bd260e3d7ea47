-- The parser of the words after a command: options, each with one text, and positional words, all of them wanted.
use Rattle.std.specs.Prelude.{Some, true, List, [], ◌∷◌, ◌++◌, map, drop, fold, codes}
use Rattle.clap.specs.Words.{App, Rule, new_app, new_rule, with_rule}
use Rattle.clap.specs.Simple.{on_top}
use Rattle.clap.specs.declared.builder.action.ArgAction.TheVariants.{Set}
use Rattle.sx_spec.specs.declared.OptionName.{OptionName}
use Rattle.sx_spec.specs.Command.{Text, option_names, option_word}
use Rattle.sx_words.specs.declared.names.Command.{Command}
use Rattle.sx_words.specs.declared.names.Command.TheVariants.{Build, Query, Open, Dump, Trial}
use Rattle.sx_words.specs.Commands.{command_word}

-- the names of the positional words of a command
abbrev pub positional_ids : Command → List Text
positional_ids Build = codes "kind" ∷ codes "dump" ∷ []
positional_ids Query = codes "dump" ∷ []
positional_ids Open = codes "dump" ∷ []
positional_ids Dump = codes "dump" ∷ []
positional_ids Trial = codes "kind" ∷ codes "keys" ∷ []

-- the options of a command
abbrev pub options_of : Command → List OptionName
options_of Build = option_names
options_of Query = []
options_of Open = []
options_of Dump = []
options_of Trial = []

-- the name of an option: its word without the dashes
abbrev pub option_id : OptionName → Text
option_id name = drop 2 (option_word name)

abbrev pub option_rule : OptionName → Rule
option_rule name = record (new_rule (option_id name)) { long = Some (option_id name); action = Some Set }

abbrev pub positional_rule : Text → Rule
positional_rule id = record (new_rule id) { action = Some Set; required = true }

-- a parser without arguments, which knows no word of its own
abbrev pub bare_parser : Command → App
bare_parser command = on_top (λ s. record s { no_binary_name = true; disable_help_flag = true }) (new_app (command_word command))

-- with one argument more for each rule
abbrev pub with_rules : App → List Rule → App
with_rules app rules = fold with_rule app rules

-- the parser of a command's words
unfoldable pub parser_of : Command → App
parser_of command = with_rules (with_rules (bare_parser command) (map option_rule (options_of command))) (map positional_rule (positional_ids command))

-- The commands, by their words.
use Rattle.std.specs.Prelude.{ℕ, List, [], ◌∷◌, codes}
use Rattle.sx_words.specs.declared.names.Command.{Command}
use Rattle.sx_words.specs.declared.names.Command.TheVariants.{Build, Query, Open, Dump, Trial}

-- the word for a command
abbrev pub command_word : Command → List ℕ
command_word Build = codes "build"
command_word Query = codes "query"
command_word Open = codes "open"
command_word Dump = codes "dump"
command_word Trial = codes "trial"

-- the commands
abbrev pub commands : List Command
commands = Build ∷ Query ∷ Open ∷ Dump ∷ Trial ∷ []

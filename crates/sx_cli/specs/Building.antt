-- What a build is to do, and a line of input that it refuses.
use Rattle.std.specs.Prelude.{◌≡◌, ℕ, List, IfSome, Option, Some}
use Rattle.std.specs.Io.KnownBytes.{Consumes}
use Rattle.sx_spec.specs.Command.{BuildTask}
use Rattle.sx_spec.specs.Keys.{KeyFault, first_key_fault, standard_limits}
use Rattle.sx_spec_strings.specs.Lines.{lines}
use Rattle.sx_words.specs.declared.BuildTask.{BuildTask as WordsTask}

-- what a build is to do
abbrev pub build_of : WordsTask → BuildTask
build_of task = record { plan = task.plan; seeds = task.seeds; values = task.values; dump = task.dump }

-- some of input was taken, and this is the first fault of its lines, where they are told
pub record RefusesLine (old new : Option (List ℕ)) (fault : KeyFault) : Type 0 where
  pub taken : List ℕ
  pub consumed : Consumes old new taken
  pub first_fault : IfSome old (λ bytes. first_key_fault standard_limits (lines bytes) ≡ Some fault)

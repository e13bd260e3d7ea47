-- A text of a dump that is written to out.
use Rattle.std.specs.Prelude.{◌≡◌, ◌⊎◌, ℕ, List, Option}
use Rattle.std.specs.Io.KnownBytes.{Keeps, Appends}
use Rattle.sx_edge.specs.Parts.{AppendsPrefix}
use Rattle.sx_spec.specs.declared.Status.{Status}
use Rattle.sx_spec.specs.declared.Status.TheVariants.{Done, Memory}
use Rattle.sx_spec.specs.Causes.{Rose}
use Rattle.sx_spec.specs.Command.{Text, Task, open_dump, show_dump}
use Rattle.sx_spec.specs.Messages.{at_output, memory_text, opened_line}
use Rattle.sx_spec.specs.Layout.{Dump}
use Rattle.sx_spec.specs.Show.{dump_text}
use Rattle.sx_cli.specs.declared.show.Wanted.{Wanted}
use Rattle.sx_cli.specs.declared.show.Wanted.TheVariants.{Line, Whole}
use Rattle.sx_cli.specs.Telling.{Tells, Fails}

-- the command that wants it
abbrev pub wanted_task : Wanted → Text → Task
wanted_task Line name = open_dump name
wanted_task Whole name = show_dump name

-- its text of a dump
abbrev pub wanted_text : Wanted → Dump → Text
wanted_text Line dump = opened_line dump
wanted_text Whole dump = dump_text dump

-- the text was written
pub record IsShown (text : Text) (old new err_old err_new : Option (List ℕ)) (result : Status) : Type 0 where
  pub is : result ≡ Done
  pub out : Appends old new text
  pub err : Keeps err_old err_new

-- a write failed in its midst
pub record IsShownInPart (text : Text) (old new : Option (List ℕ)) (before after : ℕ) (err_old err_new : Option (List ℕ)) (err_before err_after : ℕ) (result : Status) : Type 0 where
  pub out : AppendsPrefix old new text
  pub cause : Rose before after
  pub told : Fails at_output err_old err_new err_before err_after result

-- memory was wanting before it was written
pub record IsUnshown (old new err_old err_new : Option (List ℕ)) (err_before err_after : ℕ) (result : Status) : Type 0 where
  pub out : Keeps old new
  pub told : Tells memory_text Memory err_old err_new err_before err_after result

-- one of the three
abbrev pub Shows : Text → Option (List ℕ) → Option (List ℕ) → ℕ → ℕ → Option (List ℕ) → Option (List ℕ) → ℕ → ℕ → Status → Type 0
Shows text old new before after err_old err_new err_before err_after result =
    IsShown text old new err_old err_new result
    ⊎ (IsShownInPart text old new before after err_old err_new err_before err_after result ⊎ IsUnshown old new err_old err_new err_before err_after result)

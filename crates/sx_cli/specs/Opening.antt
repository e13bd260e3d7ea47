-- What the file of a dump holds.
use Rattle.std.specs.Prelude.{◌≡◌, ◌⊎◌, ◌+◌, ◌^◌, ℕ, List, take, Option, Some, None, IfSome, Bool, false, Result, Ok, Err}
use Rattle.sx_spec.specs.declared.Status.{Status}
use Rattle.sx_spec.specs.declared.Status.TheVariants.{BadDump, Memory}
use Rattle.sx_spec.specs.Causes.{Rose, is_fault}
use Rattle.sx_spec.specs.Command.{Text}
use Rattle.sx_spec.specs.Layout.{Dump, dump_bytes, Passes}
use Rattle.sx_spec.specs.Messages.{at_dump, memory_text}
use Rattle.sx_spec.specs.Outcomes.{dump_refusal}
use Rattle.sx_spec_program.specs.Program.{sux_program, sux_offer, offered_fault}
use Rattle.sx_cli.specs.FileWords.{IsDecoded}
use Rattle.sx_cli.specs.Telling.{Tells, Fails}
use Rattle.sx_spec.specs.World.{Files}
use Rattle.sx_cli.specs.declared.dump_file.DumpFile.{DumpFile}

-- whether a run that stops here ends with a fault
abbrev pub ends_in_fault : {T : Type 0} → Result T Status → Bool
ends_in_fault (Err status) = is_fault status
ends_in_fault (Ok _) = false

-- the words are those of the file of the name, up to one byte past the most
pub record IsFile (name : Text) (files : Option Files) (words : List ℕ) (size : ℕ) : Type 0 where
  pub bytes : List ℕ
  pub decoded : IsDecoded bytes words size
  pub told : IfSome files (λ fs. (all : List ℕ) × (fs name ≡ Some all) × (bytes ≡ take (2 ^ 30 + 1) all))

-- what was found
abbrev pub IsFound : Text → Option Files → Option DumpFile → Type 0
IsFound name files None = IfSome files (λ fs. fs name ≡ None)
IsFound name files (Some file) = IsFile name files file.words.items file.bytes

-- the file of the name is the dump
pub record IsOpened (name : Text) (files : Option Files) (dump : Dump) : Type 0 where
  pub file : IfSome files (λ fs. fs name ≡ Some (dump_bytes dump))
  pub passes : Passes dump
  pub accepted : offered_fault sux_offer (dump_bytes dump) ≡ None

-- the file isn't there or is no dump, and the first reason is told
pub record IsRefused (name : Text) (files : Option Files) (old new : Option (List ℕ)) (before after : ℕ) (result : Status) : Type 0 where
  pub reason : Text
  pub first_reason : IfSome files (λ fs. dump_refusal sux_program (fs name) ≡ Some reason)
  pub told : Tells reason BadDump old new before after result

-- what is told of a file that isn't read: it isn't there, the shelf has failed, or memory is wanting
abbrev pub StopsAtFile : Text → Option Files → ℕ → ℕ → Option (List ℕ) → Option (List ℕ) → ℕ → ℕ → Status → Type 0
StopsAtFile name files shelf_before shelf_after old new before after result =
    IsRefused name files old new before after result
    ⊎ ((Rose shelf_before shelf_after × Fails at_dump old new before after result) ⊎ Tells memory_text Memory old new before after result)

-- what is told of a file that is no dump, or where memory is wanting
abbrev pub StopsAtCheck : Text → Option Files → Option (List ℕ) → Option (List ℕ) → ℕ → ℕ → Status → Type 0
StopsAtCheck name files old new before after result =
    IsRefused name files old new before after result ⊎ Tells memory_text Memory old new before after result

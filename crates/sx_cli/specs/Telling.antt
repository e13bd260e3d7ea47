-- A message on err, and the status of a run that ends with it.
use Rattle.std.specs.Prelude.{◌≡◌, ◌⊎◌, ℕ, List, ◌++◌, Option}
use Rattle.std.specs.Io.KnownBytes.{Appends}
use Rattle.sx_spec_strings.specs.Bits.{IsPrefix}
use Rattle.sx_spec.specs.declared.Status.{Status}
use Rattle.sx_spec.specs.declared.Status.TheVariants.{Fault}
use Rattle.sx_spec.specs.Causes.{Rose}
use Rattle.sx_spec.specs.Command.{Text}
use Rattle.sx_spec.specs.Messages.{Place as SpecPlace, at_input, at_values, at_dump, at_output, at_error, fault_text}
use Rattle.sx_cli.specs.declared.telling.Place.{Place}
use Rattle.sx_cli.specs.declared.telling.Place.TheVariants.{Input, Values, Dump, Output, Error}

-- the place of the definitions
abbrev pub place_of : Place → SpecPlace
place_of Input = at_input
place_of Values = at_values
place_of Dump = at_dump
place_of Output = at_output
place_of Error = at_error

-- the message was told whole, and the status is the one that goes with it
pub record IsTold (text : Text) (status : Status) (old new : Option (List ℕ)) (result : Status) : Type 0 where
  pub is : result ≡ status
  pub err : Appends old new text

-- a write failed in the midst of it, and the message of that followed as far as it went
pub record IsCutOff (text : Text) (old new : Option (List ℕ)) (before after : ℕ) (result : Status) : Type 0 where
  pub is : result ≡ Fault
  pub part : Text
  pub note : Text
  pub err : Appends old new (part ++ note)
  pub begins : IsPrefix part text
  pub note_begins : IsPrefix note (fault_text at_error)
  pub cause : Rose before after

-- the message was told, or a write of it failed
abbrev pub Tells : Text → Status → Option (List ℕ) → Option (List ℕ) → ℕ → ℕ → Status → Type 0
Tells text status old new before after result = IsTold text status old new result ⊎ IsCutOff text old new before after result

-- that a call on the object of the place failed was told, as far as it went
pub record Fails (place : SpecPlace) (old new : Option (List ℕ)) (before after : ℕ) (result : Status) : Type 0 where
  pub is : result ≡ Fault
  pub note : Text
  pub err : Appends old new note
  pub begins : IsPrefix note (fault_text place)
  pub calm : ¬ Rose before after → note ≡ fault_text place

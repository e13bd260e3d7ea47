-- A dump that is written to its file, and the line on it to out; or what is told in their place.
use Rattle.std.specs.Prelude.{◌≡◌, ◌⊎◌, ℕ, List}
use Rattle.std.specs.Io.KnownBytes.{Keeps, Appends}
use Rattle.sx_edge.specs.Parts.{AppendsPrefix}
use Rattle.sx_spec.specs.declared.Status.{Status}
use Rattle.sx_spec.specs.declared.Status.TheVariants.{Done, SeedsFailed, Memory}
use Rattle.sx_spec.specs.Causes.{Rose}
use Rattle.sx_spec.specs.Command.{Text, BuildTask}
use Rattle.sx_spec.specs.Layout.{words_bytes}
use Rattle.sx_spec.specs.Messages.{at_dump, at_output, memory_text}
use Rattle.sx_spec.specs.World.{World, SetsFile}
use Rattle.sx_trial.specs.Seeds.{IsReady, AllFail}
use Rattle.sx_cli.specs.Telling.{Tells, Fails}
use Rattle.sx_cli.specs.Writing.{SetsPart}

-- the dump and the line were written
pub record IsWritten (name : Text) (words line : List ℕ) (old new : World) (result : Status) : Type 0 where
  pub is : result ≡ Done
  pub files : SetsFile name (words_bytes words) old.files new.files
  pub out : Appends old.out new.out line
  pub err : Keeps old.err new.err

-- a call on the shelf failed, and out was left alone
pub record IsFileCut (name : Text) (words : List ℕ) (old new : World) (result : Status) : Type 0 where
  pub files : SetsPart name (words_bytes words) old.files new.files
  pub out : Keeps old.out new.out
  pub count : new.faults.out ≡ old.faults.out
  pub cause : Rose old.faults.shelf new.faults.shelf
  pub told : Fails at_dump old.err new.err old.faults.err new.faults.err result

-- the dump was written, and a write of the line failed
pub record IsLineCut (name : Text) (words line : List ℕ) (old new : World) (result : Status) : Type 0 where
  pub files : SetsFile name (words_bytes words) old.files new.files
  pub out : AppendsPrefix old.out new.out line
  pub cause : Rose old.faults.out new.faults.out
  pub told : Fails at_output old.err new.err old.faults.err new.faults.err result

-- one of the three
abbrev pub Stores : Text → List ℕ → List ℕ → World → World → Status → Type 0
Stores name words line old new result = IsWritten name words line old new result ⊎ (IsFileCut name words old new result ⊎ IsLineCut name words line old new result)

-- nothing was written but a message
pub record IsUnstored (text : Text) (status : Status) (old new : World) (result : Status) : Type 0 where
  pub files : new.files ≡ old.files
  pub out : Keeps old.out new.out
  pub told : Tells text status old.err new.err old.faults.err new.faults.err result

-- a dump was ready and was stored
pub record StoresReady (task : BuildTask) (keys : List Text) (values : List ℕ) (old new : World) (result : Status) : Type 0 where
  pub words : List ℕ
  pub line : List ℕ
  pub ready : IsReady task.plan task.seeds keys values words line
  pub stores : Stores task.dump words line old new result

-- no seed works, and that is told
pub record TellsFailures (task : BuildTask) (keys : List Text) (values : List ℕ) (old new : World) (result : Status) : Type 0 where
  pub message : Text
  pub fail : AllFail task.plan task.seeds keys values message
  pub unstored : IsUnstored message SeedsFailed old new result

-- what a build of these keys and values comes to
abbrev pub GivenEnds : BuildTask → List Text → List ℕ → World → World → Status → Type 0
GivenEnds task keys values old new result =
    StoresReady task keys values old new result ⊎ (TellsFailures task keys values old new result ⊎ IsUnstored memory_text Memory old new result)

-- Files by name, of which at most one is in use.
use Rattle.std.specs.Prelude.{◌≡◌, ⊤, ℕ, List, ◌++◌, Option, Some, None, IsSome, IfSome}
use Rattle.sx_spec.specs.Command.{Text}
use Rattle.sx_spec.specs.World.{Files, SetsFile}
use Rattle.sx_spec_strings.specs.Bits.{IsPrefix}

-- whether no file is in use, one is being read or one is being written
pub data Use : Type 0 where
  idle : Use
  reading : Use
  writing : Use

-- the file is there, and all of it is to be read, where files are told
abbrev pub Opens : Text → Option Files → Option (List ℕ) → Type 0
Opens name None rest = ⊤
Opens name (Some files) rest = IsSome (files name) × (rest ≡ files name)

-- no file has the name, where files are told
abbrev pub IsAbsent : Text → Option Files → Type 0
IsAbsent name None = ⊤
IsAbsent name (Some files) = files name ≡ None

-- the file being written, where its name is told and it is there, grew by these bytes, and every other is as it was
abbrev pub AppendsFile : Option Text → Option Files → Option Files → List ℕ → Type 0
AppendsFile None old new part = ⊤
AppendsFile (Some name) None new part = ⊤
AppendsFile (Some name) (Some files) new part = IfSome (files name) (λ bytes. SetsFile name (bytes ++ part) (Some files) new)

-- the file being written grew by a prefix of these bytes, and every other is as it was
abbrev pub AppendsFilePrefix : Option Text → Option Files → Option Files → List ℕ → Type 0
AppendsFilePrefix to old new bytes = (part : List ℕ) × IsPrefix part bytes × AppendsFile to old new part

-- What is left of a file whose writing stopped before its end.
use Rattle.std.specs.Prelude.{ℕ, List, Option, ◌⊎◌}
use Rattle.sx_spec_strings.specs.Bits.{IsPrefix}
use Rattle.sx_spec.specs.Command.{Text}
use Rattle.sx_spec.specs.World.{Files, SetsFile, KeepsFiles}

-- files are as they were, but for the named one, which may hold a prefix of the bytes
abbrev pub SetsPart : Text → List ℕ → Option Files → Option Files → Type 0
SetsPart name bytes old new = KeepsFiles old new ⊎ ((part : List ℕ) × IsPrefix part bytes × SetsFile name part old new)

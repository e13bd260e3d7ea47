-- What is left behind where a write stops before its end.
use Rattle.std.specs.Prelude.{ℕ, List, Option}
use Rattle.std.specs.Io.KnownBytes.{Appends}
use Rattle.sx_spec_strings.specs.Bits.{IsPrefix}

-- known bytes grow by a prefix of these
abbrev pub AppendsPrefix : Option (List ℕ) → Option (List ℕ) → List ℕ → Type 0
AppendsPrefix old new bytes = (part : List ℕ) × IsPrefix part bytes × Appends old new part

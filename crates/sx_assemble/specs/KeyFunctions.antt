-- The functions that give each key its offset and its code.
use Rattle.std.specs.Prelude.{ℕ, ◌≤◌, ◌⊎◌, List}
use Rattle.sx_spec.specs.declared.Method.{Method}
use Rattle.sx_spec.specs.declared.Signature.{Signature}
use Rattle.sx_spec.specs.Parts.{least_width}
use Rattle.sx_static.specs.declared.FuncBuf.{FuncBuf}
use Rattle.sx_static.specs.Answer.{IsDone, entries_of}
use Rattle.sx_assemble.specs.declared.lcp2.KeyFunctions.{KeyFunctions}
use Rattle.sx_parts.specs.declared.parts.Stop.{Stop}
use Rattle.sx_parts.specs.Assembling.{tries}
use Rattle.sx_parts.specs.Sectioning.{StopsPart}

-- the functions give the signatures their offsets, as wide as the greatest, and their codes of so many bits
pub record AreKeyFunctions (method : Method) (sigs : List Signature) (offsets codes : List ℕ) (bits : ℕ) (f : KeyFunctions) : Type 0 where
  pub first : IsDone method tries (least_width offsets) (entries_of sigs offsets) f.offsets
  pub second : IsDone method tries bits (entries_of sigs codes) f.codes
  pub narrow : f.offsets.width ≤ 64

-- part 0 has a function and part 1 has none
pub record StopsSecond (method : Method) (sigs : List Signature) (offsets codes : List ℕ) (stop : Stop) : Type 0 where
  pub first : FuncBuf
  pub done : IsDone method tries (least_width offsets) (entries_of sigs offsets) first
  pub second : StopsPart 1 method (entries_of sigs codes) stop

-- part 0 has no function, or part 1 has none
abbrev pub StopsKeyFunctions : Method → List Signature → (offsets codes : List ℕ) → Stop → Type 0
StopsKeyFunctions method sigs offsets codes stop = StopsPart 0 method (entries_of sigs offsets) stop ⊎ StopsSecond method sigs offsets codes stop

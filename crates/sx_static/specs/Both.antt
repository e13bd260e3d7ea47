-- Two functions over the same signatures, whose values are bits of the values of one.
use Rattle.std.specs.Prelude.{◌≡◌, ℕ, ◌/◌, ◌%◌, ◌^◌, List, map}
use Rattle.sx_spec.specs.declared.Method.TheVariants.{Mwhc}
use Rattle.sx_spec.specs.declared.Signature.{Signature}
use Rattle.sx_spec.specs.StaticFunction.{Entry}
use Rattle.sx_static.specs.Answer.{IsAnswer, IsDone, entries_of}
use Rattle.sx_static.specs.declared.Built.{Built}
use Rattle.sx_static.specs.declared.FuncBuf.{FuncBuf}
use Rattle.sx_static.specs.declared.Built.TheVariants.{Twins, Stuck}
use Rattle.sx_static.specs.declared.both.Both.{Both}
use Rattle.sx_static.specs.declared.both.Both.TheVariants.{Done as DoneBoth, Twins as TwinsBoth, Stuck as StuckBoth}

-- the bits of a number from a bit on, so many
abbrev pub bits_from : (shift width v : ℕ) → ℕ
bits_from shift width v = v / 2 ^ shift % 2 ^ width

-- the function has the chunks of the whole, and of each cell so many bits from a bit on
pub record IsPartOf (shift many : ℕ) (whole part : FuncBuf) : Type 0 where
  pub width : part.width ≡ many
  pub pairs : part.pairs ≡ whole.pairs
  pub table : part.table.items ≡ whole.table.items
  pub cell_width : part.cells.width ≡ many
  pub cells : part.cells.items ≡ map (bits_from shift many) whole.cells.items

-- the signatures with these bits of their values
abbrev pub part_entries : ℕ → ℕ → List Signature → List ℕ → List Entry
part_entries shift width sigs values = entries_of sigs (map (bits_from shift width) values)

-- this is what a build answers for the lowest bits of the values and for those from a bit on
abbrev pub IsBothAnswer : ℕ → (low shift high : ℕ) → List Signature → List ℕ → Built → Type 0
IsBothAnswer tries low shift high sigs values b =
    IsAnswer Mwhc tries low (part_entries 0 low sigs values) b × IsAnswer Mwhc tries high (part_entries shift high sigs values) b

-- the two functions as they are built for the lowest bits of the values and for those from a bit on, or why there are none, which is the same for both
abbrev pub AreBoth : ℕ → (low shift high : ℕ) → List Signature → List ℕ → Both → Type 0
AreBoth tries low shift high sigs values (DoneBoth f g) =
    IsDone Mwhc tries low (part_entries 0 low sigs values) f × IsDone Mwhc tries high (part_entries shift high sigs values) g
AreBoth tries low shift high sigs values (TwinsBoth first second) = IsBothAnswer tries low shift high sigs values (Twins first second)
AreBoth tries low shift high sigs values (StuckBoth chunk witnesses) = IsBothAnswer tries low shift high sigs values (Stuck chunk witnesses)

-- What a build answers: the function, or why there is none.
use Rattle.std.specs.Prelude.{◌≡◌, ℕ, ◌<◌, ◌^◌, List, map, zip, ⊤}
use Rattle.std.specs.List.{AllByRecursion}
use Rattle.sx_spec.specs.declared.Method.{Method}
use Rattle.sx_spec.specs.declared.Method.TheVariants.{Mwhc, Gov3}
use Rattle.sx_spec.specs.declared.Signature.{Signature}
use Rattle.sx_spec.specs.Layout.{table_chunks, table_words}
use Rattle.sx_spec.specs.StaticFunction.{Entry, Function, twins, stuck, IsCause, IsBuiltFunction}
use Rattle.sx_static.specs.declared.Built.{Built}
use Rattle.sx_static.specs.declared.Built.TheVariants.{Done, Twins, Stuck}
use Rattle.sx_static.specs.declared.FuncBuf.{FuncBuf}
use Rattle.sx_static.specs.declared.Witness.{Witness}
use Rattle.sx_static.specs.declared.Witness.TheVariants.{Core, Sum}

-- each signature with its value
abbrev pub entries_of : List Signature → List ℕ → List Entry
entries_of sigs values = zip sigs values

-- the function with the chunks of the table
abbrev pub function_of : FuncBuf → Function
function_of f = record { width = f.width; pairs = f.pairs; chunks = table_chunks f.table.items; cells = f.cells.items }

-- the function is as it is built by one of so many tries, its table is that of its chunks, and its cells have its width
pub record IsDone (method : Method) (tries width : ℕ) (entries : List Entry) (f : FuncBuf) : Type 0 where
  pub built : IsBuiltFunction method width entries (function_of f)
  pub tried : AllByRecursion (λ c. c.try < tries) (function_of f).chunks
  pub table : f.table.items ≡ table_words 0 (function_of f).chunks
  pub cell_width : f.cells.width ≡ width
  pub cells : AllByRecursion (λ v. v < 2 ^ width) f.cells.items

-- the pairs that a witness names
abbrev pub witness_numbers : Witness → List ℕ
witness_numbers (Core numbers) = numbers.items
witness_numbers (Sum numbers) = numbers.items

-- a core refutes peeling, and a sum a solution
abbrev pub IsWitnessOf : Method → Witness → Type 0
IsWitnessOf Mwhc (Core numbers) = ⊤
IsWitnessOf Mwhc (Sum numbers) = ⊥
IsWitnessOf Gov3 (Core numbers) = ⊥
IsWitnessOf Gov3 (Sum numbers) = ⊤

-- this is what a build with so many tries answers
abbrev pub IsAnswer : Method → ℕ → ℕ → List Entry → Built → Type 0
IsAnswer method tries width entries (Done f) = IsDone method tries width entries f
IsAnswer method tries width entries (Twins first second) = IsCause method tries entries (twins first second)
IsAnswer method tries width entries (Stuck chunk witnesses) =
    IsCause method tries entries (stuck chunk (map witness_numbers witnesses.items)) × AllByRecursion (IsWitnessOf method) witnesses.items

-- The file of the system that is in use.
use Rattle.std.specs.Prelude.{ℕ, List, Option, None}
use Rattle.sx_edge.specs.Shelf.{Use, idle, reading, writing}
use Rattle.sux.specs.declared.shelf.InUse.{InUse}
use Rattle.sux.specs.declared.shelf.InUse.TheVariants.{Idle, Reading, Writing}

-- whether no file is in use, one is being read or one is being written
abbrev pub use_of : {F : Type 0} → InUse F → Use
use_of Idle = idle
use_of (Reading file) = reading
use_of (Writing file) = writing

-- what is left of the file being read, where files tell it
abbrev pub rest_of : {F : Type 0} → (F → Option (List ℕ)) → InUse F → Option (List ℕ)
rest_of left Idle = None
rest_of left (Reading file) = left file
rest_of left (Writing file) = None

use Rattle.std.proofs.Common.{◌≡◌, map, take}
use Rattle.std.specs.Prelude.{sum_by}
use Rattle.sx_static.specs.Chunks.{cells_needed}
use Rattle.sx_static.proofs.table.all_cells.Given as goal

abbrev pub invariant-loop-numbers : goal.invariant-loop-numbers
invariant-loop-numbers l = l.cells ≡ sum_by (cells_needed l.method) (take l.numbers-index (map (λ v. v.items) l.chunks))

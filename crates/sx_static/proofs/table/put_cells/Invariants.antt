use Rattle.std.proofs.Common.{◌≡◌, ◌+◌, ◌++◌, ◌<◌, ◌^◌, All, length, take}
use Rattle.sx_static.proofs.table.put_cells.Given as goal

abbrev pub invariant-loop-place : goal.invariant-loop-place
invariant-loop-place l = record {
  width : l.cells.width ≡ l.initial.cells.width;
  count : length l.cells.items ≡ length l.initial.cells.items;
  items : take (l.start + l.place) l.cells.items ≡ take l.start l.initial.cells.items ++ take l.place l.found;
  fit : All (λ v. v < 2 ^ l.initial.cells.width) l.initial.cells.items → All (λ v. v < 2 ^ l.initial.cells.width) l.cells.items;
}

use Rattle.std.proofs.Common.{◌≡◌, length, map, take}
use Rattle.sx_static.specs.Both.{bits_from}
use Rattle.sx_static.proofs.both.part_counted.Given as goal

abbrev pub invariant-loop-place : goal.invariant-loop-place
invariant-loop-place g l = record {
  width : l.part.width ≡ l.width;
  count : length l.part.items ≡ length l.cells.items;
  items : take l.place l.part.items ≡ map (bits_from l.shift l.width) (take l.place l.cells.items);
}

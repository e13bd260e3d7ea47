use Rattle.std.proofs.Common.{◌≡◌, ◌<◌, ◌^◌, All, length, map, take}
use Rattle.std.specs.Prelude.{sum_by}
use Rattle.sx_static.specs.Answer.{entries_of}
use Rattle.sx_static.specs.Chunks.{AreFound, cells_needed}
use Rattle.sx_static.proofs.table.build_chunks.Given as goal

abbrev pub invariant-loop-chunk : goal.invariant-loop-chunk
invariant-loop-chunk l = record {
  found : AreFound l.method (entries_of l.sigs l.values) l.chunk l.start l.table.items l.cells.items;
  start : l.start ≡ sum_by (cells_needed l.method) (take l.chunk (map (λ v. v.items) l.chunks));
  count : length l.cells.items ≡ l.total;
  width : l.cells.width ≡ l.width;
  fit : All (λ v. v < 2 ^ l.width) l.cells.items;
}

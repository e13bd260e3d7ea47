use Rattle.std.proofs.Common.{◌≡◌, ◌-◌, ◌≤◌, length, take}
use Rattle.std.specs.Io.KnownBytes.{Consumes}
use Rattle.sx_spec.specs.World.{KeepsFiles}
use Rattle.sx_edge.specs.Shelf.{reading}
use Rattle.sx_edge.proofs.shelf.fill_buffer.Given as goal

abbrev pub invariant-reads : goal.invariant-reads
invariant-reads g l = record {
  within : l.len ≤ length l.buf;
  taken : Consumes (g.F.Shelf.rest l.initial.files) (g.F.Shelf.rest l.files) (take l.len l.buf);
  stays : g.F.Shelf.in_use l.files ≡ reading;
  kept : KeepsFiles (g.F.Shelf.files l.initial.files) (g.F.Shelf.files l.files);
  calm : g.F.Shelf.faults l.files ≡ g.F.Shelf.faults l.initial.files;
}

abbrev pub decreases-reads : goal.decreases-reads
decreases-reads g l = length l.buf - l.len

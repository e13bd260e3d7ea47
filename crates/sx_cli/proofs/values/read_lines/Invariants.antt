use Rattle.std.proofs.Common.{◌≡◌, ◌+◌, ◌-◌}
use Rattle.sx_spec.specs.World.{KeepsFiles}
use Rattle.sx_edge.specs.Shelf.{reading}
use Rattle.sx_cli.specs.ValueLines.{ReadingValues}
use Rattle.sx_cli.proofs.values.read_lines.Given as goal

abbrev pub invariant-lines : goal.invariant-lines
invariant-lines g l = record {
  reading_on : ReadingValues l.keys (g.F.Shelf.rest l.initial.files) (g.F.Shelf.rest l.files) l.reader l.values.items;
  calm : g.F.Shelf.faults l.files ≡ g.F.Shelf.faults l.initial.files;
  stays : g.F.Shelf.in_use l.files ≡ reading;
  kept : KeepsFiles (g.F.Shelf.files l.initial.files) (g.F.Shelf.files l.files);
}

abbrev pub decreases-lines : goal.decreases-lines
decreases-lines g l = l.keys + 1 - l.reader.number

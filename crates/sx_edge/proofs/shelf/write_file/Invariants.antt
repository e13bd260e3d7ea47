use Rattle.std.proofs.Common.{◌≡◌, length}
use Rattle.sx_edge.specs.Shelf.{writing}
use Rattle.sx_edge.proofs.Writing.{WroteFile}
use Rattle.sx_edge.proofs.shelf.write_file.Given as goal

abbrev pub invariant-loop-rest : goal.invariant-loop-rest
invariant-loop-rest g l = record {
  wrote : WroteFile (g.F.Shelf.writing_to l.initial.files) (g.F.Shelf.files l.initial.files) (g.F.Shelf.files l.files) l.bytes l.rest;
  stays : g.F.Shelf.in_use l.files ≡ writing;
  same : g.F.Shelf.writing_to l.files ≡ g.F.Shelf.writing_to l.initial.files;
  calm : g.F.Shelf.faults l.files ≡ g.F.Shelf.faults l.initial.files;
}

abbrev pub decreases-loop-rest : goal.decreases-loop-rest
decreases-loop-rest g l = length l.rest

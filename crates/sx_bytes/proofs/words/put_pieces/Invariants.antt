use Rattle.std.proofs.Common.{◌≡◌, ◌*◌, take}
use Rattle.sx_spec.specs.Layout.{words_bytes}
use Rattle.sx_edge.specs.Shelf.{writing, AppendsFile}
use Rattle.sx_bytes.proofs.words.put_pieces.Given as goal

abbrev pub invariant-pieces : goal.invariant-pieces
invariant-pieces g l = record {
  wrote : AppendsFile (g.F.Shelf.writing_to l.initial.files) (g.F.Shelf.files l.initial.files) (g.F.Shelf.files l.files) (words_bytes (take (1024 * l.i) l.words));
  stays : g.F.Shelf.in_use l.files ≡ writing;
  same : g.F.Shelf.writing_to l.files ≡ g.F.Shelf.writing_to l.initial.files;
  calm : g.F.Shelf.faults l.files ≡ g.F.Shelf.faults l.initial.files;
}

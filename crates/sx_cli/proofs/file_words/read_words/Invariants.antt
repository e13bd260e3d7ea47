use Rattle.std.proofs.Common.{◌≡◌, vec_len}
use Rattle.sx_spec.specs.World.{KeepsFiles}
use Rattle.sx_edge.specs.Shelf.{reading}
use Rattle.sx_cli.proofs.FileReadings.{ReadSoFar}
use Rattle.sx_cli.proofs.file_words.read_words.Given as goal

abbrev pub invariant-pieces : goal.invariant-pieces
invariant-pieces g l = record {
  so_far : ReadSoFar (g.F.Shelf.rest l.initial.files) (g.F.Shelf.rest l.files) l.words.items l.i;
  size : vec_len l.piece ≡ 65536;
  stays : g.F.Shelf.in_use l.files ≡ reading;
  kept : KeepsFiles (g.F.Shelf.files l.initial.files) (g.F.Shelf.files l.files);
  calm : g.F.Shelf.faults l.files ≡ g.F.Shelf.faults l.initial.files;
}

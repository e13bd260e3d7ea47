use Rattle.std.proofs.Common.{◌≡◌, ◌≤◌, ◌++◌, take}
use Rattle.sx_static.specs.Viewing.{viewed}
use Rattle.sx_dump.specs.Showing.{IsShown, chunk_lines}
use Rattle.sx_dump.proofs.show.show_chunks.Given as goal

abbrev pub invariant-chunks : goal.invariant-chunks
invariant-chunks g l = record {
  shown : IsShown (g.O.Sink.written l.initial.out) (g.O.Sink.written l.out)
      (l.initial.page.bytes ++ chunk_lines (take l.i (viewed (g.B.WordBank.words_of l.values.bank) l.values.first l.values.width l.values.pairs).chunks))
      l.page.bytes;
  calm : g.O.Sink.faults l.out ≡ g.O.Sink.faults l.initial.out;
  counted : l.initial.steps ≤ l.steps;
}

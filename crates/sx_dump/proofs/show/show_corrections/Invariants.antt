use Rattle.std.proofs.Common.{◌≡◌, ◌≤◌, ◌++◌, take}
use Rattle.sx_sig.specs.SignatureWords.{signatures_at}
use Rattle.sx_dump.specs.Showing.{IsShown, signature_lines}
use Rattle.sx_dump.proofs.show.show_corrections.Given as goal

abbrev pub invariant-signatures : goal.invariant-signatures
invariant-signatures g l = record {
  shown : IsShown (g.O.Sink.written l.initial.out) (g.O.Sink.written l.out)
      (l.initial.page.bytes ++ signature_lines (take l.i (signatures_at (g.B.WordBank.words_of l.bank) l.corrections.body l.corrections.count)))
      l.page.bytes;
  calm : g.O.Sink.faults l.out ≡ g.O.Sink.faults l.initial.out;
  counted : l.initial.steps ≤ l.steps;
}

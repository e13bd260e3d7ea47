use Rattle.std.proofs.Common.{◌≡◌, ◌≤◌, ◌++◌, take, drop}
use Rattle.sx_spec.specs.Fields.{fields}
use Rattle.sx_dump.specs.Showing.{IsShown, number_lines}
use Rattle.sx_dump.proofs.show.show_numbers.Given as goal

abbrev pub invariant-numbers : goal.invariant-numbers
invariant-numbers g l = record {
  shown : IsShown (g.O.Sink.written l.initial.out) (g.O.Sink.written l.out)
      (l.initial.page.bytes ++ number_lines l.word (take l.i (fields l.numbers.width l.numbers.len (drop l.numbers.first (g.B.WordBank.words_of l.numbers.bank)))))
      l.page.bytes;
  calm : g.O.Sink.faults l.out ≡ g.O.Sink.faults l.initial.out;
  counted : l.initial.steps ≤ l.steps;
}

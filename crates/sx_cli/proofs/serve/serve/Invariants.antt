use Rattle.std.proofs.Common.{◌≡◌, ◌-◌, ◌≤◌}
use Rattle.sx_dump.specs.Opening.{dump_in}
use Rattle.sx_cli.specs.Serving.{Serving}
use Rattle.sx_cli.proofs.serve.serve.Given as goal

abbrev pub invariant-lines : goal.invariant-lines
invariant-lines g l = record {
  serving : Serving (dump_in (g.B.WordBank.words_of l.dump.bank)) (g.S.Source.left l.fn.input) (g.S.Source.left l.input) l.reader (g.O.Sink.written l.fn.out) (g.O.Sink.written l.out) l.replies (l.steps - l.fn.steps);
  counted : l.fn.steps ≤ l.steps;
  calm : g.S.Source.faults l.input ≡ g.S.Source.faults l.fn.input;
  calm_out : g.O.Sink.faults l.out ≡ g.O.Sink.faults l.fn.out;
}

abbrev pub decreases-lines : goal.decreases-lines
decreases-lines g l = 4294967297 - l.reader.number

use Rattle.std.proofs.Common.{◌≡◌, ◌-◌, ◌≤◌, length, None}
use Rattle.sx_spec.specs.Keys.{standard_limits}
use Rattle.sx_spec.specs.Keys.{AreKeys}
use Rattle.sx_cli.specs.Progress.{Progress}
use Rattle.sx_cli.proofs.keys.read_keys.Given as goal
use Rattle.sx_cli.specs.Lines.{longest_line}

abbrev pub invariant-lines : goal.invariant-lines
invariant-lines g l = record {
  progress : Progress (g.S.Source.left l.initial.input) (g.S.Source.left l.input) l.reader.held l.reader.ended l.keys.lines;
  limits : l.keys.limits ≡ standard_limits;
  valid : AreKeys standard_limits l.keys.lines;
  number : l.reader.number ≡ length l.keys.lines;
  max : l.reader.max ≡ longest_line;
  fault : l.reader.fault ≡ None;
  few : length l.keys.lines ≤ 4194304;
  calm : g.S.Source.faults l.input ≡ g.S.Source.faults l.initial.input;
}

abbrev pub decreases-lines : goal.decreases-lines
decreases-lines g l = 4194305 - length l.keys.lines

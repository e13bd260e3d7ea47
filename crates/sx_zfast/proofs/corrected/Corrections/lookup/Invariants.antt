use Rattle.std.proofs.Common.{◌+◌, ◌-◌, ◌*◌, ◌≤◌}
use Rattle.sx_spec_strings.specs.Numbers.{binary_digits}
use Rattle.sx_zfast.proofs.SignatureOrder.{IsBetween}
use Rattle.sx_zfast.proofs.corrected.Corrections.lookup.Given as goal

abbrev pub invariant-loop-low : goal.invariant-loop-low
invariant-loop-low g l = record {
  ordered : l.low ≤ l.high;
  high : l.high ≤ l.self.count;
  counted : l.initial.steps ≤ l.steps;
  cost : l.steps + 3 * binary_digits (l.high - l.low) ≤ l.initial.steps + 3 * binary_digits l.self.count;
  between : IsBetween (g.B.WordBank.words_of l.self.bank) l.self.first l.self.count l.sig l.low l.high;
}

abbrev pub decreases-loop-low : goal.decreases-loop-low
decreases-loop-low g l = l.high - l.low

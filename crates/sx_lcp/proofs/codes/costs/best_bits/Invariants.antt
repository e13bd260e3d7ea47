use Rattle.std.proofs.Common.{◌≡◌, ◌-◌, ◌<◌}
use Rattle.sx_spec_strings.specs.Numbers.{least_at}
use Rattle.sx_spec_kinds.specs.TwoStep.{cost_of}
use Rattle.sx_lcp.proofs.codes.costs.best_bits.Given as goal

abbrev pub invariant-loop-bits : goal.invariant-loop-bits
invariant-loop-bits l = record {
  best : l.best ≡ least_at (cost_of l.values) (l.bits - 1);
  least : l.least ≡ cost_of l.values l.best;
  before : l.best < l.bits;
}

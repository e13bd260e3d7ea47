use Rattle.std.proofs.Common.{◌≡◌}
use Rattle.sx_spec.specs.Keys.{standard_limits}
use Rattle.sx_spec.specs.Trial.{trial_keys}
use Rattle.sx_trial.proofs.made.made_keys.Given as goal

abbrev pub invariant-loop-number : goal.invariant-loop-number
invariant-loop-number l = record {
  limits : l.keys.limits ≡ standard_limits;
  lines : l.keys.lines ≡ trial_keys l.number;
}

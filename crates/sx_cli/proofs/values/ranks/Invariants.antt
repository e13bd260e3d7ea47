use Rattle.std.proofs.Common.{◌≡◌}
use Rattle.sx_spec.specs.Values.{plain_values}
use Rattle.sx_cli.proofs.values.ranks.Given as goal

abbrev pub invariant-loop-i : goal.invariant-loop-i
invariant-loop-i l = l.values.items ≡ plain_values l.i

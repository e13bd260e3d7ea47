use Rattle.std.specs.Prelude.{◌≡◌}
use Rattle.sx_spec.specs.Values.{plain_values}
use Rattle.sux_c.proofs.building.ranks.Given as goal

abbrev pub invariant-loop-i : goal.invariant-loop-i
invariant-loop-i l = l.values.items ≡ plain_values l.i

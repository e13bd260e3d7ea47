use Rattle.std.proofs.Common.{◌≡◌}
use Rattle.sx_assemble_tests.proofs.tests.keys_of.Given as goal

abbrev pub invariant-loop-line : goal.invariant-loop-line
invariant-loop-line g l = l.keys.limits.max_line ≡ 8191

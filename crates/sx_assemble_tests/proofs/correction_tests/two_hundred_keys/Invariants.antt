use Rattle.std.proofs.Common.{◌≡◌}
use Rattle.sx_assemble_tests.proofs.correction_tests.two_hundred_keys.Given as goal

abbrev pub invariant-loop-number : goal.invariant-loop-number
invariant-loop-number g l = l.keys.limits.max_line ≡ 8191

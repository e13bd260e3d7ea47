-- The list keeps its limits.
use Rattle.std.proofs.Common.{◌≡◌}
use Rattle.sux_fuzz.proofs.keys.keys.Given as goal

abbrev pub invariant-loop-key : goal.invariant-loop-key
invariant-loop-key l = l.list.limits ≡ l.initial.list.limits

use Rattle.std.proofs.Common.{◌≡◌, length}
use Rattle.sx_solve.proofs.standing.counts_of.Given as goal

abbrev pub invariant-loop-unknown : goal.invariant-loop-unknown
invariant-loop-unknown l = length l.counts.items ≡ l.unknown

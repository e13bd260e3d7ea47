use Rattle.std.proofs.Common.{◌≡◌, map, take}
use Rattle.sx_assemble.proofs.hollow_dist.turns_of.Given as goal

abbrev pub invariant-loop-pair : goal.invariant-loop-pair
invariant-loop-pair l = l.turns.items ≡ map (λ p. p.turn) (take l.pair-index l.pairs)

use Rattle.std.proofs.Common.{◌≡◌, map, take}
use Rattle.sx_pairs.specs.Pairs.{turn_number}
use Rattle.sx_assemble.proofs.hollow_dist.turn_numbers.Given as goal

abbrev pub invariant-loop-turn : goal.invariant-loop-turn
invariant-loop-turn l = l.numbers.items ≡ map turn_number (take l.turn-index l.turns)

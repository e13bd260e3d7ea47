use Rattle.std.proofs.Common.{◌≡◌, take}
use Rattle.sx_spec.specs.Systems.{chosen}
use Rattle.sx_static.proofs.chunk.signatures_at.Given as goal

abbrev pub invariant-loop-number : goal.invariant-loop-number
invariant-loop-number l = l.found.items ≡ chosen l.sigs (take l.number-index l.numbers)

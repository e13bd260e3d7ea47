use Rattle.std.proofs.Common.{◌≡◌, take}
use Rattle.sx_sections.proofs.slots.listed.Given as goal

abbrev pub invariant-loop-slot : goal.invariant-loop-slot
invariant-loop-slot l = l.list.items ≡ take l.slot-index l.slots

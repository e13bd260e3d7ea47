use Rattle.std.proofs.Common.{◌≡◌, map, take}
use Rattle.sx_assemble.specs.Handling.{entry_for}
use Rattle.sx_assemble.proofs.zfast.sorted_entries.Given as goal

abbrev pub invariant-loop-one : goal.invariant-loop-one
invariant-loop-one l = l.entries.items ≡ map (entry_for l.sigs) (take l.one-index l.corrected)

use Rattle.std.proofs.Common.{◌≡◌, map, take}
use Rattle.sx_assemble.proofs.zfast.block_list.Given as goal

abbrev pub invariant-loop-entry : goal.invariant-loop-entry
invariant-loop-entry l = l.blocks.items ≡ map (λ e. e.1) (take l.entry-index l.entries)

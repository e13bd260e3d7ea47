use Rattle.std.proofs.Common.{◌≡◌, map, take}
use Rattle.sx_assemble.proofs.zfast.signatures_in.Given as goal

abbrev pub invariant-loop-entry : goal.invariant-loop-entry
invariant-loop-entry l = l.sigs.items ≡ map (λ e. e.0) (take l.entry-index l.entries)

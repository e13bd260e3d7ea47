use Rattle.std.proofs.Common.{◌≡◌, map, take}
use Rattle.sx_sig.specs.Grouping.{numbered}
use Rattle.sx_sig.proofs.grouping.fill.Given as goal

abbrev pub invariant-loop-number : goal.invariant-loop-number
invariant-loop-number l = l.ordered.items ≡ map (numbered l.sigs) (take l.number-index l.numbers)

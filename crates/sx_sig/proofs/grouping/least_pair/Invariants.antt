use Rattle.std.proofs.Common.{map, take}
use Rattle.sx_sig.specs.Grouping.{IsFound, IsLeastFound}
use Rattle.sx_sig.proofs.grouping.least_pair.Given as goal

abbrev pub invariant-loop-numbers : goal.invariant-loop-numbers
invariant-loop-numbers l = record {
  found : IsFound l.sigs l.found.first l.found.second;
  least : IsLeastFound l.sigs (take l.numbers-index (map (λ v. v.items) l.lists)) l.found.second;
}

use Rattle.std.proofs.Common.{◌≡◌, map, take}
use Rattle.sx_lcp.specs.Rankings.{value_at}
use Rattle.sx_lcp.proofs.codes.costs.table_by.Given as goal

abbrev pub invariant-loop-entry : goal.invariant-loop-entry
invariant-loop-entry l = l.table.items ≡ map value_at (take l.entry-index l.entry-items)

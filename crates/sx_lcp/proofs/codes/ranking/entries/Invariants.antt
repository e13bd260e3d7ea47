use Rattle.std.proofs.Common.{◌≡◌, ◌++◌, map}
use Rattle.sx_lcp.specs.Rankings.{ranked_entry}
use Rattle.sx_lcp.proofs.codes.ranking.entries.Given as goal

abbrev pub invariant-loop-value : goal.invariant-loop-value
invariant-loop-value l =
    l.entries.items ++ map ranked_entry l.value-iterator ≡ map ranked_entry l.counts.entries

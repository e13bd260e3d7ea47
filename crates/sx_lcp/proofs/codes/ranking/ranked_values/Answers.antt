use Rattle.std.proofs.Common.{List, ℕ, subst}
use Rattle.std.specs.List.Sorted.{IsPermutation}
use Rattle.std.specs.declared.cmp.Reverse.{Reverse}
use Rattle.sx_lcp.proofs.Ranks.{ranked_is}
use Rattle.sx_lcp.proofs.codes.ranking.ranked_values.Goals as goal

pub returns : goal.returns
returns c =
    ranked_is c.args.values.now c.in_ok-counts.counts.entries c.sort_unstable.new.self.items c.entries.ensures.unique c.in_ok-counts.ensures.counts c.in_ok-counts.ensures.some
    (subst (λ (l : List (Reverse ℕ × ℕ)). IsPermutation l c.sort_unstable.new.self.items) c.in_ok-ranked.ensures.entries c.sort_unstable.ensures.permutation)
    c.sort_unstable.ensures.sorted

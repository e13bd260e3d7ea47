use Rattle.std.proofs.Common.{◌≡◌, [], map, replicate}
use Rattle.sx_sig.proofs.grouping.empty_lists.Given as goal

abbrev pub invariant-loop-list : goal.invariant-loop-list
invariant-loop-list l = map (λ u. u.items) l.lists.items ≡ replicate l._list []

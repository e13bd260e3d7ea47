use Rattle.sx_pairs.proofs.NodeLists.{Behind, first_leaves}
use Rattle.sx_pairs.proofs.push_leaves.Given as goal

abbrev pub invariant-loop-leaf : goal.invariant-loop-leaf
invariant-loop-leaf l = Behind l.keys.lines l.fn.pairs.items l.pairs.items (first_leaves l.keys.lines l.delimiters l.first l.leaf)

use Rattle.sx_pairs.proofs.NodeLists.{Behind, first_inner}
use Rattle.sx_pairs.proofs.push_inner.Given as goal

abbrev pub invariant-loop-tag : goal.invariant-loop-tag
invariant-loop-tag l = Behind l.keys.lines l.fn.pairs.items l.pairs.items (first_inner l.keys.lines l.delimiters l.tag)

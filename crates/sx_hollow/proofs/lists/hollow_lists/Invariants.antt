use Rattle.std.proofs.Common.{◌≡◌, take}
use Rattle.sx_spec_kinds.specs.Hollow.{left_counts, skips}
use Rattle.sx_trie.specs.Tries.{delimiter_bits}
use Rattle.sx_hollow.proofs.lists.hollow_lists.Given as goal

abbrev pub invariant-loop-node : goal.invariant-loop-node
invariant-loop-node l = record {
  left : l.left.items ≡ take l.node (left_counts (delimiter_bits l.keys.lines l.members));
  skip : l.skip.items ≡ take l.node (skips (delimiter_bits l.keys.lines l.members));
}

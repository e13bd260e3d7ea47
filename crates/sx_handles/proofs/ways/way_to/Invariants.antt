use Rattle.std.proofs.Common.{◌-◌, length}
use Rattle.sx_spec_strings.specs.Bits.{AreKeyBits}
use Rattle.sx_trie.specs.Tries.{delimiter_bits}
use Rattle.sx_handles.proofs.WayWalk.{Descends}
use Rattle.sx_handles.proofs.ways.way_to.Given as goal

abbrev pub invariant-loop-leaf : goal.invariant-loop-leaf
invariant-loop-leaf l = (keys : AreKeyBits (delimiter_bits l.keys.lines l.trie.delimiters)) → Descends (delimiter_bits l.keys.lines l.trie.delimiters) keys l.leaf l.at l.way.items

abbrev pub decreases-loop-leaf : goal.decreases-loop-leaf
decreases-loop-leaf l = length l.trie.nodes - l.at

use Rattle.std.proofs.Common.{◌≤◌}
use Rattle.sx_spec_kinds.specs.Trie.{extents_of}
use Rattle.sx_trie.specs.Tries.{delimiter_bits}
use Rattle.sx_handles.proofs.NodeHandles.{AreHandles}
use Rattle.sx_handles.proofs.parts.handles.Given as goal

abbrev pub invariant-loop-node : goal.invariant-loop-node
invariant-loop-node l = record {
  some : 1 ≤ l.node;
  are : AreHandles l.keys.lines (extents_of (delimiter_bits l.keys.lines l.delimiters)) l.node l.handles.items;
}

use Rattle.std.proofs.Common.{◌-◌, ◌≤◌, List, ◌++◌, map}
use Rattle.sx_spec_strings.specs.Bits.{Bits, key_bits}
use Rattle.sx_spec_kinds.specs.HollowDistributor.{NodePair as SpecPair}
use Rattle.sx_pairs.specs.Pairs.{ArePairs, key_at, node_pair}
use Rattle.sx_pairs.proofs.NodeFragments.{AreTold}
use Rattle.sx_pairs.proofs.nodes.push_node.Given as goal

abbrev pub invariant-loop-key : goal.invariant-loop-key
invariant-loop-key l = record {
  from : l.start ≤ l.key;
  fragments : List Bits;
  told : AreTold (map key_bits l.keys.lines) (key_at l.keys.lines l.node.key) l.node.name l.node.extent l.end l.key fragments;
  pairs : (before : List SpecPair) → ArePairs l.keys.lines l.fn.pairs.items before
      → ArePairs l.keys.lines l.pairs.items (before ++ map (node_pair l.keys.lines l.node) fragments);
}

abbrev pub decreases-loop-key : goal.decreases-loop-key
decreases-loop-key l = l.end - l.key

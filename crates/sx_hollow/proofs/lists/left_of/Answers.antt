use Rattle.sx_trie.specs.Tries.{node_of}
use Rattle.sx_hollow.proofs.NodeNumbers.{left_at_node, left_ordered}
use Rattle.sx_hollow.proofs.lists.left_of.Goals as goal

pub overflow_sub-result : goal.overflow_sub-result
overflow_sub-result c =
    left_ordered c.args.keys.now.lines c.args.trie.now c.requires.built c.args.node c.requires.inside (node_of c.node-node.result) c.node-node.ensures

pub returns : goal.returns
returns c =
    left_at_node c.args.keys.now.lines c.args.trie.now c.requires.built c.args.node c.requires.inside (node_of c.node-node.result) c.node-node.ensures

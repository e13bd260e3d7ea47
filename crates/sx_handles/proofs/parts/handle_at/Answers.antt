use Rattle.sx_trie.specs.Tries.{node_of}
use Rattle.sx_handles.proofs.NodeHandles.{node_among, handle_piece, handle_string}
use Rattle.sx_handles.proofs.parts.handle_at.Goals as goal

pub bounds-delimiters-node : goal.bounds-delimiters-node
bounds-delimiters-node c =
    (node_among c.args.keys.now.lines c.args.trie.now c.requires.built c.args.delimiters.now c.requires.same c.args.node (node_of c.node.result) c.requires.inside c.node.ensures).leaf

pub returns-clause-piece : goal.returns-clause-piece
returns-clause-piece c =
    handle_piece c.args.keys.now.lines c.args.trie.now c.requires.built c.args.delimiters.now c.requires.same c.args.node (node_of c.node.result) _ c.requires.some c.requires.inside c.node.ensures c.handle_len.ensures

pub returns-clause-string : goal.returns-clause-string
returns-clause-string c =
    handle_string c.args.keys.now.lines c.args.trie.now c.requires.built c.args.delimiters.now c.requires.same c.args.node (node_of c.node.result) _ c.requires.some c.requires.inside c.node.ensures c.handle_len.ensures

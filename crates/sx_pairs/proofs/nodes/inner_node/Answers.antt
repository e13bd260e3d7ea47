use Rattle.std.proofs.Common.{ap, ◌∙◌, arith}
use Rattle.std.specs.Prelude.{[], map, slice_index, slice_index_or}
use Rattle.sx_spec_strings.specs.Bits.{key_bits}
use Rattle.sx_spec_kinds.specs.Trie.{Node, extents_of}
use Rattle.sx_trie.specs.Tries.{node_of, delimiter_bits}
use Rattle.sx_pairs.specs.Pairs.{key_at, name_at, node_pairs, inner_pairs_at}
use Rattle.sx_pairs.proofs.TrieNames.{node_among}
use Rattle.sx_pairs.proofs.NodeLists.{inner_same}
use Rattle.sx_pairs.proofs.nodes.inner_node.Goals as goal

pub bounds-delimiters-node : goal.bounds-delimiters-node
bounds-delimiters-node c =
    (node_among c.args.keys.now.lines c.args.trie.now c.requires.built c.args.delimiters.now c.requires.same c.args.tag (node_of c.node-node.result) c.requires.inside c.node-node.ensures).leaf

pub returns-clause-visited : goal.returns-clause-visited
returns-clause-visited c =
    let is = node_among c.args.keys.now.lines c.args.trie.now c.requires.built c.args.delimiters.now c.requires.same c.args.tag (node_of c.node-node.result) c.requires.inside c.node-node.ensures in
    let extent = ap (λ (n : Node). n.extent) c.node-node.ensures in
    let shorter = c.inner_name.ensures.shorter in
    let within = is.within in
    record {
      key = is.there;
      ordered = omega arith;
      named = omega arith;
    }

pub returns-clause-pairs : goal.returns-clause-pairs
unfolding node_pairs inner_pairs_at
returns-clause-pairs c =
    let lines = c.args.keys.now.lines in
    let numbers = c.args.delimiters.now in
    let is = node_among lines c.args.trie.now c.requires.built numbers c.requires.same c.args.tag (node_of c.node-node.result) c.requires.inside c.node-node.ensures in
    let extent = ap (λ (n : Node). n.extent) c.node-node.ensures in
    let shorter = c.inner_name.ensures.shorter in
    let name = c.inner_name.ensures.value ∙ ap (λ ns. name_at lines ns c.args.tag) c.requires.same in
    let es = extents_of (delimiter_bits lines numbers) in
    inner_same (map key_bits lines) es c.args.tag (slice_index_or es c.args.tag []) (key_at lines (slice_index numbers c.node-node.result.first))
    c.inner_name.result c.node-node.result.extent name is.size is.cut (omega arith)

use Rattle.std.proofs.Common.{◌+◌, ap}
use Rattle.sx_spec_kinds.specs.Trie.{Node}
use Rattle.sx_hollow.proofs.NodeNumbers.{skip_at_node, skip_at_root}
use Rattle.sx_hollow.proofs.lists.skip_of.Goals as goal

pub returns-then-node-eq0 : goal.returns-then-node-eq0
returns-then-node-eq0 c =
    skip_at_root c.args.keys.now.lines c.args.trie.now c.requires.built c.args.node c.requires.inside
    c.node-extent.result.extent c.if-node-eq0.true (ap (λ (n : Node). n.extent) c.node-extent.ensures)

pub returns : goal.returns
returns c =
    skip_at_node c.args.keys.now.lines c.args.trie.now c.requires.built c.args.node c.requires.inside
    c.node-extent.result.extent (c.parent_extent.result + 1) (ap (λ (n : Node). n.extent) c.node-extent.ensures) c.parent_extent.ensures.value

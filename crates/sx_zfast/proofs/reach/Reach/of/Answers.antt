use Rattle.std.proofs.Common.{sym, ap, arith}
use Rattle.std.proofs.lemmas.List.{length-map}
use Rattle.sx_spec_kinds.specs.Trie.{Node}
use Rattle.sx_zfast.proofs.Longest.{largest_more, largest_none, largest_whole}
use Rattle.sx_zfast.proofs.ProbeStages.{depth_is, lens_in}
use Rattle.sx_zfast.proofs.reach.Reach.of.Goals as goal

pub loop-node-init : goal.loop-node-init
loop-node-init c = largest_none (lens_in c.args.trie.now.nodes)

pub loop-node-preserved : goal.loop-node-preserved
loop-node-preserved c =
    let nodes = c.args.trie.now.nodes in
    let less = c.loop-node-test.true in
    let end = c.nodes-node-end.ensures in
    let size = length-map nodes (λ (w : Node). w.extent) in
    largest_more (lens_in nodes) c.loop-node.node c.loop-node.longest c.node.result.extent c.max-longest.result (omega arith) c.loop-node.invariant
    (sym (depth_is nodes c.loop-node.node c.node.result.extent (ap (λ (w : Node). w.extent) c.node.ensures))) c.max-longest.ensures

pub invariant_of-result : goal.invariant_of-result
invariant_of-result c =
    let nodes = c.args.trie.now.nodes in
    let over = c.loop-node-test.false in
    let end = c.nodes-node-end.ensures in
    let size = length-map nodes (λ (w : Node). w.extent) in
    record { longest_extent = largest_whole (lens_in nodes) c.loop-node.node c.loop-node.longest (omega arith) c.loop-node.invariant }

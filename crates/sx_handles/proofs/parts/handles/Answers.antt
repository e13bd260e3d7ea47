use Rattle.std.proofs.Common.{arith}
use Rattle.sx_spec_kinds.specs.Trie.{extents_of}
use Rattle.sx_trie.specs.Tries.{delimiter_bits}
use Rattle.sx_handles.proofs.NodeHandles.{no_handle, next_handle, all_handles, nodes_among}
use Rattle.sx_handles.proofs.parts.handles.Goals as goal

pub loop-node-init : goal.loop-node-init
loop-node-init c =
    let lines = c.args.keys.now.lines in
    record {
      some = omega arith;
      are = no_handle lines (extents_of (delimiter_bits lines c.args.delimiters.now)) c.new-handles.result.items c.new-handles.ensures.items;
    }

pub loop-node-preserved : goal.loop-node-preserved
loop-node-preserved c =
    let lines = c.args.keys.now.lines in
    let es = extents_of (delimiter_bits lines c.args.delimiters.now) in
    let many = nodes_among lines c.args.trie.now c.requires.built c.args.delimiters.now c.requires.same in
    let less = c.loop-node-test.true in
    let all = c.nodes-node-end.ensures in
    record {
      some = omega arith;
      are = next_handle lines es c.loop-node.node c.loop-node.handles.items _ _ c.loop-node.invariant.some (omega arith) c.loop-node.invariant.are c.handle_at.ensures.piece c.handle_at.ensures.string c.in_ok-push.ensures.items;
    }

pub returns-clause-strings : goal.returns-clause-strings
returns-clause-strings c =
    let lines = c.args.keys.now.lines in
    let many = nodes_among lines c.args.trie.now c.requires.built c.args.delimiters.now c.requires.same in
    let done = c.loop-node-test.false in
    let all = c.nodes-node-end.ensures in
    all_handles lines (extents_of (delimiter_bits lines c.args.delimiters.now)) c.loop-node.node c.loop-node.handles.items (omega arith) c.loop-node.invariant.are

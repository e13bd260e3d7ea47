use Rattle.std.proofs.Common.{◌≤◌, length, ap, ◌∙◌, arith}
use Rattle.std.specs.List.{slice_index}
use Rattle.std.proofs.lemmas.List.{take_all}
use Rattle.std.proofs.lemmas.List.Elements.{All-same}
use Rattle.sx_spec_kinds.specs.Hollow.{left_counts, skips}
use Rattle.sx_trie.specs.Tries.{delimiter_bits}
use Rattle.sx_hollow.proofs.NodeNumbers.{as_long, one_more}
use Rattle.sx_hollow.proofs.lists.hollow_lists.Goals as goal

pub loop-node-preserved : goal.loop-node-preserved
loop-node-preserved c =
    let lines = c.args.keys.now.lines in
    let ds = delimiter_bits lines c.args.members.now in
    let kept = c.in_ok-trie.ensures.delimiters in
    let long = as_long lines c.in_ok-trie.trie c.args.members.now c.nodes-nodes.result c.in_ok-trie.ensures.built kept c.nodes-nodes.ensures in
    let left = long.left in
    let skip = long.skip in
    let less = c.loop-node-test.true in
    record {
      left = one_more (left_counts ds) c.loop-node.node c.loop-node.left.items c.push.new.self.items c.left_of.result (omega arith) c.loop-node.invariant.left
          (c.left_of.ensures ∙ ap (λ ns. slice_index (left_counts (delimiter_bits lines ns)) c.loop-node.node) kept) c.in_ok-push.ensures.items;
      skip = one_more (skips ds) c.loop-node.node c.loop-node.skip.items c.push-in-loop-node.new.self.items c.skip_of.result (omega arith) c.loop-node.invariant.skip
          (c.skip_of.ensures ∙ ap (λ ns. slice_index (skips (delimiter_bits lines ns)) c.loop-node.node) kept) c.in_ok-push-2.ensures.items;
    }

pub returns-clause-left : goal.returns-clause-left
returns-clause-left c =
    let lines = c.args.keys.now.lines in
    let long = as_long lines c.in_ok-trie.trie c.args.members.now c.nodes-nodes.result c.in_ok-trie.ensures.built c.in_ok-trie.ensures.delimiters c.nodes-nodes.ensures in
    let left = long.left in
    let done = c.loop-node-test.false in
    c.loop-node.invariant.left ∙ take_all c.loop-node.node (left_counts (delimiter_bits lines c.args.members.now)) (omega arith)

pub returns-clause-skip : goal.returns-clause-skip
returns-clause-skip c =
    let lines = c.args.keys.now.lines in
    let long = as_long lines c.in_ok-trie.trie c.args.members.now c.nodes-nodes.result c.in_ok-trie.ensures.built c.in_ok-trie.ensures.delimiters c.nodes-nodes.ensures in
    let skip = long.skip in
    let done = c.loop-node-test.false in
    c.loop-node.invariant.skip ∙ take_all c.loop-node.node (skips (delimiter_bits lines c.args.members.now)) (omega arith)

pub returns-clause-lefts : goal.returns-clause-lefts
returns-clause-lefts c =
    let long = as_long c.args.keys.now.lines c.in_ok-trie.trie c.args.members.now c.nodes-nodes.result c.in_ok-trie.ensures.built c.in_ok-trie.ensures.delimiters c.nodes-nodes.ensures in
    ap length (returns-clause-left c) ∙ long.left ∙ long.fewer

pub returns-clause-skips : goal.returns-clause-skips
returns-clause-skips c =
    let long = as_long c.args.keys.now.lines c.in_ok-trie.trie c.args.members.now c.nodes-nodes.result c.in_ok-trie.ensures.built c.in_ok-trie.ensures.delimiters c.nodes-nodes.ensures in
    ap length (returns-clause-skip c) ∙ long.skip ∙ long.fewer

pub returns-clause-some : goal.returns-clause-some
returns-clause-some c =
    let lines = c.args.keys.now.lines in
    let long = as_long lines c.in_ok-trie.trie c.args.members.now c.nodes-nodes.result c.in_ok-trie.ensures.built c.in_ok-trie.ensures.delimiters c.nodes-nodes.ensures in
    All-same (λ n. 1 ≤ n) c.loop-node.left.items (left_counts (delimiter_bits lines c.args.members.now)) (returns-clause-left c) long.some

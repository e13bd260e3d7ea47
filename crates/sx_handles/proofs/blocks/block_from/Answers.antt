use Rattle.std.proofs.Common.{◌∙◌, ap, arith}
use Rattle.sx_spec_kinds.specs.Zfast.{child_after, child_first}
use Rattle.sx_bits.specs.Views.{bits_of}
use Rattle.sx_trie.specs.Tries.{node_of}
use Rattle.sx_handles.proofs.NodeCodes.{first_leaf, after_last, child_begins, child_ends, no_child, no_code}
use Rattle.sx_handles.proofs.blocks.block_from.Goals as goal

pub returns-then-code-eq0 : goal.returns-then-code-eq0
returns-then-code-eq0 c = first_leaf (node_of c.args.node.now) (bits_of c.args.view.now) _ (let is = c.if-code-eq0.true in omega arith)

pub returns-then-code-eq1 : goal.returns-then-code-eq1
returns-then-code-eq1 c = after_last (node_of c.args.node.now) (bits_of c.args.view.now) _ (let is = c.if-code-eq1.true in omega arith)

pub returns-then-code-gt3 : goal.returns-then-code-gt3
returns-then-code-gt3 c = no_code (node_of c.args.node.now) (bits_of c.args.view.now) _ (let above = c.if-code-gt3.true in omega arith)

pub returns-then-len-node : goal.returns-then-len-node
returns-then-len-node c =
    let zero = c.if-code-eq0.false in
    let one = c.if-code-eq1.false in
    let short = c.if-len-node.true in
    let len = c.len.ensures.value in
    no_child (node_of c.args.node.now) (bits_of c.args.view.now) _ (omega arith) (omega arith)

pub returns-then-code-eq2 : goal.returns-then-code-eq2
returns-then-code-eq2 c =
    let two = c.if-code-eq2.true in
    let long = c.if-len-node.false in
    let len = c.len.ensures.value in
    child_begins (node_of c.args.node.now) (bits_of c.args.view.now) _ _ (omega arith) (omega arith)
    (c.child_leaves-first.ensures.first ∙ ap (child_first (node_of c.args.node.now)) c.bit.ensures)

pub returns-else-code-eq2 : goal.returns-else-code-eq2
returns-else-code-eq2 c =
    let zero = c.if-code-eq0.false in
    let one = c.if-code-eq1.false in
    let few = c.if-code-gt3.false in
    let two = c.if-code-eq2.false in
    let long = c.if-len-node.false in
    let len = c.len.ensures.value in
    child_ends (node_of c.args.node.now) (bits_of c.args.view.now) _ _ (omega arith) (omega arith)
    (c.child_leaves-first.ensures.after ∙ ap (child_after (node_of c.args.node.now)) c.bit.ensures)

use Rattle.std.proofs.Common.{◌+◌, ◌<◌, ◌++◌, ap, ◌∙◌, arith, length, subst}
use Rattle.sx_spec_kinds.specs.Trie.{extents_of}
use Rattle.sx_trie.specs.Tries.{delimiter_bits}
use Rattle.sx_pairs.specs.Pairs.{node_pairs}
use Rattle.sx_pairs.proofs.TrieNames.{nodes_of_numbers}
use Rattle.sx_pairs.proofs.NodeLists.{Behind, first_inner, inner_of, next_inner, flat_one, all_inner, behind_more}
use Rattle.sx_pairs.proofs.push_inner.Goals as goal

pub loop-tag-preserved : goal.loop-tag-preserved
loop-tag-preserved c =
    let lines = c.args.keys.now.lines in
    let numbers = c.args.delimiters.now in
    let es = extents_of (delimiter_bits lines numbers) in
    let tag = c.loop-tag.tag in
    let all = nodes_of_numbers lines c.args.trie.now c.requires.built numbers c.requires.same in
    let less = c.loop-tag-test.true in
    let inside : tag < length es = omega arith in
    behind_more lines c.args.pairs.now.items c.loop-tag.pairs.items c.push_node.new.pairs.items
    (first_inner lines numbers tag) (node_pairs lines c.inner_node.result) (first_inner lines numbers (tag + 1))
    c.loop-tag.invariant c.in_ok-push_node.ensures
    (ap (λ ps. first_inner lines numbers tag ++ ps) (c.inner_node.ensures.pairs ∙ next_inner lines numbers tag) ∙ flat_one (inner_of lines numbers) 0 es tag inside)

pub returns : goal.returns
returns c =
    let lines = c.args.keys.now.lines in
    let numbers = c.args.delimiters.now in
    let all = nodes_of_numbers lines c.args.trie.now c.requires.built numbers c.requires.same in
    let done = c.loop-tag-test.false in
    subst (Behind lines c.args.pairs.now.items c.loop-tag.pairs.items) (all_inner lines numbers c.loop-tag.tag (omega arith)) c.loop-tag.invariant

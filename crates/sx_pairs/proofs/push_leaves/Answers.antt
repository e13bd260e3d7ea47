use Rattle.std.proofs.Common.{◌+◌, ◌<◌, ◌++◌, ap, ◌∙◌, arith, length, subst}
use Rattle.sx_trie.specs.Tries.{delimiter_bits}
use Rattle.sx_trie.proofs.KeyNumbers.{no_more}
use Rattle.sx_pairs.specs.Pairs.{node_pairs}
use Rattle.sx_pairs.proofs.TrieNames.{as_many}
use Rattle.sx_pairs.proofs.NodeLists.{Behind, first_leaves, leaf_of, next_leaf, flat_one, all_leaves, behind_more}
use Rattle.sx_pairs.proofs.push_leaves.Goals as goal

pub overflow_cast-leaf-end : goal.overflow_cast-leaf-end
overflow_cast-leaf-end c =
    let few = no_more c.args.keys.now.lines c.args.delimiters.now c.requires.rising in
    let most = c.len-count.ensures.keys.limits.keys in
    omega arith

pub overflow_add-first : goal.overflow_add-first
overflow_add-first c =
    let few = no_more c.args.keys.now.lines c.args.delimiters.now c.requires.rising in
    let most = c.len-count.ensures.keys.limits.keys in
    let less = c.loop-leaf-test.true in
    omega arith

pub loop-leaf-preserved : goal.loop-leaf-preserved
loop-leaf-preserved c =
    let lines = c.args.keys.now.lines in
    let numbers = c.args.delimiters.now in
    let first = c.args.first in
    let leaf = c.loop-leaf.leaf in
    let many = as_many lines numbers in
    let less = c.loop-leaf-test.true in
    let inside : leaf < length (delimiter_bits lines numbers) = omega arith in
    behind_more lines c.args.pairs.now.items c.loop-leaf.pairs.items c.push_node.new.pairs.items
    (first_leaves lines numbers first leaf) (node_pairs lines c.leaf_node.result) (first_leaves lines numbers first (leaf + 1))
    c.loop-leaf.invariant c.in_ok-push_node.ensures
    (ap (λ ps. first_leaves lines numbers first leaf ++ ps) (c.leaf_node.ensures.pairs ∙ next_leaf lines numbers (first + leaf) leaf) ∙ flat_one (leaf_of lines numbers) first (delimiter_bits lines numbers) leaf inside)

pub returns : goal.returns
returns c =
    let lines = c.args.keys.now.lines in
    let numbers = c.args.delimiters.now in
    let many = as_many lines numbers in
    let done = c.loop-leaf-test.false in
    subst (Behind lines c.args.pairs.now.items c.loop-leaf.pairs.items) (all_leaves lines numbers c.args.first c.loop-leaf.leaf (omega arith)) c.loop-leaf.invariant

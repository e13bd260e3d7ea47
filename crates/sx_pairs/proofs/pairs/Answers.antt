use Rattle.std.proofs.Common.{[], ◌++◌, map, sym, ap, ◌∙◌, arith, subst}
use Rattle.std.proofs.lemmas.List.{length-map}
use Rattle.sx_spec_strings.specs.Bits.{key_bits}
use Rattle.sx_spec_kinds.specs.HollowDistributor.{pairs_of}
use Rattle.sx_spec_kinds.proofs.TrieLaws.{length-extents_of}
use Rattle.sx_spec_kinds.proofs.PairLaws.{pairs_most}
use Rattle.sx_trie.specs.Tries.{delimiter_bits}
use Rattle.sx_trie.proofs.KeyNumbers.{delimiter_keys, no_more}
use Rattle.sx_pairs.specs.Pairs.{ArePairs, all_inner_pairs, all_leaf_pairs}
use Rattle.sx_pairs.proofs.TrieNames.{as_many, nodes_of_numbers}
use Rattle.sx_pairs.proofs.NodeLists.{all_pairs, turns_are, pieces_lie, as_many_pairs}
use Rattle.sx_pairs.proofs.pairs.Goals as goal

pub push_leaves-requires-clause-few : goal.push_leaves-requires-clause-few
push_leaves-requires-clause-few c =
    let lines = c.args.keys.now.lines in
    let numbers = c.args.delimiters.now in
    let keys = delimiter_keys c.args.keys.now c.len-count.ensures.keys numbers c.requires.delimiters in
    let all = nodes_of_numbers lines c.in_ok-trie.trie c.in_ok-trie.ensures.built numbers c.in_ok-trie.ensures.delimiters in
    let size = length-extents_of (delimiter_bits lines numbers) keys in
    let many = as_many lines numbers in
    let few = no_more lines numbers c.requires.delimiters in
    let nodes = c.nodes.ensures in
    omega arith

pub returns-clause-pairs : goal.returns-clause-pairs
returns-clause-pairs c =
    let lines = c.args.keys.now.lines in
    let numbers = c.args.delimiters.now in
    let none : ArePairs lines c.new-pairs.result.items [] = subst (λ ps. ArePairs lines ps []) (sym c.new-pairs.ensures.items) tt in
    let inner = c.in_ok-push_inner.ensures [] none in
    let both = c.in_ok-push_leaves.ensures (all_inner_pairs lines numbers) inner in
    let first = c.nodes.ensures ∙ nodes_of_numbers lines c.in_ok-trie.trie c.in_ok-trie.ensures.built numbers c.in_ok-trie.ensures.delimiters in
    subst (ArePairs lines c.push_leaves.new.pairs.items)
    (ap (λ n. all_inner_pairs lines numbers ++ all_leaf_pairs lines numbers n) first ∙ all_pairs lines numbers) both

pub returns-clause-strings : goal.returns-clause-strings
returns-clause-strings c =
    turns_are c.args.keys.now.lines c.push_leaves.new.pairs.items (map key_bits c.args.keys.now.lines) (delimiter_bits c.args.keys.now.lines c.args.delimiters.now) (returns-clause-pairs c)

pub returns-clause-pieces : goal.returns-clause-pieces
returns-clause-pieces c =
    let lines = c.args.keys.now.lines in
    pieces_lie lines c.push_leaves.new.pairs.items (pairs_of (map key_bits lines) (delimiter_bits lines c.args.delimiters.now)) (returns-clause-pairs c)

pub returns-clause-few : goal.returns-clause-few
returns-clause-few c =
    let lines = c.args.keys.now.lines in
    let numbers = c.args.delimiters.now in
    let ds = delimiter_bits lines numbers in
    let keys = delimiter_keys c.args.keys.now c.len-count.ensures.keys numbers c.requires.delimiters in
    let same = as_many_pairs lines c.push_leaves.new.pairs.items (pairs_of (map key_bits lines) ds) (returns-clause-pairs c) in
    let most = pairs_most ds keys (map key_bits lines) in
    let many = as_many lines numbers in
    let size = length-map lines key_bits in
    omega arith

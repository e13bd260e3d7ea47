use Rattle.std.proofs.Common.{max, ap₂, ◌∙◌, arith}
use Rattle.sx_trie.specs.Tries.{delimiter_bits}
use Rattle.sx_trie.proofs.KeyNumbers.{delimiter_keys}
use Rattle.sx_pairs.proofs.TrieNames.{as_many, name_of_leaf}
use Rattle.sx_pairs.proofs.nodes.leaf_name.Goals as goal

pub returns : goal.returns
returns c =
    let lines = c.args.keys.now.lines in
    let numbers = c.args.delimiters.now in
    let keys = delimiter_keys c.args.keys.now c.len-count.ensures.keys numbers c.requires.rising in
    let many = as_many lines numbers in
    let inside = c.requires.inside in
    c.max.ensures ∙ ap₂ max c.parted_before.ensures c.parted_after.ensures ∙ name_of_leaf (delimiter_bits lines numbers) keys c.args.leaf (omega arith)

use Rattle.std.proofs.Common.{arith}
use Rattle.sx_trie.proofs.KeyNumbers.{delimiter_keys, no_more}
use Rattle.sx_trie.proofs.building.count_of.Goals as goal

pub overflow_cast-result : goal.overflow_cast-result
overflow_cast-result c =
    let few = no_more c.args.keys.now.lines c.args.delimiters.now c.requires in
    let value = c.len-most.ensures.value in
    omega arith

pub returns-clause-keys : goal.returns-clause-keys
returns-clause-keys c = delimiter_keys c.args.keys.now c.len-most.ensures.keys c.args.delimiters.now c.requires

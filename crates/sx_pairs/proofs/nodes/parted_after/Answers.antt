use Rattle.std.proofs.Common.{arith}
use Rattle.sx_trie.proofs.KeyNumbers.{delimiter_keys}
use Rattle.sx_pairs.proofs.TrieNames.{after_by}
use Rattle.sx_pairs.proofs.nodes.parted_after.Goals as goal

pub returns : goal.returns
returns c =
    let keys = delimiter_keys c.args.keys.now c.len-count.ensures.keys c.args.delimiters.now c.requires.rising in
    let more = c.if-delimiters-leaf-eq1.false in
    after_by c.args.keys.now.lines c.args.delimiters.now c.requires.rising keys c.args.leaf c.shared.result (omega arith) c.shared.ensures

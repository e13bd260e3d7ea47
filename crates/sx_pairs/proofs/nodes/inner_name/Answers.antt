use Rattle.std.proofs.Common.{sym, ap, ◌∙◌, arith}
use Rattle.sx_trie.specs.Tries.{delimiter_bits}
use Rattle.sx_pairs.specs.Pairs.{name_at}
use Rattle.sx_pairs.proofs.TrieNames.{root_name, nodes_are, name_is}
use Rattle.sx_pairs.proofs.nodes.inner_name.Goals as goal

pub returns-then-tag-eq0-clause-value : goal.returns-then-tag-eq0-clause-value
returns-then-tag-eq0-clause-value c =
    let lines = c.args.keys.now.lines in
    let t = c.args.trie.now in
    let all = nodes_are lines t c.requires.built in
    let first = c.if-tag-eq0.true in
    let inside = c.requires.inside in
    sym (ap (name_at lines t.delimiters) first ∙ root_name (delimiter_bits lines t.delimiters) c.requires.built.keys (omega arith))

pub returns-clause-value : goal.returns-clause-value
returns-clause-value c =
    c.parent_extent.ensures.value ∙ name_is c.args.keys.now.lines c.args.trie.now c.requires.built c.args.tag c.requires.inside

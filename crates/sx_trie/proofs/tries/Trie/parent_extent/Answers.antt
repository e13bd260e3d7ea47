use Rattle.std.proofs.Common.{length, ap, arith}
use Rattle.std.proofs.lemmas.List.{length-map}
use Rattle.sx_trie.specs.Tries.{Contents, node_of}
use Rattle.sx_trie.specs.declared.nodes.Entry.{Entry}
use Rattle.sx_trie.proofs.Entries.{name_of_entry}
use Rattle.sx_trie.proofs.tries.Trie.parent_extent.Goals as goal

pub overflow_sub-result : goal.overflow_sub-result
overflow_sub-result c =
    let es = c.self.inside.entries.items in
    let same = ap (λ (t : Contents). length t.nodes) c.self.view_is in
    let many = length-map es (λ (e : Entry). node_of e.node) in
    let fit = (c.self.invariant.names c.args.i c.requires.some (omega arith)).0 in
    let name = name_of_entry es c.args.i c.index.result.now (omega arith) c.index.ensures in
    omega arith

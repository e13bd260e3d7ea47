use Rattle.std.proofs.Common.{[], length, ap, arith}
use Rattle.std.specs.Prelude.{slice_index_or}
use Rattle.std.proofs.lemmas.List.{length-map}
use Rattle.sx_spec_strings.specs.Bits.{key_bits}
use Rattle.sx_trie.specs.Tries.{delimiter_bits}
use Rattle.sx_trie.proofs.NameBounds.{fits}
use Rattle.sx_trie.proofs.tries.Trie.build.Goals as goal

pub invariant_of-result : goal.invariant_of-result
invariant_of-result c =
    let lines = c.args.keys.now.lines in
    let numbers = c.args.delimiters.now in
    let ds = delimiter_bits lines numbers in
    let kept = ap length c.in_ok-delimiters.ensures.items in
    let many = length-map numbers (λ i. key_bits (slice_index_or lines i [])) in
    let count = c.count_of-count.ensures.value in
    fits ds c.count_of-count.ensures.keys c.in_ok-delimiters.delimiters.items c.in_ok-entries.entries.items (omega arith) (omega arith) c.in_ok-entries.ensures

use Rattle.std.proofs.Common.{◌<◌, length, map, sym, ap, ◌∙◌, arith}
use Rattle.std.specs.Prelude.{slice_index}
use Rattle.std.proofs.lemmas.List.{length-map}
use Rattle.sx_spec_strings.specs.Bits.{key_bits}
use Rattle.sx_spec_kinds.specs.Trie.{extents_of, name_len}
use Rattle.sx_spec_kinds.proofs.NameLaws.{in_at}
use Rattle.sx_spec_kinds.specs.HollowDistributor.{leaf_pairs}
use Rattle.sx_trie.specs.Tries.{delimiter_bits}
use Rattle.sx_trie.specs.Ranges.{string_at}
use Rattle.sx_trie.proofs.KeyNumbers.{delimiter_keys}
use Rattle.sx_pairs.specs.Pairs.{key_at, node_pairs, leaf_pairs_at}
use Rattle.sx_pairs.proofs.TrieNames.{delimiter_is, key_short, name_within}
use Rattle.sx_pairs.proofs.NodeLists.{leaf_same}
use Rattle.sx_pairs.proofs.nodes.leaf_node.Goals as goal

pub returns-clause-visited : goal.returns-clause-visited
returns-clause-visited c =
    let lines = c.args.keys.now.lines in
    let numbers = c.args.delimiters.now in
    let ds = delimiter_bits lines numbers in
    let keys = delimiter_keys c.args.keys.now c.len-count.ensures.keys numbers c.requires.rising in
    let number = slice_index numbers c.args.leaf in
    let there : number < length lines = c.requires.rising.inside c.args.leaf c.requires.inside in
    let d = string_at lines numbers c.args.leaf in
    let is = delimiter_is lines numbers c.args.leaf c.requires.inside there in
    let size = length-map lines key_bits in
    let short = key_short c.args.keys.now c.len-count.ensures.keys (key_at lines number) (in_at (map key_bits lines) number (omega arith)) in
    let within = name_within ds keys d in
    let name = c.leaf_name.ensures in
    let long = ap length is in
    record {
      key = there;
      ordered = omega arith;
      named = omega arith;
    }

pub returns-clause-pairs : goal.returns-clause-pairs
unfolding node_pairs leaf_pairs_at
returns-clause-pairs c =
    let lines = c.args.keys.now.lines in
    let numbers = c.args.delimiters.now in
    let es = extents_of (delimiter_bits lines numbers) in
    let number = slice_index numbers c.args.leaf in
    let there : number < length lines = c.requires.rising.inside c.args.leaf c.requires.inside in
    let is = delimiter_is lines numbers c.args.leaf c.requires.inside there in
    let size = length-map lines key_bits in
    let short = key_short c.args.keys.now c.len-count.ensures.keys in
    leaf_same (map key_bits lines) es c.args.tag (key_at lines number) c.leaf_name.result 65536
    (c.leaf_name.ensures ∙ ap (name_len es) is) short (short (key_at lines number) (in_at (map key_bits lines) number (omega arith)))
    ∙ ap (leaf_pairs (map key_bits lines) es c.args.tag) (sym is)

use Rattle.std.proofs.Common.{◌≡◌, ◌+◌, ◌-◌, length, take}
use Rattle.std.specs.Prelude.{map}
use Rattle.sx_spec_strings.specs.Bits.{AreKeyBits}
use Rattle.sx_spec_kinds.specs.Trie as spec
use Rattle.sx_trie.specs.declared.nodes.Entry.{Entry}
use Rattle.sx_trie.specs.Tries.{delimiter_bits, node_of}
use Rattle.sx_trie.proofs.OpenRanges.{AreOpen, pending}
use Rattle.sx_trie.proofs.building.entries_over.Given as goal

abbrev pub invariant-opening : goal.invariant-opening
invariant-opening l = record {
  counted : length l.entries.items + pending l.ranges.items ≡ length (delimiter_bits l.keys.lines l.delimiters) - 1;
  opened : (keys : AreKeyBits (delimiter_bits l.keys.lines l.delimiters)) → AreOpen (delimiter_bits l.keys.lines l.delimiters) keys (length (delimiter_bits l.keys.lines l.delimiters) - 1) 0 l.ranges.items;
  nodes : map (λ (e : Entry). node_of e.node) l.entries.items ≡ map (spec.node_of (delimiter_bits l.keys.lines l.delimiters)) (take (length l.entries.items) (spec.extents_of (delimiter_bits l.keys.lines l.delimiters)));
  names : map (λ (e : Entry). e.name) l.entries.items ≡ map (spec.name_len (spec.extents_of (delimiter_bits l.keys.lines l.delimiters))) (take (length l.entries.items) (spec.extents_of (delimiter_bits l.keys.lines l.delimiters)));
}

abbrev pub decreases-opening : goal.decreases-opening
decreases-opening l = length l.delimiters - length l.entries.items

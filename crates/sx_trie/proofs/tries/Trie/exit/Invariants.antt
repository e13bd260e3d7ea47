use Rattle.std.proofs.Common.{◌-◌, ◌<◌, ◌≤◌, length}
use Rattle.sx_spec_strings.specs.Bits.{AreKeyBits}
use Rattle.sx_bits.specs.Views.{bits_of}
use Rattle.sx_trie.specs.Tries.{delimiter_bits}
use Rattle.sx_trie.proofs.ExitWalk.{Walks}
use Rattle.sx_trie.proofs.tries.Trie.exit.Given as goal

abbrev pub invariant-loop-after : goal.invariant-loop-after
invariant-loop-after l = record {
  ordered : l.first < l.after;
  inside : l.after ≤ length l.self.delimiters;
  stands : (keys : AreKeyBits (delimiter_bits l.keys.lines l.self.delimiters)) → Walks (delimiter_bits l.keys.lines l.self.delimiters) keys (bits_of l.view) l.at (l.after - l.first) l.first l.name;
}

abbrev pub decreases-loop-after : goal.decreases-loop-after
decreases-loop-after l = l.after - l.first

use Rattle.std.proofs.Common.{◌-◌, ◌<◌, ◌≤◌, length}
use Rattle.sx_spec_kinds.specs.Trie.{node_at}
use Rattle.sx_bits.specs.Views.{bits_of}
use Rattle.sx_zfast.specs.Maps.{map_read}
use Rattle.sx_zfast.proofs.ProbeStages.{Telling}
use Rattle.sx_zfast.proofs.probing.first_false_probe.Given as goal

abbrev pub invariant-loop-limit : goal.invariant-loop-limit
invariant-loop-limit g l = record {
  counted : l.initial.steps ≤ l.steps;
  inside : l.at < length l.trie.nodes;
  limit : l.limit ≤ length (bits_of l.view);
  search : Telling (map_read l.map l.signing.seed l.signing.sig_bits) l.keys.lines l.trie (bits_of l.view) l.at l.limit;
}

abbrev pub decreases-loop-limit : goal.decreases-loop-limit
decreases-loop-limit g l = l.limit - (node_at l.trie.nodes l.at).extent

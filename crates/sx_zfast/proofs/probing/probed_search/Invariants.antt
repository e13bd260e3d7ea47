use Rattle.std.proofs.Common.{◌-◌, ◌<◌, ◌≤◌, length}
use Rattle.sx_spec_kinds.specs.Trie.{node_at}
use Rattle.sx_bits.specs.Views.{bits_of}
use Rattle.sx_zfast.specs.Maps.{map_read}
use Rattle.sx_zfast.specs.Memo.{AreKnown}
use Rattle.sx_zfast.proofs.ProbeStages.{Probing}
use Rattle.sx_zfast.proofs.probing.probed_search.Given as goal

abbrev pub invariant-loop-limit : goal.invariant-loop-limit
invariant-loop-limit g l = record {
  counted : l.initial.steps ≤ l.steps;
  inside : l.at < length l.trie.nodes;
  limit : l.limit ≤ length (bits_of l.view);
  memo : AreKnown (map_read l.map l.signing.seed l.signing.sig_bits) (bits_of l.view) l.memo.slots;
  search : Probing (map_read l.map l.signing.seed l.signing.sig_bits) l.trie.nodes (bits_of l.view) l.at l.limit;
}

abbrev pub decreases-loop-limit : goal.decreases-loop-limit
decreases-loop-limit g l = l.limit - (node_at l.trie.nodes l.at).extent

use Rattle.std.proofs.Common.{◌≡◌, ◌-◌, ◌<◌, ◌≤◌}
use Rattle.sx_trie.specs.Tries.{delimiter_bits}
use Rattle.sx_handles.specs.Ways.{AreWaysBeside, key_at, key_block}
use Rattle.sx_zfast.specs.Maps.{map_read}
use Rattle.sx_zfast.specs.Memo.{AreKnown}
use Rattle.sx_zfast.proofs.MisledKeys.{HasMisled}
use Rattle.sx_zfast.proofs.correcting.corrections.Given as goal

abbrev pub invariant-loop-key : goal.invariant-loop-key
invariant-loop-key g l = record {
  counted : l.initial.steps ≤ l.steps;
  first : l.key ≡ 0 → l.ways.block ≡ 0;
  next : 0 < l.key → l.ways.block ≡ key_block l.keys.lines l.delimiters (l.key - 1);
  ways : AreWaysBeside (delimiter_bits l.keys.lines l.delimiters) l.ways.block l.ways.below.items l.ways.above.items;
  memo : AreKnown (map_read l.map l.seed l.sig_bits) (key_at l.keys.lines (l.key - 1)) l.memo.slots;
  list : HasMisled (map_read l.map l.seed l.sig_bits) l.keys.lines (delimiter_bits l.keys.lines l.delimiters) l.key l.list.items;
}

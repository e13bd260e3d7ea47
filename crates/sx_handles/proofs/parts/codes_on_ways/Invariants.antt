use Rattle.std.proofs.Common.{◌≡◌, ◌<◌, ◌-◌, map, take}
use Rattle.sx_spec_strings.specs.Bits.{key_bits}
use Rattle.sx_spec_kinds.specs.Zfast.{code_of}
use Rattle.sx_trie.specs.Tries.{delimiter_bits}
use Rattle.sx_handles.specs.Ways.{AreWaysBeside, key_block}
use Rattle.sx_handles.proofs.parts.codes_on_ways.Given as goal

abbrev pub invariant-loop-key : goal.invariant-loop-key
invariant-loop-key l = record {
  codes : l.codes.items ≡ take l.key (map (code_of (delimiter_bits l.keys.lines l.delimiters)) (map key_bits l.keys.lines));
  first : l.key ≡ 0 → l.ways.block ≡ 0;
  next : 0 < l.key → l.ways.block ≡ key_block l.keys.lines l.delimiters (l.key - 1);
  ways : AreWaysBeside (delimiter_bits l.keys.lines l.delimiters) l.ways.block l.ways.below.items l.ways.above.items;
}

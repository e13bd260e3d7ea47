use Rattle.std.proofs.Common.{◌≡◌, map, take}
use Rattle.sx_spec_strings.specs.Bits.{key_bits}
use Rattle.sx_spec_kinds.specs.Zfast.{code_of}
use Rattle.sx_trie.specs.Tries.{delimiter_bits}
use Rattle.sx_handles.proofs.parts.codes_by_one.Given as goal

abbrev pub invariant-loop-key : goal.invariant-loop-key
invariant-loop-key l = l.codes.items ≡ take l.key (map (code_of (delimiter_bits l.keys.lines l.delimiters)) (map key_bits l.keys.lines))

-- Keys that are misled.
use Rattle.std.specs.Prelude.{ℕ, List, Option, Some, None, if◌then◌else◌}
use Rattle.std.specs.List.{slice_index}
use Rattle.sx_spec_strings.specs.Bits.{Bits}
use Rattle.sx_spec_kinds.specs.Blocks.{block_of}
use Rattle.sx_spec_kinds.specs.Trie.{extents_of}
use Rattle.sx_spec_kinds.specs.Zfast.{HandleMap, Corrected as SpecCorrected, false_probes, is_misled}
use Rattle.sx_zfast.specs.declared.correcting.Corrected.{Corrected}

-- a misled key as the definitions have it
abbrev pub corrected_as : Corrected → SpecCorrected
corrected_as c = record { rank = c.rank; probe = c.probe; block = c.block }

-- what is corrected of key number i, if it is misled
unfoldable pub correction_of : (m : HandleMap) (delimiters : List Bits) (i : ℕ) (x : Bits) → Option SpecCorrected
correction_of m delimiters i x =
    if is_misled m delimiters x
    then Some (record { rank = i; probe = slice_index (false_probes m (extents_of delimiters) x) 0; block = block_of delimiters x })
    else None

-- The handles and codes of a z-fast distributor.
use Rattle.std.specs.Prelude.{◌≡◌, ℕ, List, map}
use Rattle.std.specs.List.{AllByRecursion}
use Rattle.sx_spec_strings.specs.Bits.{key_bits}
use Rattle.sx_spec_kinds.specs.Search.{handles_of}
use Rattle.sx_spec_kinds.specs.Trie.{extents_of}
use Rattle.sx_spec_kinds.specs.Zfast.{code_of}
use Rattle.sx_bits.specs.Pieces.{IsPiece, piece_string}
use Rattle.sx_trie.specs.Tries.{delimiter_bits}
use Rattle.sx_handles.specs.declared.parts.ZfastParts.{ZfastParts}

-- the pieces lie in the lines and name the handles, and each key has its code, by the delimiters with these numbers
pub record AreZfastParts (lines : List (List ℕ)) (numbers : List ℕ) (parts : ZfastParts) : Type 0 where
  pub pieces : AllByRecursion (IsPiece lines) parts.handles.items
  pub handles : map (piece_string lines) parts.handles.items ≡ handles_of (extents_of (delimiter_bits lines numbers))
  pub codes : parts.codes.items ≡ map (code_of (delimiter_bits lines numbers)) (map key_bits lines)

-- The lengths and prefixes of blocks.
use Rattle.std.specs.Prelude.{◌≡◌, ◌≢◌, ℕ, ◌-◌, List, length, map, take, drop, AllPairs}
use Rattle.std.specs.List.{AllByRecursion}
use Rattle.sx_spec_strings.specs.Bits.{Bits, common_prefix_of, key_bits}
use Rattle.sx_spec_kinds.specs.Lcp.{block_prefixes, prefix_lens}
use Rattle.sx_bits.specs.declared.pieces.Piece.{Piece}
use Rattle.sx_bits.specs.Pieces.{IsPiece, piece_string}
use Rattle.sx_lcp.specs.declared.parts.LcpParts.{LcpParts}

-- the longest common prefix of the keys from number first up to before number after
abbrev pub prefix_between : (keys : List Bits) (first after : ℕ) → Bits
prefix_between keys first after = common_prefix_of (take (after - first) (drop first keys))

-- the piece lies in the lines, is this prefix of their keys, and ends where the prefix does
pub record IsPrefixOf (lines : List (List ℕ)) (first after : ℕ) (piece : Piece) : Type 0 where
  pub lies : IsPiece lines piece
  pub string : piece_string lines piece ≡ prefix_between (map key_bits lines) first after
  pub end : piece.to ≡ length (prefix_between (map key_bits lines) first after)

-- the parts are those of blocks of b keys: a length for each key, and a piece of the lines for each prefix; the prefixes differ
pub record AreParts (b : ℕ) (lines : List (List ℕ)) (parts : LcpParts) : Type 0 where
  pub lengths : parts.lengths.items ≡ prefix_lens b (map key_bits lines)
  pub pieces : AllByRecursion (IsPiece lines) parts.prefixes.items
  pub prefixes : map (piece_string lines) parts.prefixes.items ≡ block_prefixes b (map key_bits lines)
  pub differ : AllPairs (λ x y. x ≢ y) (map (piece_string lines) parts.prefixes.items)

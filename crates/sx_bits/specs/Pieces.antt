-- Strings named by a key and two of its places.
use Rattle.std.specs.Prelude.{ℕ, ◌-◌, ◌<◌, ◌≤◌, List, [], length, take, drop, slice_index_or}
use Rattle.sx_spec_strings.specs.Bits.{Bits, key_bits, tagged}
use Rattle.sx_bits.specs.declared.pieces.Piece.{Piece}

-- the bits of the key that a piece names
abbrev pub key_of : List (List ℕ) → Piece → Bits
key_of lines piece = key_bits (slice_index_or lines piece.key [])

-- the piece's bits without its tag
abbrev pub piece_bits : List (List ℕ) → Piece → Bits
piece_bits lines piece = take (piece.to - piece.from) (drop piece.from (key_of lines piece))

-- the string that a piece names
abbrev pub piece_string : List (List ℕ) → Piece → Bits
piece_string lines piece = tagged piece.tag (piece_bits lines piece)

-- the piece lies in the list
pub record IsPiece (lines : List (List ℕ)) (piece : Piece) : Type 0 where
  pub key : piece.key < length lines
  pub ordered : piece.from ≤ piece.to
  pub within : piece.to ≤ length (key_of lines piece)

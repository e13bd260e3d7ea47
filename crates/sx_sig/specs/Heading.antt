-- What is hashed before the bits of a string.
use Rattle.std.specs.Prelude.{ℕ, ◌+◌, List, ◌++◌, Option, Some, None}
use Rattle.std.specs.Int.{w32, w64, to_le_bytes, to_be_bytes}

-- the seed, the number of bits with those of the tag, and the tag
abbrev pub heading : ℕ → ℕ → Option ℕ → List ℕ
heading seed bits None = to_le_bytes w64 seed ++ to_le_bytes w64 bits
heading seed bits (Some tag) = to_le_bytes w64 seed ++ to_le_bytes w64 (32 + bits) ++ to_be_bytes w32 tag

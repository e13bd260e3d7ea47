-- Blocks by prefixes, and what codes stand for.
use Rattle.std.specs.Prelude.{ℕ, nat_lt, if◌then◌else◌, List, length, take, slice_index, Option, Some, None}
use Rattle.sx_spec_strings.specs.Bits.{Bits}

-- the number that a function gives the first bits of a string, where it has so many
abbrev pub block_at : (prefixes : Bits → ℕ) (len : ℕ) (x : Bits) → Option ℕ
block_at prefixes len x = if nat_lt (length x) len then None else Some (prefixes (take len x))

-- what a code stands for: below the table's length a number of the table, and any other an escaped number
abbrev pub length_by : (table : List ℕ) (code escaped : ℕ) → ℕ
length_by table code escaped = if nat_lt code (length table) then slice_index table code else escaped

-- Ranges of leaves, and how the bits of their delimiters part.
use Rattle.std.specs.Prelude.{◌≡◌, ℕ, ◌-◌, ◌<◌, ◌≤◌, true, if◌then◌else◌, nat_lt, List, [], ◌∷◌, ◌++◌, length, slice_index_or}
use Rattle.sx_spec_strings.specs.Bits.{Bits, bit_at, common_prefix}
use Rattle.sx_trie.specs.Tries.{delimiter_bits}
use Rattle.sx_trie.specs.declared.building.Range.{Range}

-- delimiter number i
abbrev pub string_at : List (List ℕ) → List ℕ → ℕ → Bits
string_at lines numbers i = slice_index_or (delimiter_bits lines numbers) i []

-- the length of the prefix that the first and the last delimiter of a range have in common
abbrev pub extent_over : List (List ℕ) → List ℕ → ℕ → ℕ → ℕ
extent_over lines numbers first after = length (common_prefix (string_at lines numbers first) (string_at lines numbers (after - 1)))

-- each string of the range has a bit there, and from the first 1 on all are 1
pub record IsSplittable (ds : List Bits) (first after extent : ℕ) : Type 0 where
  pub long : (j : ℕ) → first ≤ j → j < after → extent < length (slice_index_or ds j [])
  pub rises : (i j : ℕ) → first ≤ i → i ≤ j → j < after → bit_at (slice_index_or ds i []) extent ≡ true → bit_at (slice_index_or ds j []) extent ≡ true

-- the ranges with one more, unless it has one leaf
abbrev pub with_range : List Range → Range → List Range
with_range ranges r = if nat_lt 1 (r.after - r.first) then ranges ++ r ∷ [] else ranges

-- Nodes whose numbers are read beforehand.
use Rattle.std.specs.Prelude.{◌≡◌, ℕ, ◌+◌, ◌*◌, ◌/◌, ◌%◌, ◌^◌, ◌<◌, List, length}
use Rattle.std.specs.List.{slice_index}
use Rattle.sx_hollow.specs.declared.top.Entry.{Entry}

-- what the lists hold of a node
pub record IsEntryOf (left skip : List ℕ) (e : Entry) : Type 0 where
  pub left_is : e.left ≡ slice_index left e.node
  pub skip_is : e.skip ≡ slice_index skip e.node

-- Words of nodes that are kept, two for each. The lower half of the first is its number, and the upper half and the
-- lower half of the second are what the lists hold of it; the rest is of any kind.
abbrev pub AreKept : (left skip : List ℕ) → List ℕ → Type 0
AreKept left skip words =
    (i : ℕ) → 2 * i + 1 < length words →
    (slice_index words (2 * i) / 2 ^ 32 ≡ slice_index left (slice_index words (2 * i) % 2 ^ 32)) ×
    (slice_index words (2 * i + 1) % 2 ^ 32 ≡ slice_index skip (slice_index words (2 * i) % 2 ^ 32))

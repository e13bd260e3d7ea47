-- The directories of a list that stands in words.
use Rattle.std.specs.Prelude.{ℕ, ◌+◌, List}
use Rattle.sx_spec.specs.Fields.{upper_bits}
use Rattle.sx_ranksel.specs.Rooms.{AreDirectories}
use Rattle.sx_ef.specs.Parts.{low_size}

-- three lists are the directories of the upper words of a list of so many numbers whose words stand from a word on
abbrev pub AreListRooms : (words : List ℕ) (first count below : ℕ) (directory groups places : List ℕ) → Type 0
AreListRooms words first count below directory groups places =
    AreDirectories words (first + low_size count below) (upper_bits count below) directory groups places

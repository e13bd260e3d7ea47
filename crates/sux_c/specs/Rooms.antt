-- Rooms of a hollow trie that lie in room of the caller's.
use Rattle.std.specs.Prelude.{◌≡◌, ℕ, ◌+◌, length}
use Rattle.sx_dump.specs.Rooms.{RoomWords}
use Rattle.sux_c.specs.declared.rooms.SuxRooms.{SuxRooms}

-- the words of them
abbrev pub rooms_in : SuxRooms → RoomWords
rooms_in r = record {
  left_directory = r.left_directory.now;
  left_groups = r.left_groups.now;
  left_places = r.left_places.now;
  skip_directory = r.skip_directory.now;
  skip_groups = r.skip_groups.now;
  skip_places = r.skip_places.now;
  top = r.top.now;
}

-- so many words they have together
abbrev pub WantsWords : RoomWords → ℕ → Type 0
WantsWords r count = count
    ≡ length r.left_directory + length r.left_groups + length r.left_places
    + (length r.skip_directory + length r.skip_groups + length r.skip_places)
    + length r.top

-- What is known of a handle that is open.
use Rattle.std.specs.Prelude.{◌≡◌, ℕ, ◌≤◌, true, List}
use Rattle.sx_spec_kinds.specs.declared.Kind.TheVariants.{Zfast}
use Rattle.sx_sections.specs.declared.header.Header.{Header}
use Rattle.sx_sections.specs.declared.place.Place.{Place}
use Rattle.sx_dump.specs.Opening.{IsOpened}
use Rattle.sx_dump.specs.Rooms.{AreTrieRooms, RoomWords, lists_at}
use Rattle.sx_dump.specs.Viewing.{IsLongest, holds_directories}
use Rattle.sux_c.specs.declared.found.SuxFound.{SuxFound}
use Rattle.sux_c.specs.declared.rooms.SuxRooms.{SuxRooms}
use Rattle.sux_c.specs.Headers.{header_in}
use Rattle.sux_c.specs.Found.{places_in}
use Rattle.sux_c.specs.Rooms.{rooms_in}

-- where the kind holds directories, the rooms are those of the dump in the words
abbrev pub AreRoomsFor : List ℕ → Header → List Place → RoomWords → Type 0
AreRoomsFor words h places r = holds_directories h.plan.kind ≡ true → AreTrieRooms words (lists_at h.plan.kind) places r

-- the words passed every check, which found this, and what is made beforehand for a dump of the kind is that of the dump in them
pub record IsServed (words : List ℕ) (f : SuxFound) (r : SuxRooms) : Type 0 where
  pub opened : IsOpened words (header_in f.header) (places_in f)
  pub few : f.count ≤ 11
  pub rooms : AreRoomsFor words (header_in f.header) (places_in f) (rooms_in r)
  pub longest : (header_in f.header).plan.kind ≡ Zfast → IsLongest words f.longest

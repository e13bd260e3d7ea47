-- What the view of a hollow trie holds beside the words of its dump.
use Rattle.std.specs.Prelude.{◌≡◌, ℕ, ◌+◌, List, Some, slice_get}
use Rattle.sx_ef.specs.declared.section.Sums.{Sums as SumsPlace}
use Rattle.sx_ef.specs.Rooms.{AreListRooms}
use Rattle.sx_hollow.specs.Tops.{AreKept}
use Rattle.sx_spec_kinds.specs.declared.Kind.{Kind}
use Rattle.sx_spec_kinds.specs.declared.Kind.TheVariants.{Func, Lcp, Lcp2, Hollow, HollowDist, Zfast}
use Rattle.sx_spec.specs.Reply.{gaps, numbers_of}
use Rattle.sx_sections.specs.declared.place.Place.{Place}
use Rattle.sx_sections.specs.declared.place.Place.TheVariants.{Sums}
use Rattle.sx_dump.specs.Opening.{dump_in}
use Rattle.sx_dump.specs.declared.rooms.TrieRooms.{TrieRooms}

-- place i is that of this Elias-Fano list
abbrev pub IsSumsPlace : List Place → ℕ → SumsPlace → Type 0
IsSumsPlace places i s = slice_get places i ≡ Some (Sums s)

-- three lists are the directories of the Elias-Fano list at place i
abbrev pub AreSumsRooms : (words : List ℕ) (places : List Place) (i : ℕ) (directory groups ones : List ℕ) → Type 0
AreSumsRooms words places i directory groups ones =
    (s : SumsPlace) → IsSumsPlace places i s → AreListRooms words s.body s.count s.below directory groups ones

-- the words of the rooms: three directories for each of the two lists, and the nodes that are kept
pub record RoomWords : Type 0 where
  pub left_directory : List ℕ
  pub left_groups : List ℕ
  pub left_places : List ℕ
  pub skip_directory : List ℕ
  pub skip_groups : List ℕ
  pub skip_places : List ℕ
  pub top : List ℕ

-- those of rooms that are read in some way
abbrev pub room_words : {D : Type 0} (rooms : TrieRooms D) (words_of : D → List ℕ) → RoomWords
room_words rooms words_of = record {
  left_directory = words_of rooms.left.directory;
  left_groups = words_of rooms.left.groups;
  left_places = words_of rooms.left.places;
  skip_directory = words_of rooms.skip.directory;
  skip_groups = words_of rooms.skip.groups;
  skip_places = words_of rooms.skip.places;
  top = words_of rooms.top;
}

-- they are those of the hollow trie whose two lists are section i of the dump in the words, and the one behind it
pub record AreTrieRooms (words : List ℕ) (i : ℕ) (places : List Place) (r : RoomWords) : Type 0 where
  pub left : AreSumsRooms words places i r.left_directory r.left_groups r.left_places
  pub skip : AreSumsRooms words places (i + 1) r.skip_directory r.skip_groups r.skip_places
  pub top : AreKept (gaps (numbers_of (dump_in words) i)) (gaps (numbers_of (dump_in words) (i + 1))) r.top

-- the section of a dump that is the first list of its hollow trie, where its kind has one
abbrev pub lists_at : Kind → ℕ
lists_at Func = 0
lists_at Lcp = 0
lists_at Lcp2 = 0
lists_at Hollow = 0
lists_at HollowDist = 1
lists_at Zfast = 0

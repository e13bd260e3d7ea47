-- What the opening of words of a file of so many bytes comes to.
use Rattle.std.specs.Prelude.{◌≡◌, ◌≢◌, ◌<◌, ℕ, min, true, List, length, Ok, Err}
use Rattle.std.specs.Int.{div_ceil}
use Rattle.sx_spec.specs.Layout.{header_of}
use Rattle.sx_spec_program.specs.Offer.{opened_by}
use Rattle.sx_spec_program.specs.Program.{sux_offer}
use Rattle.sx_sections.specs.Openings.{IsFile}
use Rattle.sx_dump.specs.Opening.{IsOpened, dump_in, opened_words}
use Rattle.sx_dump.specs.Rooms.{AreTrieRooms, RoomWords, lists_at}
use Rattle.sx_dump.specs.Viewing.{holds_directories}
use Rattle.sx_sections.specs.declared.header.Header.{Header}
use Rattle.sx_sections.specs.declared.place.Place.{Place}
use Rattle.sux_c.specs.Rooms.{WantsWords}
use Rattle.sux_c.specs.declared.opening.Stop.{Stop}
use Rattle.sux_c.specs.declared.opening.Stop.TheVariants.{Count, Check, Room, Memory}

-- every check passes, and the file is the dump in the words
pub record Passes (words : List ℕ) (bytes : ℕ) : Type 0 where
  pub found : opened_words words bytes ≡ Ok (dump_in words)
  pub opened : (file : List ℕ) → IsFile words bytes file → opened_by sux_offer file ≡ Ok (dump_in words)

-- this check is the first that fails
pub record Fails (words : List ℕ) (bytes check : ℕ) : Type 0 where
  pub found : opened_words words bytes ≡ Err check
  pub opened : (file : List ℕ) → IsFile words bytes file → opened_by sux_offer file ≡ Err check

-- what answers for the dump in the words is made with these rooms, which have so many words, and there is room for fewer
pub record LacksRoom (words : List ℕ) (room wanted : ℕ) : Type 0 where
  pub header : Header
  pub places : List Place
  pub rooms : RoomWords
  pub opened : IsOpened words header places
  pub kind : holds_directories header.plan.kind ≡ true
  pub are : AreTrieRooms words (lists_at header.plan.kind) places rooms
  pub take : WantsWords rooms wanted
  pub short : room < wanted

-- how many words they have is told, as far as 64 bits tell it
pub record TellsRoom (words : List ℕ) (room told : ℕ) : Type 0 where
  pub wanted : ℕ
  pub lacks : LacksRoom words room wanted
  pub tells : told ≡ min wanted 18446744073709551615

-- why there are no rooms for a dump that was opened
abbrev pub IsRoomStop : List ℕ → Header → List Place → (room : ℕ) → Stop → Type 0
IsRoomStop words h places room (Room wanted) = (holds_directories h.plan.kind ≡ true) × LacksRoom words room wanted
IsRoomStop words h places room Memory = holds_directories h.plan.kind ≡ true
IsRoomStop words h places room Count = ⊥
IsRoomStop words h places room (Check check) = ⊥

-- why a handle isn't open, though there was so much room
abbrev pub IsStop : List ℕ → (bytes room : ℕ) → Stop → Type 0
IsStop words bytes room Count = length words ≢ div_ceil bytes 8
IsStop words bytes room (Check check) = (length words ≡ div_ceil bytes 8) × Fails words bytes check
IsStop words bytes room (Room wanted) = (length words ≡ div_ceil bytes 8) × Passes words bytes × LacksRoom words room wanted
IsStop words bytes room Memory = (length words ≡ div_ceil bytes 8) × Passes words bytes × (holds_directories (header_of words).plan.kind ≡ true)

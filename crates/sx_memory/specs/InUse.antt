-- The file in use on a shelf in memory.
use Rattle.std.specs.Prelude.{ℕ, ◌==◌, nat_le, Bool, true, false, List, length, drop, Option, Some, None, option_map, slice_get, unwrap_or, ◌-◌}
use Rattle.std.specs.List.{position_or_len}
use Rattle.sx_spec.specs.Command.{Text}
use Rattle.sx_memory.specs.declared.entry.Entry.{Entry}
use Rattle.sx_memory.specs.declared.in_use.InUse.{InUse}
use Rattle.sx_memory.specs.declared.in_use.InUse.TheVariants.{Idle, Reading, Writing}
use Rattle.sx_edge.specs.Shelf.{Use, idle, reading, writing}
use Rattle.sx_memory.specs.Entries.{bytes_in, room_in, is_named}

-- whether no file is in use, one is being read or one is being written
abbrev pub use_of : InUse → Use
use_of Idle = idle
use_of (Reading file at) = reading
use_of (Writing file) = writing

-- what is left of the file being read
abbrev pub rest_of : InUse → List Entry → Option (List ℕ)
rest_of Idle entries = None
rest_of (Reading file at) entries = option_map (λ entry. drop at (bytes_in entry)) (slice_get entries file)
rest_of (Writing file) entries = None

-- the name of the file being written
abbrev pub name_of : InUse → List Entry → Option Text
name_of Idle entries = None
name_of (Reading file at) entries = None
name_of (Writing file) entries = option_map (λ entry. entry.name.items) (slice_get entries file)

-- whether the test holds of an entry that is there
abbrev pub holds_of : (Entry → Bool) → Option Entry → Bool
holds_of test None = false
holds_of test (Some entry) = test entry

-- for how many more bytes the file being written has room
abbrev pub room_left : InUse → List Entry → ℕ
room_left Idle entries = 0
room_left (Reading file at) entries = 0
room_left (Writing file) entries = unwrap_or (option_map (λ entry. room_in entry - length (bytes_in entry)) (slice_get entries file)) 0

-- whether the file in use is there: one that is read has been read to no place past its end, one that is written is the first of its name
abbrev pub is_placed : InUse → List Entry → Bool
is_placed Idle entries = true
is_placed (Reading file at) entries = holds_of (λ entry. nat_le at (length (bytes_in entry))) (slice_get entries file)
is_placed (Writing file) entries = holds_of (λ entry. position_or_len (is_named entry.name.items) entries == file) (slice_get entries file)

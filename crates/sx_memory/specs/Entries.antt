-- The files of a shelf in memory: what stands under each name.
use Rattle.std.specs.Prelude.{ℕ, Bool, List, length, take, Option, Some, None, if◌then◌else◌, option_and_then, option_map}
use Rattle.std.specs.Str.{bytes_eq}
use Rattle.std.specs.List.{find, position}
use Rattle.sx_spec.specs.World.{Files}
use Rattle.sx_memory.specs.declared.entry.Entry.{Entry}

-- the bytes of an entry
abbrev pub bytes_in : Entry → List ℕ
bytes_in entry = take entry.len entry.buf.items

-- how many bytes an entry has room for
abbrev pub room_in : Entry → ℕ
room_in entry = length entry.buf.items

-- the file of an entry, where there is one
abbrev pub bytes_of : Entry → Option (List ℕ)
bytes_of entry = if entry.there then Some (bytes_in entry) else None

-- whether the entry has the name
abbrev pub is_named : List ℕ → Entry → Bool
is_named name entry = bytes_eq entry.name.items name

-- the place of the first entry with the name
abbrev pub place_named : List ℕ → List Entry → Option ℕ
place_named name entries = position (is_named name) entries

-- the files of the entries: under each name that of its first entry
abbrev pub files_of : List Entry → Files
files_of entries name = option_and_then bytes_of (find (is_named name) entries)

-- for how many bytes room was made under a name, where any was
abbrev pub room_of : List Entry → List ℕ → Option ℕ
room_of entries name = option_map room_in (find (is_named name) entries)

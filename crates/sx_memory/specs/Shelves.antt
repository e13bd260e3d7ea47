-- What a shelf in memory tells, and what its calls leave.
use Rattle.std.specs.Prelude.{◌≡◌, ◌≢◌, ℕ, max, List, Option, Some, unwrap_or}
use Rattle.sx_spec.specs.Command.{Text}
use Rattle.sx_spec.specs.World.{Files}
use Rattle.sx_memory.specs.declared.entry.Entry.{Entry}
use Rattle.sx_memory.specs.declared.in_use.InUse.TheVariants.{Reading, Writing}
use Rattle.sx_memory.specs.declared.shelf.MemShelf.{MemShelf}
use Rattle.sx_memory.specs.Entries.{files_of, room_of}
use Rattle.sx_memory.specs.InUse.{name_of, rest_of, room_left}

-- ---- entries

-- the files of the entries, told
abbrev pub told : List Entry → Option Files
told entries = Some (files_of entries)

-- what is left of a file from a place on
abbrev pub rest_from : (entries : List Entry) (file at : ℕ) → Option (List ℕ)
rest_from entries file at = rest_of (Reading file at) entries

-- the name of a file
abbrev pub name_at : (entries : List Entry) (file : ℕ) → Option Text
name_at entries file = name_of (Writing file) entries

-- for how many more bytes a file has room
abbrev pub room_at : (entries : List Entry) (file : ℕ) → ℕ
room_at entries file = room_left (Writing file) entries

-- under every name there is room for as many bytes as before
abbrev pub KeepsRoom : (old new : List Entry) → Type 0
KeepsRoom old new = (other : List ℕ) → room_of new other ≡ room_of old other

-- under every other name there is
abbrev pub KeepsOtherRoom : (name : List ℕ) (old new : List Entry) → Type 0
KeepsOtherRoom name old new = (other : List ℕ) → other ≢ name → room_of new other ≡ room_of old other

-- under the name there is room for so many bytes, or for as many as before where those were more
abbrev pub MakesRoom : (name : List ℕ) (size : ℕ) (old new : List Entry) → Type 0
MakesRoom name size old new = room_of new name ≡ Some (max (unwrap_or (room_of old name) 0) size)

-- ---- shelves

-- the files of a shelf, told
abbrev pub files_in : MemShelf → Option Files
files_in shelf = told shelf.entries.items

-- what is left of the file that is being read
abbrev pub rest_in : MemShelf → Option (List ℕ)
rest_in shelf = rest_of shelf.used shelf.entries.items

-- the name of the file that is being written
abbrev pub name_in : MemShelf → Option Text
name_in shelf = name_of shelf.used shelf.entries.items

-- for how many more bytes it has room
abbrev pub room_in_use : MemShelf → ℕ
room_in_use shelf = room_left shelf.used shelf.entries.items

-- What the objects in memory hold.
use Rattle.std.specs.Prelude.{ℕ, List, length, take, drop, Option, Some}
use Rattle.sx_memory.specs.declared.source.MemSource.{MemSource}
use Rattle.sx_memory.specs.declared.calm.CalmSource.{CalmSource}
use Rattle.sx_memory.specs.declared.sink.MemSink.{MemSink}

-- the bytes that a source has left
abbrev pub bytes_left : MemSource → List ℕ
bytes_left source = drop source.at source.bytes.items

-- the bytes that were written to a sink
abbrev pub bytes_written : MemSink → List ℕ
bytes_written sink = take sink.len sink.slots.items

-- how many bytes a sink has room for
abbrev pub sink_room : MemSink → ℕ
sink_room sink = length sink.slots.items

-- these bytes, told
abbrev pub told : MemSink → Option (List ℕ)
told sink = Some (bytes_written sink)

-- the bytes that a source has left which never fails
abbrev pub calm_left : CalmSource → List ℕ
calm_left source = drop source.at source.bytes.items

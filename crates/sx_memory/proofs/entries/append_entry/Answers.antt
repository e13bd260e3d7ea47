use Rattle.std.proofs.Common.{◌≡◌, ℕ, take, refl, ap, Some, Option, ◌∙◌, append-nil}
use Rattle.std.specs.Prelude.{option_map, option_and_then}
use Rattle.sx_memory.specs.declared.entry.Entry.{Entry}
use Rattle.sx_memory.specs.Entries.{bytes_in, bytes_of, room_in}
use Rattle.sx_memory.proofs.EntryLaws.{writes_at, appends_file, still_placed, still_named, same_under}
use Rattle.sx_memory.proofs.entries.append_entry.Goals as goal

pub returns-clause-file : goal.returns-clause-file
returns-clause-file c =
    let s = writes_at c.args.entries.now.items c.args.file c.index_mut-entry.result.now c.index_mut-entry.ensures.value c.requires in
    appends_file s c.append.new.self (take c.append.result c.args.bytes.now) c.append.ensures.name c.append.ensures.there c.append.ensures.bytes

pub returns-clause-none : goal.returns-clause-none
returns-clause-none c = λ none.
    let s = writes_at c.args.entries.now.items c.args.file c.index_mut-entry.result.now c.index_mut-entry.ensures.value c.requires in
    let same : bytes_in c.append.new.self ≡ bytes_in c.index_mut-entry.result.now = c.append.ensures.bytes ∙ rw none (append-nil (bytes_in c.index_mut-entry.result.now)) in
    same_under (λ (o : Option Entry). option_and_then bytes_of o) s c.append.new.self c.append.ensures.name (rw (c.append.ensures.there, same) refl)

pub returns-clause-count : goal.returns-clause-count
returns-clause-count c =
    let s = writes_at c.args.entries.now.items c.args.file c.index_mut-entry.result.now c.index_mut-entry.ensures.value c.requires in
    rw s.at c.append.ensures.count

pub returns-clause-placed : goal.returns-clause-placed
returns-clause-placed c =
    let s = writes_at c.args.entries.now.items c.args.file c.index_mut-entry.result.now c.index_mut-entry.ensures.value c.requires in
    still_placed s c.append.new.self c.append.ensures.name

pub returns-clause-name : goal.returns-clause-name
returns-clause-name c =
    let s = writes_at c.args.entries.now.items c.args.file c.index_mut-entry.result.now c.index_mut-entry.ensures.value c.requires in
    still_named s c.append.new.self c.append.ensures.name ∙ rw s.at refl

pub returns-clause-room : goal.returns-clause-room
returns-clause-room c =
    let s = writes_at c.args.entries.now.items c.args.file c.index_mut-entry.result.now c.index_mut-entry.ensures.value c.requires in
    same_under (λ (o : Option Entry). option_map room_in o) s c.append.new.self c.append.ensures.name (ap (λ (n : ℕ). Some n) c.append.ensures.room)

use Rattle.std.proofs.Common.{◌≡◌, ◌≤◌, ◌++◌, ◌-◌, List, ℕ, [], true, refl, sym, ap, Some, Option, None, take, length, min, arith, ◌∙◌}
use Rattle.std.proofs.lemmas.List.{take_all}
use Rattle.std.specs.Prelude.{option_map}
use Rattle.sx_memory.specs.declared.entry.Entry.{Entry}
use Rattle.sx_memory.specs.Entries.{place_named, bytes_in, room_in}
use Rattle.sx_memory.proofs.EntryLaws.{stands_at, no_entry, sets_file, same_under}
use Rattle.sx_memory.proofs.entries.set_named.Goals as goal

-- what is put behind no bytes is all that there is room for
all_put : (was bytes : List ℕ) (count room : ℕ) → was ≡ [] → length bytes ≤ room → count ≡ min (length bytes) (room - length was) → was ++ take count bytes ≡ bytes
all_put was bytes count room none fits is =
    let size : count ≡ length bytes = omega (arith, ap (λ (l : List ℕ). length l) none) in
    rw (none, size) (take_all (length bytes) bytes (omega arith))

pub returns-in-Some-clause-file : goal.returns-in-Some-clause-file
returns-in-Some-clause-file c =
    let place : place_named c.args.name.now c.args.entries.now.items ≡ Some c.in-Some.place = rw c.deref.ensures.value at (sym c.in-Some.ensures) in
    let s = stands_at c.args.name.now c.args.entries.now.items c.in-Some.place c.index_mut-entry.result.now place c.index_mut-entry.ensures.value in
    let fits : length c.args.bytes.now ≤ room_in c.index_mut-entry.result.now = rw s.found at c.requires in
    let whole : bytes_in c.append.new.self ≡ c.args.bytes.now = c.append.ensures.bytes ∙ all_put (bytes_in c.clear.new.self) c.args.bytes.now c.append.result (room_in c.clear.new.self) c.clear.ensures.bytes (rw c.clear.ensures.room fits) c.append.ensures.count in
    let there : c.append.new.self.there ≡ true = c.append.ensures.there ∙ c.clear.ensures.there in
    sets_file s c.append.new.self (c.append.ensures.name ∙ c.clear.ensures.name) c.args.bytes.now (rw (there, whole) refl)

pub returns-in-Some-clause-room : goal.returns-in-Some-clause-room
returns-in-Some-clause-room c =
    let place : place_named c.args.name.now c.args.entries.now.items ≡ Some c.in-Some.place = rw c.deref.ensures.value at (sym c.in-Some.ensures) in
    let s = stands_at c.args.name.now c.args.entries.now.items c.in-Some.place c.index_mut-entry.result.now place c.index_mut-entry.ensures.value in
    same_under (λ (o : Option Entry). option_map room_in o) s c.append.new.self (c.append.ensures.name ∙ c.clear.ensures.name) (ap (λ (n : ℕ). Some n) (c.append.ensures.room ∙ c.clear.ensures.room))

pub returns-in_default-clause-file : goal.returns-in_default-clause-file
returns-in_default-clause-file c =
    let place : place_named c.args.name.now c.args.entries.now.items ≡ None = rw c.deref.ensures.value at (sym c.in_default.ensures) in
    absurd (rw (no_entry c.args.name.now c.args.entries.now.items place) at c.requires)

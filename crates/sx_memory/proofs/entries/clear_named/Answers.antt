use Rattle.std.proofs.Common.{◌≡◌, ℕ, [], refl, sym, ap, Some, Option, None}
use Rattle.std.specs.Prelude.{option_map}
use Rattle.sx_memory.specs.declared.entry.Entry.{Entry}
use Rattle.sx_memory.specs.Entries.{place_named, bytes_of, room_in}
use Rattle.sx_memory.proofs.EntryLaws.{stands_at, no_entry, sets_file, still_placed, still_named, same_under}
use Rattle.sx_memory.proofs.entries.clear_named.Goals as goal

pub returns-in_err-place-clause-exact : goal.returns-in_err-place-clause-exact
returns-in_err-place-clause-exact c =
    let place : place_named c.args.name.now c.args.entries.now.items ≡ None = rw c.deref.ensures.value at (sym c.in_err-place.ensures) in
    rw (c.from_residual.ensures, no_entry c.args.name.now c.args.entries.now.items place) refl

pub returns-clause-file : goal.returns-clause-file
returns-clause-file c =
    let place : place_named c.args.name.now c.args.entries.now.items ≡ Some c.in_ok-place.place = rw c.deref.ensures.value at (sym c.in_ok-place.ensures) in
    let s = stands_at c.args.name.now c.args.entries.now.items c.in_ok-place.place c.index_mut-entry.result.now place c.index_mut-entry.ensures.value in
    let empty : bytes_of c.clear.new.self ≡ Some [] = rw (c.clear.ensures.there, c.clear.ensures.bytes) refl in
    sets_file s c.clear.new.self c.clear.ensures.name [] empty

pub returns-clause-placed : goal.returns-clause-placed
returns-clause-placed c =
    let place : place_named c.args.name.now c.args.entries.now.items ≡ Some c.in_ok-place.place = rw c.deref.ensures.value at (sym c.in_ok-place.ensures) in
    let s = stands_at c.args.name.now c.args.entries.now.items c.in_ok-place.place c.index_mut-entry.result.now place c.index_mut-entry.ensures.value in
    still_placed s c.clear.new.self c.clear.ensures.name

pub returns-clause-name : goal.returns-clause-name
returns-clause-name c =
    let place : place_named c.args.name.now c.args.entries.now.items ≡ Some c.in_ok-place.place = rw c.deref.ensures.value at (sym c.in_ok-place.ensures) in
    let s = stands_at c.args.name.now c.args.entries.now.items c.in_ok-place.place c.index_mut-entry.result.now place c.index_mut-entry.ensures.value in
    still_named s c.clear.new.self c.clear.ensures.name

pub returns-clause-exact : goal.returns-clause-exact
returns-clause-exact c =
    let place : place_named c.args.name.now c.args.entries.now.items ≡ Some c.in_ok-place.place = rw c.deref.ensures.value at (sym c.in_ok-place.ensures) in
    let s = stands_at c.args.name.now c.args.entries.now.items c.in_ok-place.place c.index_mut-entry.result.now place c.index_mut-entry.ensures.value in
    rw s.found refl

pub returns-clause-room : goal.returns-clause-room
returns-clause-room c =
    let place : place_named c.args.name.now c.args.entries.now.items ≡ Some c.in_ok-place.place = rw c.deref.ensures.value at (sym c.in_ok-place.ensures) in
    let s = stands_at c.args.name.now c.args.entries.now.items c.in_ok-place.place c.index_mut-entry.result.now place c.index_mut-entry.ensures.value in
    same_under (λ (o : Option Entry). option_map room_in o) s c.clear.new.self c.clear.ensures.name (ap (λ (n : ℕ). Some n) c.clear.ensures.room)

use Rattle.std.proofs.Common.{◌≡◌, ◌++◌, ◌∷◌, [], List, ℕ, Result, Ok, Err, OnOk, OnErr, Option, Some, None, refl, sym, ap, ◌∙◌}
use Rattle.std.specs.Prelude.{option_map, option_and_then}
use Rattle.sx_memory.specs.declared.entry.Entry.{Entry}
use Rattle.sx_memory.specs.Entries.{place_named, bytes_of, room_in, files_of, room_of}
use Rattle.sx_memory.proofs.EntryLaws.{stands_at, same_under, find_changed, find_other, find_pushed_other, push_keeps_files, push_makes_room}
use Rattle.sx_memory.proofs.entries.make_room.Goals as goal

on_ok : {T E : Type 0} (r : Result T E) (P Q : Type 0) → (P → Q) → OnOk r P → OnOk r Q
on_ok (Ok x) P Q f p = f p
on_ok (Err e) P Q f p = tt

on_err : {T E : Type 0} (r : Result T E) (P Q : Type 0) → (P → Q) → OnErr r P → OnErr r Q
on_err (Ok x) P Q f p = tt
on_err (Err e) P Q f p = f p

pub returns-in-Some-clause-files : goal.returns-in-Some-clause-files
returns-in-Some-clause-files c =
    let place : place_named c.args.name.now c.args.entries.now.items ≡ Some c.in-Some.place = rw c.deref.ensures.value at (sym c.in-Some.ensures) in
    let s = stands_at c.args.name.now c.args.entries.now.items c.in-Some.place c.index_mut-entry.result.now place c.index_mut-entry.ensures.value in
    same_under (λ (o : Option Entry). option_and_then bytes_of o) s c.grow.new.self c.grow.ensures.name (rw (c.grow.ensures.there, c.grow.ensures.bytes) refl)

pub returns-in-Some-clause-room : goal.returns-in-Some-clause-room
returns-in-Some-clause-room c =
    let place : place_named c.args.name.now c.args.entries.now.items ≡ Some c.in-Some.place = rw c.deref.ensures.value at (sym c.in-Some.ensures) in
    let s = stands_at c.args.name.now c.args.entries.now.items c.in-Some.place c.index_mut-entry.result.now place c.index_mut-entry.ensures.value in
    on_ok c.grow.result _ _ (λ more. rw (find_changed s c.grow.new.self c.grow.ensures.name, s.found) (ap (λ (n : ℕ). Some n) more)) c.grow.ensures.room

pub returns-in-Some-clause-others : goal.returns-in-Some-clause-others
returns-in-Some-clause-others c = λ other ne.
    let place : place_named c.args.name.now c.args.entries.now.items ≡ Some c.in-Some.place = rw c.deref.ensures.value at (sym c.in-Some.ensures) in
    let s = stands_at c.args.name.now c.args.entries.now.items c.in-Some.place c.index_mut-entry.result.now place c.index_mut-entry.ensures.value in
    ap (λ (o : Option Entry). option_map room_in o) (find_other s c.grow.new.self c.grow.ensures.name other ne)

pub returns-in-Some-clause-refused : goal.returns-in-Some-clause-refused
returns-in-Some-clause-refused c =
    let place : place_named c.args.name.now c.args.entries.now.items ≡ Some c.in-Some.place = rw c.deref.ensures.value at (sym c.in-Some.ensures) in
    let s = stands_at c.args.name.now c.args.entries.now.items c.in-Some.place c.index_mut-entry.result.now place c.index_mut-entry.ensures.value in
    on_err c.grow.result _ _ (λ same. rw (find_changed s c.grow.new.self c.grow.ensures.name, s.found) (ap (λ (n : ℕ). Some n) same)) c.grow.ensures.refused

pub returns-in_ok-push-in-None-clause-files : goal.returns-in_ok-push-in-None-clause-files
returns-in_ok-push-in-None-clause-files c =
    let place : place_named c.args.name.now c.args.entries.now.items ≡ None = rw c.deref.ensures.value at (sym c.in-None.ensures) in
    let grown : c.push.new.self.items ≡ c.args.entries.now.items ++ c.in_ok-entry-in-None.entry ∷ [] = c.in_ok-push-in-None.ensures.items in
    let kept = push_keeps_files c.args.name.now c.args.entries.now.items c.in_ok-entry-in-None.entry place c.in_ok-entry-in-None.ensures.name c.in_ok-entry-in-None.ensures.absent in
    λ name. ap (λ (l : List Entry). files_of l name) grown ∙ kept name

pub returns-in_ok-push-in-None-clause-room : goal.returns-in_ok-push-in-None-clause-room
returns-in_ok-push-in-None-clause-room c =
    let place : place_named c.args.name.now c.args.entries.now.items ≡ None = rw c.deref.ensures.value at (sym c.in-None.ensures) in
    let grown : c.push.new.self.items ≡ c.args.entries.now.items ++ c.in_ok-entry-in-None.entry ∷ [] = c.in_ok-push-in-None.ensures.items in
    ap (λ (l : List Entry). room_of l c.args.name.now) grown ∙ push_makes_room c.args.name.now c.args.entries.now.items c.in_ok-entry-in-None.entry c.args.size place c.in_ok-entry-in-None.ensures.name c.in_ok-entry-in-None.ensures.room

pub returns-in_ok-push-in-None-clause-others : goal.returns-in_ok-push-in-None-clause-others
returns-in_ok-push-in-None-clause-others c = λ other ne.
    let grown : c.push.new.self.items ≡ c.args.entries.now.items ++ c.in_ok-entry-in-None.entry ∷ [] = c.in_ok-push-in-None.ensures.items in
    ap (λ (l : List Entry). room_of l other) grown ∙ ap (λ (o : Option Entry). option_map room_in o) (find_pushed_other c.args.name.now c.args.entries.now.items c.in_ok-entry-in-None.entry c.in_ok-entry-in-None.ensures.name other ne)

use Rattle.std.proofs.Common.{◌≡◌, ℕ, List, true, false, refl, sym, ap, Some}
use Rattle.sx_memory.specs.Entries.{place_named}
use Rattle.sx_memory.proofs.EntryLaws.{stands_at, no_entry}
use Rattle.sx_memory.proofs.entries.file_named.Goals as goal

pub returns-then-there-clause-some : goal.returns-then-there-clause-some
returns-then-there-clause-some c =
    let place : place_named c.args.name.now c.args.entries.now ≡ Some c.in-Some.place = sym c.in-Some.ensures in
    let s = stands_at c.args.name.now c.args.entries.now c.in-Some.place c.index-entries-place.result place c.index-entries-place.is in
    let there : c.index-entries-place.result.there ≡ true = sym c.if-there.ensures in
    rw (s.found, there) (ap (λ (l : List ℕ). Some l) (sym c.bytes.ensures))

pub returns-else-there-clause-none : goal.returns-else-there-clause-none
returns-else-there-clause-none c =
    let place : place_named c.args.name.now c.args.entries.now ≡ Some c.in-Some.place = sym c.in-Some.ensures in
    let s = stands_at c.args.name.now c.args.entries.now c.in-Some.place c.index-entries-place.result place c.index-entries-place.is in
    let there : c.index-entries-place.result.there ≡ false = sym c.if-there.ensures in
    rw (s.found, there) refl

pub returns-in-None-clause-none : goal.returns-in-None-clause-none
returns-in-None-clause-none c = rw (no_entry c.args.name.now c.args.entries.now (sym c.in-None.ensures)) refl

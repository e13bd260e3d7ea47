use Rattle.std.proofs.Common.{◌≡◌, true, false, refl, sym, Some, None, arith}
use Rattle.std.proofs.lemmas.Bool.Decides.{nat_tests}
use Rattle.sx_memory.specs.Entries.{place_named}
use Rattle.sx_memory.proofs.EntryLaws.{stands_at, no_entry}
use Rattle.sx_memory.proofs.entries.open_named.Goals as goal

pub returns-in_err-place-clause-none : goal.returns-in_err-place-clause-none
returns-in_err-place-clause-none c =
    let place : place_named c.args.name.now c.args.entries.now ≡ None = sym c.in_err-place.ensures in
    rw (c.from_residual.ensures, no_entry c.args.name.now c.args.entries.now place) refl

pub returns-then-there-clause-some : goal.returns-then-there-clause-some
returns-then-there-clause-some c =
    let place : place_named c.args.name.now c.args.entries.now ≡ Some c.in_ok-place.place = sym c.in_ok-place.ensures in
    let s = stands_at c.args.name.now c.args.entries.now c.in_ok-place.place c.index-entries-place.result place c.index-entries-place.is in
    let there : c.index-entries-place.result.there ≡ true = sym c.if-there.ensures in
    rw (s.found, s.at, there) (refl, refl)

pub returns-then-there-clause-placed : goal.returns-then-there-clause-placed
returns-then-there-clause-placed c =
    let place : place_named c.args.name.now c.args.entries.now ≡ Some c.in_ok-place.place = sym c.in_ok-place.ensures in
    let s = stands_at c.args.name.now c.args.entries.now c.in_ok-place.place c.index-entries-place.result place c.index-entries-place.is in
    rw s.at (grind (arith, nat_tests))

pub returns-else-there-clause-none : goal.returns-else-there-clause-none
returns-else-there-clause-none c =
    let place : place_named c.args.name.now c.args.entries.now ≡ Some c.in_ok-place.place = sym c.in_ok-place.ensures in
    let s = stands_at c.args.name.now c.args.entries.now c.in_ok-place.place c.index-entries-place.result place c.index-entries-place.is in
    let there : c.index-entries-place.result.there ≡ false = sym c.if-there.ensures in
    rw (s.found, there) refl

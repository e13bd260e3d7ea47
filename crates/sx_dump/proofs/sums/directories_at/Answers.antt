use Rattle.std.proofs.Common.{◌≡◌, ◌∙◌, Option, Some, Result, Ok, Err, arith, sym, subst}
use Rattle.std.specs.Prelude.{IfOk}
use Rattle.sx_ef.specs.declared.section.Sums.{Sums as SumsPlace}
use Rattle.sx_ef.specs.Rooms.{AreListRooms}
use Rattle.sx_sections.specs.Places.{IsSummed}
use Rattle.sx_sections.specs.declared.place.Place.{Place}
use Rattle.sx_sections.specs.declared.place.Place.TheVariants.{Sums}
use Rattle.sx_dump.proofs.sums.directories_at.Goals as goal

pub directories-requires-clause-some : goal.directories-requires-clause-some
directories-requires-clause-some g c = (c.requires.opened.stand.sums c.args.i c.sums_place-sums.result c.sums_place-sums.ensures).some

pub directories-requires-clause-few : goal.directories-requires-clause-few
directories-requires-clause-few g c = (c.requires.opened.stand.sums c.args.i c.sums_place-sums.result c.sums_place-sums.ensures).few

pub directories-requires-clause-above : goal.directories-requires-clause-above
directories-requires-clause-above g c = (c.requires.opened.stand.sums c.args.i c.sums_place-sums.result c.sums_place-sums.ensures).above

pub directories-requires-clause-within : goal.directories-requires-clause-within
directories-requires-clause-within g c =
    let words = g.B.WordBank.words_of c.args.bank in
    let stands : IsSummed words c.sums_place-sums.result = c.requires.opened.stand.sums c.args.i c.sums_place-sums.result c.sums_place-sums.ensures in
    omega (arith, stands.size, stands.within)

-- what follows of a result that is there
if_ok_then : {X Y : Type 0} (r : Result X Y) (P Q : X → Type 0) → ((x : X) → P x → Q x) → IfOk r P → IfOk r Q
if_ok_then (Ok x) P Q follows holds = follows x holds
if_ok_then (Err y) P Q follows holds = tt

-- one place is that of one list
same_place : (s t : SumsPlace) (p : Option Place) → p ≡ Some (Sums s) → p ≡ Some (Sums t) → s ≡ t
same_place s t p is_s is_t = let both : Some (Sums s) ≡ Some (Sums t) = sym is_s ∙ is_t in cc

pub returns : goal.returns
returns g c =
    let words = g.B.WordBank.words_of c.args.bank in
    let s = c.sums_place-sums.result in
    if_ok_then c.directories.result _ _
    (λ d made t there. subst (λ (x : SumsPlace). AreListRooms words x.body x.count x.below d.directory.items d.groups.items d.places.items) (same_place s t _ c.sums_place-sums.ensures there) made)
    c.directories.ensures.made

use Rattle.std.proofs.Common.{◌≡◌, subst, sym}
use Rattle.std.specs.Prelude.{MatchOption}
use Rattle.sx_spec.specs.StaticFunction.{AllDiffer, AreTwins}
use Rattle.sx_spec.specs.declared.Method.TheVariants.{Gov3}
use Rattle.sx_static.specs.Answer.{IsAnswer, entries_of}
use Rattle.sx_static.proofs.Entries.{signatures_of_entries}
use Rattle.sx_static.proofs.build.Goals as goal

pub returns-in-Some : goal.returns-in-Some
returns-in-Some c =
    let sigs = c.args.sigs.now in
    let values = c.args.values.now in
    let twins = c.in-Some.twins in
    let found = subst (λ o. MatchOption o (c.args.method ≡ Gov3 → AllDiffer sigs) (λ t. AreTwins sigs t.first t.second)) c.in-Some.is c.in_ok-twins.ensures in
    subst (IsAnswer c.args.method 64 c.args.width (entries_of sigs values)) (sym c.twins_told.ensures)
    (subst (λ s. AreTwins s twins.first twins.second) (sym (signatures_of_entries sigs values c.requires.values)) found)

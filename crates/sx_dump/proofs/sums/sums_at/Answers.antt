use Rattle.std.proofs.Common.{arith, ◌∙◌}
use Rattle.sx_sections.specs.Places.{IsSummed}
use Rattle.sx_dump.proofs.Sections.{sums_are}
use Rattle.sx_dump.proofs.sums.sums_at.Goals as goal

pub over-requires-clause-some : goal.over-requires-clause-some
over-requires-clause-some g c = (c.requires.opened.stand.sums c.args.i c.sums_place-sums.result c.sums_place-sums.ensures).some

pub over-requires-clause-few : goal.over-requires-clause-few
over-requires-clause-few g c = (c.requires.opened.stand.sums c.args.i c.sums_place-sums.result c.sums_place-sums.ensures).few

pub over-requires-clause-above : goal.over-requires-clause-above
over-requires-clause-above g c = (c.requires.opened.stand.sums c.args.i c.sums_place-sums.result c.sums_place-sums.ensures).above

pub over-requires-clause-within : goal.over-requires-clause-within
over-requires-clause-within g c =
    let words = g.B.WordBank.words_of c.args.bank in
    let stands : IsSummed words c.sums_place-sums.result = c.requires.opened.stand.sums c.args.i c.sums_place-sums.result c.sums_place-sums.ensures in
    omega (arith, stands.size, stands.within)

pub over-requires-clause-valid : goal.over-requires-clause-valid
over-requires-clause-valid g c = (c.requires.opened.stand.sums c.args.i c.sums_place-sums.result c.sums_place-sums.ensures).valid

pub over-requires-clause-made : goal.over-requires-clause-made
over-requires-clause-made g c = c.requires.made c.sums_place-sums.result c.sums_place-sums.ensures

pub returns : goal.returns
returns g c =
    let words = g.B.WordBank.words_of c.args.bank in
    let o = c.args.opened.now in
    record { numbers = c.over.ensures.items ∙ sums_are words o.header o.places.items c.requires.opened c.args.i c.sums_place-sums.result c.sums_place-sums.ensures }

use Rattle.std.proofs.Common.{◌≡◌, ◌∙◌, ◌<◌, ◌^◌, ◌-◌, ◌+◌, ◌*◌, ◌/◌, sym, subst, ap, arith}
use Rattle.sx_spec.specs.Fields.{words_for}
use Rattle.sx_ef.specs.Parts.{low_size}
use Rattle.sx_ef.proofs.Widths.{upper_few}
use Rattle.sx_ef.proofs.view.upper_of.Goals as goal

pub overflow_add-start : goal.overflow_add-start
overflow_add-start c =
    let width = c.low_bits-width.ensures.width in
    let start : c.div_ceil.result ≡ low_size c.args.count c.args.below = c.div_ceil.ensures ∙ (λ j. words_for (c.args.count * (c.from.ensures ∙ width) j)) in
    omega (arith, c.requires.within)

pub overflow_add-bits : goal.overflow_add-bits
overflow_add-bits c =
    let few = subst (λ w. c.args.count + (c.args.below - 1) / 2 ^ w < 3 * c.args.count) (sym c.low_bits-width.ensures.width) (upper_few c.args.count c.args.below c.requires.some c.requires.above) in
    omega (arith, c.requires.few)

pub returns-clause-start : goal.returns-clause-start
returns-clause-start c =
    let width = c.low_bits-width.ensures.width in
    let start : c.div_ceil.result ≡ low_size c.args.count c.args.below = c.div_ceil.ensures ∙ (λ j. words_for (c.args.count * (c.from.ensures ∙ width) j)) in
    ap (λ n. c.args.first + n) start

pub returns-clause-bits : goal.returns-clause-bits
returns-clause-bits c = ap (λ w. c.args.count + (c.args.below - 1) / 2 ^ w) c.low_bits-width.ensures.width

pub returns-clause-few : goal.returns-clause-few
returns-clause-few c =
    let few = subst (λ w. c.args.count + (c.args.below - 1) / 2 ^ w < 3 * c.args.count) (sym c.low_bits-width.ensures.width) (upper_few c.args.count c.args.below c.requires.some c.requires.above) in
    omega (arith, c.requires.few)

use Rattle.std.proofs.Common.{◌<◌, ◌^◌, ◌-◌, ◌+◌, ◌*◌, ◌/◌, sym, subst, arith}
use Rattle.sx_ef.proofs.Widths.{upper_few}
use Rattle.sx_ef.proofs.check.parts_pass.Goals as goal

pub overflow_add-upper_bits : goal.overflow_add-upper_bits
overflow_add-upper_bits c =
    let few = subst (λ w. c.args.count + (c.args.below - 1) / 2 ^ w < 3 * c.args.count) (sym c.low_bits-width.ensures.width) (upper_few c.args.count c.args.below c.requires.some c.requires.above) in
    omega (arith, c.requires.few)

pub are_sums-requires-clause-few : goal.are_sums-requires-clause-few
are_sums-requires-clause-few c =
    let few = subst (λ w. c.args.count + (c.args.below - 1) / 2 ^ w < 3 * c.args.count) (sym c.low_bits-width.ensures.width) (upper_few c.args.count c.args.below c.requires.some c.requires.above) in
    omega (arith, c.requires.few)

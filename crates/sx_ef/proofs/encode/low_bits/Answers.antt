use Rattle.std.proofs.Common.{◌/◌, arith}
use Rattle.std.proofs.Math.Nat.{div-le_self}
use Rattle.sx_ef.proofs.Widths.{digits_by_zeros}
use Rattle.sx_ef.proofs.encode.low_bits.Goals as goal

pub returns-clause-width : goal.returns-clause-width
returns-clause-width c =
    let less = div-le_self c.args.below c.args.count in
    let digits = digits_by_zeros (c.args.below / c.args.count) (omega arith) in
    omega (arith, c.saturating_sub.ensures)

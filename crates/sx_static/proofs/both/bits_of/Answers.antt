use Rattle.std.proofs.Common.{◌/◌, ◌^◌, ◌<◌, arith, subst, sym}
use Rattle.std.proofs.Math.Nat.{mod-lt}
use Rattle.std.proofs.Math.Pow.{pow_pos}
use Rattle.sx_fields.proofs.WordFields.{masked}
use Rattle.sx_static.proofs.both.bits_of.Goals as goal

pub returns-clause-bits : goal.returns-clause-bits
returns-clause-bits c = masked (c.args.number / 2 ^ c.args.shift) c.args.width (omega arith)

pub returns-clause-fit : goal.returns-clause-fit
returns-clause-fit c =
    let n = c.args.number / 2 ^ c.args.shift in
    subst (λ x. x < 2 ^ c.args.width) (sym (masked n c.args.width (omega arith))) (mod-lt n (pow_pos c.args.width))

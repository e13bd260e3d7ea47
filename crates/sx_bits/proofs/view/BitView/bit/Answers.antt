use Rattle.std.proofs.Common.{◌+◌, ◌-◌, ◌%◌, sym, ap, ◌∙◌, arith}
use Rattle.std.specs.Prelude.{◌==◌}
use Rattle.std.proofs.lemmas.Nat.Bits.{shr_and_one}
use Rattle.std.specs.Int.{bit_at as number_bit}
use Rattle.sx_bits.proofs.ViewBits.{length-bits_of, bit_of_view}
use Rattle.sx_bits.proofs.view.BitView.bit.Goals as goal

pub overflow_add-place : goal.overflow_add-place
overflow_add-place c =
    let v = c.args.self.now in
    let long = length-bits_of v in
    let a = v.ordered in
    let b = v.within in
    let d = v.short in
    omega arith

pub returns : goal.returns
returns c =
    let v = c.args.self.now in
    let place = v.from + c.args.i in
    let long = length-bits_of v in
    ap (λ m. m == 1) (shr_and_one c.byte_or_zero.result (7 - place % 8))
    ∙ ap (λ b. number_bit b (7 - place % 8) == 1) c.byte_or_zero.ensures
    ∙ sym (bit_of_view v c.args.i (omega arith))

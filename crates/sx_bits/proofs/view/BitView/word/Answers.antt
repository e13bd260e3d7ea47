use Rattle.std.proofs.Common.{◌≡◌, ◌+◌, ◌∙◌, sym, ap, get_or, false, arith}
use Rattle.sx_spec_strings.specs.Bits.{key_bits}
use Rattle.sx_bits.proofs.ViewBits.{length-bits_of, bit_of_line_there}
use Rattle.sx_bits.proofs.view.BitView.word.Goals as goal

pub overflow_add-self : goal.overflow_add-self
overflow_add-self c =
    let v = c.args.self.now in
    let long = length-bits_of v in
    let a = v.ordered in
    let b = v.within in
    let d = v.short in
    omega arith

pub word_at-requires : goal.word_at-requires
word_at-requires c =
    let v = c.args.self.now in
    let long = length-bits_of v in
    let a = v.ordered in
    let b = v.within in
    let d = v.short in
    omega arith

pub returns : goal.returns
returns c = λ j lt inside.
    let v = c.args.self.now in
    let e : v.from + c.args.at + j ≡ v.from + (c.args.at + j) = omega arith in
    let long = length-bits_of v in
    c.word_at.ensures j lt ∙ ap (λ m. get_or (key_bits v.line.now) m false) e ∙ sym (bit_of_line_there v (c.args.at + j) (omega arith))

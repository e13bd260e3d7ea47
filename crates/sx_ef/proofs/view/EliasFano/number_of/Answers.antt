use Rattle.std.proofs.Common.{◌∙◌, ◌^◌, ◌-◌, ◌+◌, ◌*◌, ◌%◌, drop, arith}
use Rattle.sx_spec.specs.Fields.{fields, ones_of}
use Rattle.sx_ranksel.specs.Directory.{number_at}
use Rattle.sx_fields.proofs.Places.{length-fields}
use Rattle.sx_ef.proofs.Numbers.{length-sums}
use Rattle.sx_ef.proofs.Views.{ones_ge, number_is}
use Rattle.sx_ef.proofs.view.EliasFano.number_of.Goals as goal

pub overflow_sub-high : goal.overflow_sub-high
overflow_sub-high g c =
    let e = c.args.self.now in
    let x = number_at e.upper.first (g.B.WordBank.words_of e.upper.bank) in
    let words = drop e.low.first (g.B.WordBank.words_of e.low.bank) in
    let lows = fields e.low.width e.low.len words in
    let size = length-fields e.low.width e.low.len words in
    let all = length-sums 0 e.width (ones_of e.upper.bits x) lows (omega (arith, e.ones, e.lows)) in
    let late = ones_ge e.upper.bits x c.args.i (omega (arith, c.requires.within)) in
    omega (arith, c.requires.place)

pub get-requires : goal.get-requires
get-requires g c =
    let e = c.args.self.now in
    let ones = ones_of e.upper.bits (number_at e.upper.first (g.B.WordBank.words_of e.upper.bank)) in
    let words = drop e.low.first (g.B.WordBank.words_of e.low.bank) in
    let lows = fields e.low.width e.low.len words in
    let size = length-fields e.low.width e.low.len words in
    let all = length-sums 0 e.width ones lows (omega (arith, e.ones, e.lows)) in
    omega (arith, c.requires.within, e.lows, e.ones)

pub returns-clause-value : goal.returns-clause-value
returns-clause-value g c =
    let e = c.args.self.now in
    let ones = ones_of e.upper.bits (number_at e.upper.first (g.B.WordBank.words_of e.upper.bank)) in
    let words = drop e.low.first (g.B.WordBank.words_of e.low.bank) in
    let lows = fields e.low.width e.low.len words in
    let size = length-fields e.low.width e.low.len words in
    let all = length-sums 0 e.width ones lows (omega (arith, e.ones, e.lows)) in
    let number = number_is e.width c.args.i ones lows (omega (arith, e.ones, e.lows)) (omega (arith, c.requires.within)) e.fit in
    (λ j. (c.requires.place j - c.args.i) * 2 ^ e.width % 2 ^ 64 + c.get.ensures.value j) ∙ number.0

pub overflow_add-result : goal.overflow_add-result
overflow_add-result g c =
    let e = c.args.self.now in
    let ones = ones_of e.upper.bits (number_at e.upper.first (g.B.WordBank.words_of e.upper.bank)) in
    let words = drop e.low.first (g.B.WordBank.words_of e.low.bank) in
    let lows = fields e.low.width e.low.len words in
    let size = length-fields e.low.width e.low.len words in
    let all = length-sums 0 e.width ones lows (omega (arith, e.ones, e.lows)) in
    let number = number_is e.width c.args.i ones lows (omega (arith, e.ones, e.lows)) (omega (arith, c.requires.within)) e.fit in
    let value = returns-clause-value g c in
    omega (arith, number.1)

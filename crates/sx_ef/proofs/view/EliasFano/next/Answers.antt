use Rattle.std.proofs.Common.{drop, arith}
use Rattle.sx_spec.specs.Fields.{fields, ones_of}
use Rattle.sx_ranksel.specs.Directory.{number_at}
use Rattle.sx_fields.proofs.Places.{length-fields}
use Rattle.sx_ef.proofs.Numbers.{length-sums}
use Rattle.sx_ef.proofs.view.EliasFano.next.Goals as goal

pub overflow_add-i : goal.overflow_add-i
overflow_add-i g c =
    let e = c.args.self.now in
    let ones = ones_of e.upper.bits (number_at e.upper.first (g.B.WordBank.words_of e.upper.bank)) in
    let words = drop e.low.first (g.B.WordBank.words_of e.low.bank) in
    let lows = fields e.low.width e.low.len words in
    let size = length-fields e.low.width e.low.len words in
    let all = length-sums 0 e.width ones lows (omega (arith, e.ones, e.lows)) in
    omega (arith, c.requires.within, e.ones, e.few)

pub next-place-requires-clause-some : goal.next-place-requires-clause-some
next-place-requires-clause-some g c =
    let e = c.args.self.now in
    let ones = ones_of e.upper.bits (number_at e.upper.first (g.B.WordBank.words_of e.upper.bank)) in
    let words = drop e.low.first (g.B.WordBank.words_of e.low.bank) in
    let lows = fields e.low.width e.low.len words in
    let size = length-fields e.low.width e.low.len words in
    let all = length-sums 0 e.width ones lows (omega (arith, e.ones, e.lows)) in
    omega (arith, c.requires.within)

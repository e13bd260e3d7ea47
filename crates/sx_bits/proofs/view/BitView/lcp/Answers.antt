use Rattle.std.proofs.Common.{◌≡◌, ◌∙◌, length, arith}
use Rattle.std.specs.Prelude.{min}
use Rattle.std.proofs.lemmas.Nat.{xor_lt}
use Rattle.sx_bits.specs.Views.{bits_of}
use Rattle.sx_bits.proofs.LineWords.{agree_more, parted, agreed}
use Rattle.sx_bits.proofs.view.BitView.lcp.Goals as goal

pub loop-at-preserved : goal.loop-at-preserved
loop-at-preserved c = λ j lt near.
    let x = bits_of c.args.self.now in
    let y = bits_of c.args.other.now in
    let lx = c.len.ensures.value in
    let ly = c.len-2.ensures.value in
    let most = c.min-most.ensures in
    agree_more x y c.loop-at.at c.word.result c.word-in-loop-at.result c.word.ensures c.word-in-loop-at.ensures
    (λ k a b. c.loop-at.invariant k a (omega arith)) c.if-apart-ne0.false j lt (omega arith)

pub returns-then-apart-ne0-clause-value : goal.returns-then-apart-ne0-clause-value
returns-then-apart-ne0-clause-value c =
    let x = bits_of c.args.self.now in
    let y = bits_of c.args.other.now in
    let lx = c.len.ensures.value in
    let ly = c.len-2.ensures.value in
    let most = c.min-most.ensures in
    parted x y c.loop-at.at c.word.result c.word-in-loop-at.result c.word.ensures c.word-in-loop-at.ensures
    (λ k a b. c.loop-at.invariant k a (omega arith)) _ (omega arith) (xor_lt 64 c.word.result c.word-in-loop-at.result (omega arith) (omega arith)) (omega arith) (omega arith)

pub returns-clause-value : goal.returns-clause-value
returns-clause-value c =
    let x = bits_of c.args.self.now in
    let y = bits_of c.args.other.now in
    let lx = c.len.ensures.value in
    let ly = c.len-2.ensures.value in
    let most = c.min-most.ensures in
    let e : c.min-most.result ≡ min (length x) (length y) = omega arith in
    e ∙ agreed x y c.loop-at.at (omega arith) (λ k a b. c.loop-at.invariant k a (omega arith))

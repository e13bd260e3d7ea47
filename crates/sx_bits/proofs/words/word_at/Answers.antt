use Rattle.std.proofs.Common.{◌+◌, ◌-◌, ◌/◌, take, drop, arith}
use Rattle.sx_bits.proofs.LineWords.{bit_of_nine, nine_of_slice}
use Rattle.sx_bits.proofs.words.word_at.Goals as goal

pub returns-then-first-line : goal.returns-then-first-line
returns-then-first-line c = λ j lt.
    let line = c.args.line.now in
    let first = c.args.start / 8 in
    bit_of_nine line (take (first + 9 - first) (drop first line)) c.args.start j _ (nine_of_slice line first) (c.word_of.ensures j lt) lt

pub returns : goal.returns
returns c = λ j lt.
    let long = c.copy_bytes.auto.out in
    bit_of_nine c.args.line.now c.copy_bytes.new.out c.args.start j _ (λ k near. c.copy_bytes.ensures k (omega arith)) (c.word_of-2.ensures j lt) lt

use Rattle.std.proofs.Common.{◌≡◌, ◌+◌, ◌-◌, ◌++◌, length, drop, ap, ◌∙◌, arith}
use Rattle.std.proofs.lemmas.List.{length-append, length-take, length-drop}
use Rattle.sx_bits.proofs.LineBytes.{copied}
use Rattle.sx_bits.proofs.packing.copy_bytes.Goals as goal

pub returns : goal.returns
returns c = λ i lt.
    let line = c.args.line.now in
    let old = c.args.out.now in
    let first = c.min-first.result in
    let have = c.min-have.result in
    let front = c.copy_from_slice.new.self in
    let one = front ++ drop have old in
    let a = length-append front (drop have old) in
    let b = length-drop have old in
    let f = length-drop first line in
    let g : length front ≡ have = ap length c.copy_from_slice.ensures.after ∙ length-take (first + have - first) (drop first line) ∙ omega arith in
    let d = length-drop have one in
    let e = length-take (length one - have) (drop have one) in
    let h = length-drop (length one - have) (drop have one) in
    copied line front old c.fill.new.self _ c.args.first first have _ i c.min-first.ensures c.min-have.ensures
    c.copy_from_slice.ensures.after (c.fill.ensures.after (λ y same. same)) (omega arith) (omega arith) lt

use Rattle.std.proofs.Common.{arith}
use Rattle.sx_zfast.proofs.MemoLaws.{all_kept}
use Rattle.sx_zfast.proofs.memo.Memo.go_on.Goals as goal

pub returns : goal.returns
returns c m x y known long same =
    let h = c.loop-i.invariant in
    let size = h.many in
    let before = h.before in
    let over = c.loop-i-test.false in
    all_kept m x y c.args.shared c.args.self.now.slots c.loop-i.self.slots (λ i less. h.done i (omega arith)) (omega arith) known long same

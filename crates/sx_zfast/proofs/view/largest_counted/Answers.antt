use Rattle.std.proofs.Common.{arith}
use Rattle.sx_zfast.specs.Maps.{numbers_read}
use Rattle.sx_zfast.proofs.Longest.{largest_more, largest_none, largest_whole}
use Rattle.sx_zfast.proofs.view.largest_counted.Goals as goal

pub loop-i-init : goal.loop-i-init
loop-i-init g c = largest_none (numbers_read c.args.list.now)

pub loop-i-preserved : goal.loop-i-preserved
loop-i-preserved g c =
    let less = c.loop-i-test.true in
    let end = c.len-i-end.ensures in
    largest_more (numbers_read c.args.list.now) c.loop-i.i c.loop-i.most c.read_narrow.result c.max-most.result (omega arith) c.loop-i.invariant c.read_narrow.ensures.value c.max-most.ensures

pub returns : goal.returns
returns g c =
    let over = c.loop-i-test.false in
    let end = c.len-i-end.ensures in
    largest_whole (numbers_read c.args.list.now) c.loop-i.i c.loop-i.most (omega arith) c.loop-i.invariant

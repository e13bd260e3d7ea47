use Rattle.std.proofs.Common.{◌-◌, arith}
use Rattle.sx_bits.proofs.LastKeys.{by_last}
use Rattle.sx_bits.proofs.keys.KeyList.order_to_last.Goals as goal

pub returns : goal.returns
returns c = λ test. by_last test c.args.self.now.lines c.args.line.now c.get.result.now (c.len-count.result - 1) c.cmp.result (omega arith) c.get.ensures.value c.cmp.ensures

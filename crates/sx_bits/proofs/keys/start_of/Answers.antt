use Rattle.std.proofs.Common.{sym}
use Rattle.sx_bits.proofs.Cuts.{start_at}
use Rattle.sx_bits.proofs.keys.start_of.Goals as goal

pub returns-else-i-eq0 : goal.returns-else-i-eq0
returns-else-i-eq0 c = sym (start_at c.args.ends.now c.args.i c.if-i-eq0.false)

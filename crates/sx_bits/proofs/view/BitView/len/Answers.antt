use Rattle.std.proofs.Common.{sym}
use Rattle.sx_bits.proofs.ViewBits.{length-bits_of}
use Rattle.sx_bits.proofs.view.BitView.len.Goals as goal

pub returns-clause-value : goal.returns-clause-value
returns-clause-value c = sym (length-bits_of c.args.self.now)

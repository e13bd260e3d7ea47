use Rattle.std.proofs.Common.{refl, arith}
use Rattle.sx_edge.proofs.Fills.{takes_behind}
use Rattle.sx_edge.proofs.line.read_behind.Goals as goal

pub returns-clause-took : goal.returns-clause-took
returns-clause-took g c = takes_behind c.read.result _ _ c.args.buf.now c.read.new.buf c.args.len _ c.requires.room refl (omega (arith, c.read.auto.buf)) c.read.ensures.bound c.read.ensures.bytes

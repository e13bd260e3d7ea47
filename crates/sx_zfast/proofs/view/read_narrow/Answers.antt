use Rattle.std.proofs.Common.{drop, arith}
use Rattle.sx_zfast.proofs.MapNodes.{number_narrow}
use Rattle.sx_zfast.proofs.view.read_narrow.Goals as goal

pub overflow_cast-result : goal.overflow_cast-result
overflow_cast-result g c =
    let p = c.args.list.now in
    let small = number_narrow p.width p.len (drop p.first (g.B.WordBank.words_of p.bank)) c.args.i c.requires.narrow c.requires.within in
    let is = c.read.ensures.value in
    omega arith

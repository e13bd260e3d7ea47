use Rattle.std.proofs.Common.{inr}
use Rattle.sx_sig.proofs.EqualPairs.{follows}
use Rattle.sx_sig.proofs.grouping.nearer.Goals as goal

pub returns-then-right-found-clause-either : goal.returns-then-right-found-clause-either
returns-then-right-found-clause-either c = inr (follows c.args.left c.args.right c.eq.result c.eq.ensures c.if-eq.true c.if-left-right.true)

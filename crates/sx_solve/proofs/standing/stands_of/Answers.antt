use Rattle.std.proofs.Common.{length}
use Rattle.sx_solve.proofs.standing.stands_of.Goals as goal

pub loop-number-preserved : goal.loop-number-preserved
loop-number-preserved c =
    let items = length c.args.eqs.now in
    let vars = c.args.vars in
    c.put-in-loop-number-2.ensures items 3 vars (c.put-in-loop-number.ensures items 3 vars (c.put.ensures items 3 vars c.loop-number.invariant))

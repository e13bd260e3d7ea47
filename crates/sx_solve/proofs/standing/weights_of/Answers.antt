use Rattle.sx_solve.proofs.standing.weights_of.Goals as goal

pub loop-number-preserved : goal.loop-number-preserved
loop-number-preserved c = c.put.ensures c.args.count 1 4 c.loop-number.invariant

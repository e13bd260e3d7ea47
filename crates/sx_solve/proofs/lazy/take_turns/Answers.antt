use Rattle.std.proofs.Common.{sym, arith}
use Rattle.sx_solve.proofs.lazy.take_turns.Goals as goal

pub loop-preserved : goal.loop-preserved
loop-preserved c =
    let turns = c.in_ok-unknown.ensures.turns c.loop.counter c.loop.invariant.turns in
    record {
      weights = rw c.take_out.auto.left c.take_out.ensures;
      turns = rw (c.take_out.auto.left, c.take_out.auto.counts) turns;
    }

pub returns-in_default-clause-turns : goal.returns-in_default-clause-turns
returns-in_default-clause-turns c =
    let turns = c.in_ok-unknown.ensures.turns c.loop.counter c.loop.invariant.turns in
    let left = c.loop.auto.left in
    let counts = c.loop.auto.counts in
    record {
      of_pivots = rw (sym left, sym counts) turns.of_pivots;
      of_aside = rw (sym counts) turns.of_aside;
      few = omega arith;
    }

use Rattle.std.proofs.Common.{◌∙◌}
use Rattle.sx_edge.proofs.Writing.{wrote_more}
use Rattle.sx_edge.proofs.sink.write_all.Goals as goal

pub loop-rest-preserved : goal.loop-rest-preserved
loop-rest-preserved g c = record {
  wrote = wrote_more _ c.in_ok-count.count c.loop-rest.invariant.wrote c.in_ok-count.ensures.bytes;
  calm = c.in_ok-count.ensures.cause.calm ∙ c.loop-rest.invariant.calm;
}

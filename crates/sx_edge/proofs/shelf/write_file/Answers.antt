use Rattle.std.proofs.Common.{◌∙◌}
use Rattle.sx_edge.proofs.Writing.{wrote_file_more}
use Rattle.sx_edge.proofs.shelf.write_file.Goals as goal

pub loop-rest-preserved : goal.loop-rest-preserved
loop-rest-preserved g c = record {
  wrote = wrote_file_more _ c.in_ok-count.count c.loop-rest.invariant.wrote (rw c.loop-rest.invariant.same at c.in_ok-count.ensures.bytes);
  stays = c.in_ok-count.ensures.stays;
  same = c.in_ok-count.ensures.same ∙ c.loop-rest.invariant.same;
  calm = c.in_ok-count.ensures.cause.calm ∙ c.loop-rest.invariant.calm;
}

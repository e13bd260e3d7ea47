use Rattle.std.proofs.Common.{arith, sym, ◌∙◌}
use Rattle.sx_static.proofs.ChunkTables.{chunks_end}
use Rattle.sx_static.proofs.section.are_chunks.Goals as goal

pub returns : goal.returns
returns c = sym (c.loop-i.invariant ∙ chunks_end c.loop-i.i c.args.table.now (omega arith))

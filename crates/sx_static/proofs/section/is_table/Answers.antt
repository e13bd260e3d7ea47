use Rattle.std.proofs.Common.{arith, ◌∙◌}
use Rattle.sx_static.proofs.ChunkTables.{by_chunks, not_first, not_none, not_few}
use Rattle.sx_static.proofs.section.is_table.Goals as goal

pub returns-then-start_of-ne0 : goal.returns-then-start_of-ne0
returns-then-start_of-ne0 c = not_first c.args.table.now c.requires (omega arith)

pub returns-then-try_of-ne0 : goal.returns-then-try_of-ne0
returns-then-try_of-ne0 c = not_none c.args.table.now c.requires (omega arith)

pub returns-then-start_of-from : goal.returns-then-start_of-from
returns-then-start_of-from c = not_few c.args.table.now c.requires (omega arith)

pub returns : goal.returns
returns c = c.are_chunks.ensures ∙ by_chunks c.args.table.now c.requires (omega arith) (omega arith) (omega arith)

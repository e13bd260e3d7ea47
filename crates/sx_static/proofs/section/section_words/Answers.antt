use Rattle.std.proofs.Common.{arith}
use Rattle.sx_static.proofs.FunctionSections.{fails_table, fails_cells, fails_padding, all_pass}
use Rattle.sx_static.proofs.section.section_words.Goals as goal

pub returns-then-not-is_table : goal.returns-then-not-is_table
returns-then-not-is_table c =
    fails_table c.args.least c.args.most c.args.low_width c.args.high_width c.args.words.now (omega arith) (omega arith) (omega arith) (omega arith) (omega arith)
    c.chunk_count-chunks.result (omega arith) (omega arith) c.is_table.result c.is_table.ensures c.if-not-is_table.true

pub returns-then-cells-size : goal.returns-then-cells-size
returns-then-cells-size c =
    fails_cells c.args.least c.args.most c.args.low_width c.args.high_width c.args.words.now (omega arith) (omega arith) (omega arith) (omega arith) (omega arith)
    c.chunk_count-chunks.result (omega arith) (omega arith) c.is_table.result c.is_table.ensures c.if-not-is_table.false
    c.start_of.result c.start_of.ensures c.div_ceil-size.result c.div_ceil-size.ensures c.if-cells-size.true

pub returns-then-not-is_zero_after : goal.returns-then-not-is_zero_after
returns-then-not-is_zero_after c =
    fails_padding c.args.least c.args.most c.args.low_width c.args.high_width c.args.words.now (omega arith) (omega arith) (omega arith) (omega arith) (omega arith)
    c.chunk_count-chunks.result (omega arith) (omega arith) c.is_table.result c.is_table.ensures c.if-not-is_table.false
    c.start_of.result c.start_of.ensures c.div_ceil-size.result c.div_ceil-size.ensures c.if-cells-size.false
    c.is_zero_after.result c.is_zero_after.ensures c.if-not-is_zero_after.true

pub returns : goal.returns
returns c =
    all_pass c.args.least c.args.most c.args.low_width c.args.high_width c.args.words.now (omega arith) (omega arith) (omega arith) (omega arith) (omega arith)
    c.chunk_count-chunks.result (omega arith) (omega arith) c.is_table.result c.is_table.ensures c.if-not-is_table.false
    c.start_of.result c.start_of.ensures c.div_ceil-size.result c.div_ceil-size.ensures c.if-cells-size.false
    c.is_zero_after.result c.is_zero_after.ensures c.if-not-is_zero_after.false

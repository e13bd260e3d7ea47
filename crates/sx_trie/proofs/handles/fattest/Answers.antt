use Rattle.std.proofs.Common.{arith}
use Rattle.sx_spec_kinds.proofs.FattestLaws.{fattest_lem}
use Rattle.sx_trie.proofs.HighBits.{fattest_code, leading_few}
use Rattle.sx_trie.proofs.handles.fattest.Goals as goal

pub overflow_sub-low : goal.overflow_sub-low
overflow_sub-low c = leading_few c.args.a c.args.b c.requires (omega arith)

pub returns-clause-value : goal.returns-clause-value
returns-clause-value c = fattest_code c.args.a c.args.b c.requires (omega arith)

pub returns-clause-above : goal.returns-clause-above
returns-clause-above c =
    let is = fattest_code c.args.a c.args.b c.requires (omega arith) in
    let above = (fattest_lem c.args.a c.args.b c.requires).above in
    omega arith

pub returns-clause-within : goal.returns-clause-within
returns-clause-within c =
    let is = fattest_code c.args.a c.args.b c.requires (omega arith) in
    let within = (fattest_lem c.args.a c.args.b c.requires).within in
    omega arith

use Rattle.std.proofs.Common.{arith}
use Rattle.sx_cli.proofs.ValueFaults.{bad_fault, long_no_value}
use Rattle.sx_cli.proofs.values.long_line.Goals as goal

pub returns-else-line-from : goal.returns-else-line-from
returns-else-line-from c = λ text long. bad_fault c.args.keys c.args.line text (omega arith) (long_no_value text long)

use Rattle.sx_spec_program.proofs.Rows.{open_examples}
use Rattle.sx_spec_program.proofs.examples.open_examples.Goals as goal

pub returns : goal.returns
returns c = open_examples

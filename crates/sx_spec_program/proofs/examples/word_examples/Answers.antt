use Rattle.sx_spec_program.proofs.Rows.{word_examples}
use Rattle.sx_spec_program.proofs.examples.word_examples.Goals as goal

pub returns : goal.returns
returns c = word_examples

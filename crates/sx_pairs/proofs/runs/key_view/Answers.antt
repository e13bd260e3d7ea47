use Rattle.std.specs.Prelude.{map}
use Rattle.sx_spec_strings.specs.Bits.{key_bits}
use Rattle.sx_bits.specs.Views.{bits_of}
use Rattle.sx_pairs.proofs.KeyRuns.{read_at}
use Rattle.sx_pairs.proofs.runs.key_view.Goals as goal

pub returns : goal.returns
returns c = read_at (map key_bits c.args.keys.now.lines) c.args.i (bits_of c.view.result) c.view.ensures

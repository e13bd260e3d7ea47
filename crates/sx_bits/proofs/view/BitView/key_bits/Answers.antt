use Rattle.std.proofs.Common.{◌+◌, ◌-◌, ◌*◌, length, arith}
use Rattle.std.proofs.lemmas.List.{take_all}
use Rattle.sx_spec_strings.specs.Bits.{key_bits}
use Rattle.sx_spec.proofs.Signatures.{length-key_bits}
use Rattle.sx_bits.specs.Views.{bits_of}
use Rattle.sx_bits.proofs.view.BitView.key_bits.Goals as goal

pub returns : goal.returns
unfolding bits_of
returns c =
    let line = c.args.line.now in
    let long = length-key_bits line in
    take_all (8 * (length line + 1) - 0) (key_bits line) (omega arith)

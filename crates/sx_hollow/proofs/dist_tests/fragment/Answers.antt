use Rattle.std.proofs.Common.{length, ap, ◌∙◌, arith}
use Rattle.sx_spec.proofs.Signatures.{length-key_bits}
use Rattle.sx_hollow.proofs.dist_tests.fragment.Goals as goal

pub range-requires-clause-within : goal.range-requires-clause-within
range-requires-clause-within c =
    let size = ap length c.key_bits.ensures ∙ length-key_bits c.args.line.now in
    let within = c.requires.within in
    omega arith

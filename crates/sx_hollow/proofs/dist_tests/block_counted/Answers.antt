use Rattle.std.proofs.Common.{length, ap, ◌∙◌, arith}
use Rattle.sx_spec.proofs.Signatures.{length-key_bits}
use Rattle.sx_hollow.proofs.dist_tests.block_counted.Goals as goal

pub block-requires-clause-whole : goal.block-requires-clause-whole
block-requires-clause-whole g c =
    let size = ap length c.key_bits.ensures ∙ length-key_bits c.args.line.now in
    omega arith

use Rattle.std.proofs.Common.{length, ap, ◌∙◌, arith}
use Rattle.sx_spec.proofs.Signatures.{length-key_bits}
use Rattle.sux_c.proofs.answer.ask_counted.Goals as goal

pub string_reply-requires : goal.string_reply-requires
string_reply-requires g c =
    let size = ap length c.key_bits.ensures ∙ length-key_bits c.args.line.now in
    omega arith

use Rattle.std.proofs.Common.{◌^◌, ◌≤◌, arith}
use Rattle.std.proofs.Math.Pow.{pow_mono}
use Rattle.sx_sig.proofs.chunks.chunk_of.Goals as goal

pub overflow_cast-result : goal.overflow_cast-result
overflow_cast-result c =
    let few : 2 ^ c.args.c ≤ 2 ^ 32 = pow_mono c.requires in
    omega arith

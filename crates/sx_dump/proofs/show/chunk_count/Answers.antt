use Rattle.std.proofs.Common.{◌≤◌, ◌^◌, arith, lit<}
use Rattle.std.proofs.Math.Nat.{pow-le-pow_right}
use Rattle.sx_dump.proofs.show.chunk_count.Goals as goal

pub returns-clause-few : goal.returns-clause-few
returns-clause-few c =
    let few : 2 ^ c.chunk_bits.result ≤ 2 ^ 22 = pow-le-pow_right (lit< tt) c.chunk_bits.ensures.bound in
    omega (arith, few)

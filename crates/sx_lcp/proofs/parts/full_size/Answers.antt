use Rattle.std.proofs.Common.{◌^◌, ◌≤◌, arith, lit<}
use Rattle.std.proofs.Math.Nat.{pow-le-pow_right}
use Rattle.sx_lcp.proofs.parts.full_size.Goals as goal

pub returns-clause-bound : goal.returns-clause-bound
returns-clause-bound c =
    let few : 2 ^ c.args.log_bucket ≤ 2 ^ 12 = pow-le-pow_right (lit< tt) c.requires in
    omega arith

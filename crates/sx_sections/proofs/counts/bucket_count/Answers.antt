use Rattle.std.proofs.Common.{◌≡◌, ◌≤◌, ◌+◌, ◌-◌, ◌*◌, ◌/◌, ◌%◌, ◌^◌, ℕ, arith, lit<, subst, sym}
use Rattle.std.proofs.Math.Nat.{pow-le-pow_right}
use Rattle.std.proofs.Math.Pow.{pow_pos}
use Rattle.sx_sections.proofs.BlockCounts.{blocks_few}
use Rattle.sx_sections.proofs.counts.bucket_count.Goals as goal

pub overflow_add-result : goal.overflow_add-result
overflow_add-result c =
    let few : 2 ^ c.args.header.now.plan.log_bucket ≤ 2 ^ 12 = pow-le-pow_right (lit< tt) c.requires.log_bucket in
    omega (arith, few)

pub returns-clause-few : goal.returns-clause-few
returns-clause-few c =
    let keys = c.args.header.now.keys in
    let size = 2 ^ c.args.header.now.plan.log_bucket in
    let small : size ≤ 2 ^ 12 = pow-le-pow_right (lit< tt) c.requires.log_bucket in
    let same : 1 * size % 18446744073709551616 ≡ size = omega (arith, small) in
    let few = blocks_few size keys (pow_pos c.args.header.now.plan.log_bucket) in
    subst (λ (n : ℕ). n ≤ keys) (sym (λ i. (c.from.ensures i + same i - 1) / same i)) few

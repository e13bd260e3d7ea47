use Rattle.std.proofs.Common.{◌≡◌, ◌+◌, ◌-◌, ◌^◌, ◌<◌, arith}
use Rattle.std.proofs.lemmas.Nat.{shr_below}
use Rattle.sx_sig.proofs.chunks.first_bits_of.Goals as goal

pub returns-clause-below : goal.returns-clause-below
returns-clause-below c =
    let k = c.args.width in
    let e : k + (64 - k) ≡ 64 = omega arith in
    let small : c.args.word < 2 ^ 64 = omega arith in
    shr_below c.args.word k (64 - k) (rw e small)

use Rattle.std.proofs.Common.{ap, arith}
use Rattle.sx_spec.specs.Keys.{total_bytes}
use Rattle.sx_bits.specs.KeyLists.{Keys}
use Rattle.sx_bits.proofs.Cuts.{cut_total}
use Rattle.sx_bits.proofs.Faultless.{key_file}
use Rattle.sx_bits.proofs.keys.KeyList.total.Goals as goal

pub returns-clause-value : goal.returns-clause-value
returns-clause-value c =
    let same = ap (λ (keys : Keys). total_bytes keys.lines) c.self.view_is in
    let all = cut_total 0 c.self.inside.ends.items c.self.inside.bytes.items c.self.invariant.1 in
    omega arith

pub returns-clause-within : goal.returns-clause-within
returns-clause-within c =
    let few = (key_file _ c.self.invariant.0).bytes in
    let same = ap (λ (keys : Keys). keys.limits.max_bytes) c.self.view_is in
    let all = cut_total 0 c.self.inside.ends.items c.self.inside.bytes.items c.self.invariant.1 in
    omega arith

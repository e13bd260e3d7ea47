use Rattle.std.proofs.Common.{length, ap, arith}
use Rattle.sx_bits.specs.KeyLists.{Keys}
use Rattle.sx_bits.proofs.Cuts.{cut_count}
use Rattle.sx_bits.proofs.Faultless.{key_file}
use Rattle.sx_bits.proofs.keys.KeyList.len.Goals as goal

pub overflow_cast-result : goal.overflow_cast-result
overflow_cast-result c =
    let valid = c.self.invariant.0 in
    let few = (key_file _ valid).count in
    let most = valid.limits.keys in
    let count = cut_count 0 c.self.inside.ends.items c.self.inside.bytes.items in
    omega arith

pub returns-clause-value : goal.returns-clause-value
returns-clause-value c =
    let same = ap (λ (keys : Keys). length keys.lines) c.self.view_is in
    let count = cut_count 0 c.self.inside.ends.items c.self.inside.bytes.items in
    omega arith

pub returns-clause-within : goal.returns-clause-within
returns-clause-within c =
    let few = (key_file _ c.self.invariant.0).count in
    let same = ap (λ (keys : Keys). keys.limits.max_keys) c.self.view_is in
    let count = cut_count 0 c.self.inside.ends.items c.self.inside.bytes.items in
    omega arith

use Rattle.std.proofs.Common.{◌≡◌, ◌∙◌, ap, arith, None}
use Rattle.sx_spec.specs.Keys.{refusal}
use Rattle.sx_bits.specs.KeyLists.{Keys}
use Rattle.sx_bits.specs.Cuts.{cut}
use Rattle.sx_bits.proofs.Cuts.{cut_total}
use Rattle.sx_bits.proofs.Faultless.{room_for, pushed_fields, pushed_keys}
use Rattle.sx_bits.proofs.keys.KeyList.push.Goals as goal

pub append-requires : goal.append-requires
append-requires c =
    let free : refusal c.self.inside.limits (cut 0 c.self.inside.ends.items c.self.inside.bytes.items) c.args.line.now ≡ None =
    ap (λ (keys : Keys). refusal keys.limits keys.lines c.args.line.now) c.self.view_is ∙ c.in-None.ensures in
    let room = room_for c.self.inside.limits (cut 0 c.self.inside.ends.items c.self.inside.bytes.items) c.args.line.now free in
    let all = cut_total 0 c.self.inside.ends.items c.self.inside.bytes.items c.self.invariant.1 in
    let most = c.self.invariant.0.limits.bytes in
    omega arith

pub invariant_of-self-2 : goal.invariant_of-self-2
invariant_of-self-2 c =
    let free : refusal c.self.inside.limits (cut 0 c.self.inside.ends.items c.self.inside.bytes.items) c.args.line.now ≡ None =
    ap (λ (keys : Keys). refusal keys.limits keys.lines c.args.line.now) c.self.view_is ∙ c.in-None.ensures in
    pushed_fields c.self.inside.limits c.self.inside.bytes.items c.self.inside.ends.items c.args.line.now c.append.new.bytes.items c.append.new.ends.items
    c.self.invariant free (λ i. omega (arith, c.type_inv.line i)) c.in-Ok.ensures.bytes_after c.in-Ok.ensures.ends_after

pub returns-clause-ok : goal.returns-clause-ok
returns-clause-ok c =
    pushed_keys c.args.self.now c.self.inside.limits c.self.inside.bytes.items c.self.inside.ends.items c.args.line.now c.append.new.bytes.items c.append.new.ends.items
    c.self.invariant.1 c.self.view_is c.in-Ok.ensures.bytes_after c.in-Ok.ensures.ends_after

use Rattle.std.proofs.Common.{length, ap, ◌∙◌, arith}
use Rattle.std.proofs.lemmas.List.{length-set}
use Rattle.sx_links.specs.Seats.{Lists}
use Rattle.sx_peel.proofs.Linking.{free_beside, hooks_differ}
use Rattle.sx_peel.proofs.peeling.put_edge.Goals as goal

pub push-requires-clause-free : goal.push-requires-clause-free
push-requires-clause-free c = c.requires.free 0

pub push-requires-2-clause-free : goal.push-requires-2-clause-free
push-requires-2-clause-free c =
    let n = c.args.number in
    rw c.push.ensures (free_beside c.args.edge.a (record { item = n; hook = 0 }) (record { item = n; hook = 1 }) c.args.links.now c.requires.within.a (hooks_differ n 0 1 (omega arith)) (c.requires.free 1))

pub push-requires-3-clause-free : goal.push-requires-3-clause-free
push-requires-3-clause-free c =
    let n = c.args.number in
    let links = c.args.links.now in
    rw c.push-2.ensures (free_beside c.args.edge.b (record { item = n; hook = 1 }) (record { item = n; hook = 2 }) c.push.new.self
    (let e = ap (λ (l : Lists). length l.lists) c.push.ensures ∙ length-set links.lists c.args.edge.a _ in let b = c.requires.within.b in omega arith) (hooks_differ n 1 2 (omega arith))
    (rw c.push.ensures (free_beside c.args.edge.a (record { item = n; hook = 0 }) (record { item = n; hook = 2 }) links c.requires.within.a (hooks_differ n 0 2 (omega arith)) (c.requires.free 2))))

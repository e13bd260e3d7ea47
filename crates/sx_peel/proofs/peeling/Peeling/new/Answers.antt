use Rattle.std.proofs.Common.{arith}
use Rattle.sx_peel.proofs.Visits.{first_under_way, next_single, next_within}
use Rattle.sx_peel.proofs.peeling.Peeling.new.Goals as goal

pub loop-vertex-preserved : goal.loop-vertex-preserved
loop-vertex-preserved c =
    let links = c.args.links.now in
    let w = c.loop-vertex.vertex in
    let waiting = c.loop-vertex.peeling.waiting.items in
    let inv = c.loop-vertex.invariant in
    rw (c.in_ok-wait.ensures.order, c.in_ok-wait.ensures.waiting) record {
      order = inv.order;
      single = next_single links w waiting inv.single;
      within = next_within links w waiting inv.within;
    }

pub returns : goal.returns
returns c =
    let inv = c.loop-vertex.invariant in
    let whole = c.requires.bound in
    rw inv.order (first_under_way c.args.edges.now c.args.links.now c.loop-vertex.peeling.waiting.items c.requires.linked
    (λ v inside one. inv.single v (omega arith) one)
    (λ v some. let below = inv.within v some in let end = c.loop-vertex.auto.vertex-end in omega arith))

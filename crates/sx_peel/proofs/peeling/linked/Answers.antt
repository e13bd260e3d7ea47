use Rattle.std.proofs.Common.{◌≡◌, ◌-◌, ◌+◌, ◌<◌, [], length, get_or, refl, subst, ◌∙◌, arith}
use Rattle.std.specs.List.{range_with_len}
use Rattle.std.proofs.lemmas.List.{length-replicate}
use Rattle.std.proofs.lemmas.Option.{slice_get-get_or}
use Rattle.sx_spec.specs.declared.Edge.{Edge}
use Rattle.sx_peel.specs.UnderWay.{IsLinked}
use Rattle.sx_peel.proofs.Linking.{none_linked, edge_free, next_linked, length-edge_put}
use Rattle.sx_peel.proofs.peeling.linked.Goals as goal

pub loop-number-init : goal.loop-number-init
loop-number-init c =
    rw c.in_ok-links.ensures record {
      within = omega arith;
      size = length-replicate c.args.bound [];
      items = refl;
      hooks = refl;
      linked = λ n whole. none_linked c.args.edges.now (length c.args.edges.now) c.args.bound n refl whole;
    }

pub put_edge-requires-clause-free : goal.put_edge-requires-clause-free
put_edge-requires-clause-free c h =
    let edges = c.args.edges.now in
    let links = c.loop-number.links in
    let m = c.loop-number.number in
    let n = length edges - m in
    let some = c.loop-number-test.true in
    let low = c.loop-number.invariant.within in
    let up : m ≡ (m - 1) + 1 = omega arith in
    edge_free edges (m - 1) n links (subst (λ k. IsLinked edges (range_with_len k n) links) up (c.loop-number.invariant.linked n (omega arith))) h

pub loop-number-preserved : goal.loop-number-preserved
loop-number-preserved c =
    let edges = c.args.edges.now in
    let links = c.loop-number.links in
    let m = c.loop-number.number in
    let none : Edge = record { a = 0; b = 0; c = 0 } in
    let e = get_or edges (m - 1) none in
    let some = c.loop-number-test.true in
    let inv = c.loop-number.invariant in
    let low = inv.within in
    let inside : m - 1 < length edges = omega arith in
    let up : m ≡ (m - 1) + 1 = omega arith in
    rw c.put_edge.ensures record {
      within = omega arith;
      size = length-edge_put (m - 1) e links ∙ inv.size;
      items = inv.items;
      hooks = inv.hooks;
      linked = next_linked edges links (m - 1) e (slice_get-get_or edges (m - 1) none inside) (rw inv.size (c.requires.within (m - 1) none inside))
          (λ n whole. subst (λ k. IsLinked edges (range_with_len k n) links) up (inv.linked n (omega arith))) inside;
    }

pub returns-clause-linked : goal.returns-clause-linked
returns-clause-linked c =
    let edges = c.args.edges.now in
    let ended : c.loop-number.number ≡ 0 = omega arith in
    subst (λ k. IsLinked edges (range_with_len k (length edges)) c.loop-number.links) ended (c.loop-number.invariant.linked (length edges) (omega arith))

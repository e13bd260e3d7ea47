use Rattle.std.proofs.Common.{◌*◌, arith}
use Rattle.std.proofs.lemmas.List.Elements.{All-push}
use Rattle.sx_spec.specs.declared.Signature.{Signature}
use Rattle.sx_peel.specs.Peeling.{IsEdgeWithin}
use Rattle.sx_static.proofs.Entries.{edges_more}
use Rattle.sx_static.proofs.edges.edges_of.Goals as goal

pub loop-sig-preserved : goal.loop-sig-preserved
loop-sig-preserved c =
    let s = c.args.s in
    let d : Signature = record { w0 = 0; w1 = 0; w2 = 0 } in
    let e = c.edge_of.ensures in
    record {
      edges = rw c.in_ok-push.ensures.items (edges_more s c.args.t c.args.sigs.now c.loop-sig.sig-index d c.loop-sig.edges.items c.edge_of.result (omega arith) e.edge c.loop-sig.invariant.edges);
      within = rw c.in_ok-push.ensures.items (All-push (IsEdgeWithin (3 * s)) c.loop-sig.edges.items c.edge_of.result c.loop-sig.invariant.within e.within);
    }

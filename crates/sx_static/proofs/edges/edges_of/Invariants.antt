use Rattle.std.proofs.Common.{◌≡◌, ◌*◌, All, map, take}
use Rattle.sx_spec.specs.Chunks.{places}
use Rattle.sx_peel.specs.Peeling.{IsEdgeWithin}
use Rattle.sx_static.proofs.edges.edges_of.Given as goal

abbrev pub invariant-loop-sig : goal.invariant-loop-sig
invariant-loop-sig l = record {
  edges : l.edges.items ≡ map (λ sig. places sig l.t l.s) (take l.sig-index l.sigs);
  within : All (IsEdgeWithin (3 * l.s)) l.edges.items;
}

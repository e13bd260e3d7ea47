use Rattle.std.proofs.Common.{◌≡◌, ◌*◌, length}
use Rattle.std.specs.Prelude.{All}
use Rattle.sx_peel.specs.Peeling.{IsEdgeWithin}
use Rattle.sx_peel.proofs.tests.made_edges.Given as goal

abbrev pub invariant-loop-i : goal.invariant-loop-i
invariant-loop-i l = record {
  within : All (IsEdgeWithin (3 * l.third)) l.edges.items;
  size : length l.edges.items ≡ l.i;
}

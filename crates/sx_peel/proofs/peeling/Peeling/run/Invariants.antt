use Rattle.std.proofs.Common.{◌≡◌, length}
use Rattle.sx_peel.specs.UnderWay.{IsUnderWay, work_left}
use Rattle.sx_peel.proofs.peeling.Peeling.run.Given as goal

abbrev pub invariant-loop-vertex : goal.invariant-loop-vertex
invariant-loop-vertex l = record {
  size : length l.links.lists ≡ length l.fn.links.lists;
  under_way : IsUnderWay l.edges l.links l.self.order.items l.self.waiting.items;
}

abbrev pub decreases-loop-vertex : goal.decreases-loop-vertex
decreases-loop-vertex l = work_left l.edges l.self.order.items l.self.waiting.items

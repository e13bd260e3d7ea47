use Rattle.std.proofs.Common.{◌≡◌, drop, length}
use Rattle.sx_sections.specs.Headers.{header_as}
use Rattle.sx_sections.specs.Walks.{AreFoundSoFar}
use Rattle.sx_sections.proofs.walk.walk.Given as goal

abbrev pub invariant-loop-slot : goal.invariant-loop-slot
invariant-loop-slot l = record {
  room : length l.places.items ≡ l.slot-index;
  found : AreFoundSoFar (header_as l.header) l.words l.places.items (drop l.slot-index l.slot-items) l.at l.width l.count;
}

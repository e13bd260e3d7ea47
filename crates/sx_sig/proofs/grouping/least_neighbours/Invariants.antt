use Rattle.std.proofs.Common.{◌≡◌, ◌⊎◌, ℕ, ◌+◌, ◌<◌, ◌≤◌}
use Rattle.sx_sig.specs.Grouping.{IsNeighbour}
use Rattle.sx_sig.proofs.grouping.least_neighbours.Given as goal

abbrev pub invariant-loop-place : goal.invariant-loop-place
invariant-loop-place l = record {
  either : (l.found ≡ l.fn.found) ⊎ IsNeighbour l.ordered l.found.first l.found.second;
  before : l.found.second ≤ l.fn.found.second;
  least : (first second : ℕ) → (n : IsNeighbour l.ordered first second) → n.place + 1 < l.place → l.found.second ≤ second;
}

use Rattle.std.proofs.Common.{◌≡◌, ◌<◌, ℕ, [], length}
use Rattle.sx_links.specs.Seats.{seats_of}
use Rattle.sx_spec.specs.Systems.{count_of}
use Rattle.sx_peel.proofs.peeling.Peeling.new.Given as goal

abbrev pub invariant-loop-vertex : goal.invariant-loop-vertex
invariant-loop-vertex l = record {
  order : l.peeling.order.items ≡ [];
  single : (v : ℕ) → v < l.vertex → length (seats_of l.links v) ≡ 1 → 0 < count_of v l.peeling.waiting.items;
  within : (v : ℕ) → 0 < count_of v l.peeling.waiting.items → v < l.vertex;
}

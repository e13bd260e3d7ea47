use Rattle.std.proofs.Common.{ℕ, ◌<◌, length}
use Rattle.sx_handles.specs.Ways.{way_at}
use Rattle.sx_handles.proofs.ways.way.Way.last.Given as goal

abbrev pub invariant-loop-at : goal.invariant-loop-at
invariant-loop-at l = record {
  inside : l.at < length l.self.nodes.now;
  beyond : (i : ℕ) → l.at < i → i < length l.self.nodes.now → l.len < (way_at l.self.nodes.now i).handle;
}

abbrev pub decreases-loop-at : goal.decreases-loop-at
decreases-loop-at l = l.at

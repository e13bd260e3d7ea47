use Rattle.std.proofs.Common.{◌+◌, ◌*◌, ◌≤◌, length}
use Rattle.sx_spec.specs.Reply.{gaps}
use Rattle.sx_spec_kinds.specs.Hollow.{goes}
use Rattle.sx_bits.specs.Views.{bits_of}
use Rattle.sx_hollow.specs.Views.{sums_read}
use Rattle.sx_hollow.specs.Walks.{RestOf, stand_of}
use Rattle.sx_hollow.proofs.view.HollowView.answer.Given as goal

abbrev pub invariant-loop-at : goal.invariant-loop-at
invariant-loop-at g l = record {
  node : l.at.node + l.at.leaves ≤ l.self.keys;
  first : l.at.first + l.at.leaves ≤ l.self.keys;
  short : l.at.pos ≤ length (bits_of l.view);
  counted : l.initial.steps ≤ l.steps;
  cost : l.steps ≤ l.initial.steps + 162 * l.at.pos;
  rest : RestOf (gaps (sums_read l.self.left)) (gaps (sums_read l.self.skip)) l.self.keys (bits_of l.view) (goes (stand_of l.at)) l.at.leaves;
}

abbrev pub decreases-loop-at : goal.decreases-loop-at
decreases-loop-at g l = l.at.leaves

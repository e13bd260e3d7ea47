use Rattle.std.proofs.Common.{◌+◌, ◌-◌, ◌*◌, ◌<◌, ◌≤◌, length}
use Rattle.sx_spec.specs.Reply.{gaps}
use Rattle.sx_spec_kinds.specs.Hollow.{goes}
use Rattle.sx_bits.specs.Views.{bits_of}
use Rattle.sx_hollow.specs.Views.{AreAt, sums_read}
use Rattle.sx_hollow.specs.Walks.{RestOf, stand_of}
use Rattle.sx_hollow.proofs.view.HollowView.answer_by_lists.Given as goal

abbrev pub invariant-loop-next : goal.invariant-loop-next
invariant-loop-next g l = record {
  more : 1 < l.at.leaves;
  node : l.at.node + l.at.leaves ≤ l.self.keys;
  first : l.at.first + l.at.leaves ≤ l.self.keys;
  begun : l.initial.at.pos ≤ l.at.pos;
  short : l.at.pos < length (bits_of l.view);
  counted : l.initial.steps ≤ l.steps;
  cost : l.steps ≤ l.initial.steps + 152 * (l.at.pos - l.initial.at.pos);
  read : AreAt l.self.left l.self.skip l.at.node l.from;
  rest : RestOf (gaps (sums_read l.self.left)) (gaps (sums_read l.self.skip)) l.self.keys (bits_of l.view) (goes (stand_of l.at)) l.at.leaves;
}

abbrev pub decreases-loop-next : goal.decreases-loop-next
decreases-loop-next g l = l.at.leaves

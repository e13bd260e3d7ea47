use Rattle.std.proofs.Common.{◌+◌, ◌*◌, ◌<◌, ◌≤◌, length}
use Rattle.sx_spec.specs.Reply.{gaps}
use Rattle.sx_spec_kinds.specs.Hollow.{goes}
use Rattle.sx_bits.specs.Views.{bits_of}
use Rattle.sx_hollow.specs.Dist.{reserve}
use Rattle.sx_static.specs.Reading.{answers_by}
use Rattle.sx_hollow.specs.Views.{sums_read}
use Rattle.sx_hollow.specs.Walks.{stand_of}
use Rattle.sx_hollow.proofs.Asking.{RestOf}
use Rattle.sx_hollow.proofs.dist.HollowDistView.block.Given as goal

abbrev pub invariant-loop-at : goal.invariant-loop-at
invariant-loop-at g l = record {
  some : 0 < l.at.leaves;
  node : l.at.node + l.at.leaves ≤ l.self.delimiters;
  first : l.at.first + l.at.leaves ≤ l.self.delimiters;
  within : l.at.pos ≤ length (bits_of l.view);
  counted : l.initial.steps ≤ l.steps;
  cost : l.steps + reserve l.at.place ≤ l.initial.steps + 160 * l.at.pos + 1;
  rest : RestOf (gaps (sums_read l.self.left)) (gaps (sums_read l.self.skip)) (answers_by l.self.turns l.seed l.sig_bits) l.self.delimiters (bits_of l.view) (goes (stand_of l.at)) l.at.leaves;
}

abbrev pub decreases-loop-at : goal.decreases-loop-at
decreases-loop-at g l = l.at.leaves

use Rattle.std.proofs.Common.{◌+◌, ◌*◌, ◌-◌, ◌≤◌, length}
use Rattle.sx_spec.specs.Reply.{gaps}
use Rattle.sx_hollow.specs.Tops.{AreKept}
use Rattle.sx_hollow.specs.Views.{sums_read}
use Rattle.sx_hollow.proofs.keeping.top_counted.Given as goal

abbrev pub invariant-loop-many : goal.invariant-loop-many
invariant-loop-many g l = record {
  kept : AreKept (gaps (sums_read l.left)) (gaps (sums_read l.skip)) l.words.items;
  few : length l.words.items ≤ 2 * l.most;
}

abbrev pub decreases-loop-many : goal.decreases-loop-many
decreases-loop-many g l = l.many + 1 - 32

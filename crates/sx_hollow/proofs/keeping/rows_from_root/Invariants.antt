use Rattle.std.proofs.Common.{◌≤◌, ◌+◌, ◌*◌, length}
use Rattle.sx_spec.specs.Reply.{gaps}
use Rattle.sx_hollow.specs.Views.{sums_read}
use Rattle.sx_hollow.proofs.Tops.{AreRows}
use Rattle.sx_hollow.proofs.keeping.rows_from_root.Given as goal

abbrev pub invariant-loop-place : goal.invariant-loop-place
invariant-loop-place g l = record {
  rows : AreRows (gaps (sums_read l.left)) (gaps (sums_read l.skip)) l.words.items;
  few : length l.words.items ≤ 2 * l.place;
  waiting : length l.queue.items ≤ l.most;
  within : l.place ≤ l.most;
  counted : l.initial.steps ≤ l.steps;
  cost : l.steps ≤ l.initial.steps + 152 * l.place;
}

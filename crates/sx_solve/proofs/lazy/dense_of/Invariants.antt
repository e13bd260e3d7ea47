use Rattle.std.proofs.Common.{◌<◌, ◌≤◌, All, length}
use Rattle.sx_solve.proofs.lazy.dense_of.Given as goal

abbrev pub invariant-loop-number : goal.invariant-loop-number
invariant-loop-number l = record {
  within : All (λ equation. equation < l.count) l.dense.items;
  few : length l.dense.items ≤ l.number;
}

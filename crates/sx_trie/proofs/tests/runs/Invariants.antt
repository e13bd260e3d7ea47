use Rattle.std.proofs.Common.{◌≡◌, length}
use Rattle.sx_spec.specs.Keys.{standard_limits}
use Rattle.sx_trie.proofs.tests.runs.Given as goal

abbrev pub invariant-loop : goal.invariant-loop
invariant-loop l = record {
  limits : l.keys.limits ≡ standard_limits;
  long : length l.line.items ≡ l.counter;
}

use Rattle.std.proofs.Common.{◌≡◌, length}
use Rattle.sx_lcp.proofs.parts_tests.longest_keys.Given as goal

abbrev pub invariant-loop-number : goal.invariant-loop-number
invariant-loop-number g l = l.keys.limits.max_line ≡ 8191

abbrev pub invariant-loop-end : goal.invariant-loop-end
invariant-loop-end g l = record {
  most : l.keys.limits.max_line ≡ 8191;
  longest : length l.line.items ≡ 8191;
}

use Rattle.std.proofs.Common.{◌≡◌, take}
use Rattle.sx_spec_kinds.specs.Blocks.{block_size}
use Rattle.sx_parts.specs.Ranking.{length_numbers}
use Rattle.sx_parts.proofs.numbers.length_numbers.Given as goal

abbrev pub invariant-loop-i : goal.invariant-loop-i
invariant-loop-i l = l.numbers.items ≡ length_numbers (block_size l.log_bucket) (take l.i l.lengths)

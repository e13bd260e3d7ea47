use Rattle.std.proofs.Common.{◌≡◌}
use Rattle.sx_spec_kinds.specs.Blocks.{block_size}
use Rattle.sx_parts.specs.Ranking.{offset_numbers}
use Rattle.sx_parts.proofs.numbers.offset_numbers.Given as goal

abbrev pub invariant-loop-i : goal.invariant-loop-i
invariant-loop-i l = l.numbers.items ≡ offset_numbers (block_size l.log_bucket) l.i

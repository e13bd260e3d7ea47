use Rattle.std.proofs.Common.{◌≡◌, ◌^◌, ◌<◌}
use Rattle.std.specs.Prelude.{fold, max}
use Rattle.sx_spec_kinds.specs.Blocks.{block_size}
use Rattle.sx_parts.specs.Ranking.{offset_numbers}
use Rattle.sx_parts.proofs.numbers.offset_width.Given as goal

abbrev pub invariant-loop-i : goal.invariant-loop-i
invariant-loop-i l = record {
  greatest : l.greatest ≡ fold max 0 (offset_numbers (block_size l.log_bucket) l.i);
  small : l.greatest < 2 ^ 64;
}

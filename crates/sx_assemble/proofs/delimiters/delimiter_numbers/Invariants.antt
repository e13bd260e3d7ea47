use Rattle.std.proofs.Common.{◌≡◌}
use Rattle.sx_assemble.proofs.HollowDistDumps.{last_numbers}
use Rattle.sx_assemble.proofs.delimiters.delimiter_numbers.Given as goal

abbrev pub invariant-loop-block : goal.invariant-loop-block
invariant-loop-block l = l.numbers.items ≡ last_numbers l.size l.block

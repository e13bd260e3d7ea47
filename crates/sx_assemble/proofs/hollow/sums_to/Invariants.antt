use Rattle.std.proofs.Common.{◌≡◌, ◌≤◌, ◌++◌, ◌*◌, ◌^◌, drop}
use Rattle.sx_spec.specs.Built.{sums_from}
use Rattle.sx_assemble.proofs.hollow.sums_to.Given as goal

abbrev pub invariant-loop-number : goal.invariant-loop-number
invariant-loop-number l = record {
  rest : l.sums.items ++ sums_from l.sum (drop l.number-index l.numbers) ≡ sums_from 0 l.numbers;
  small : l.sum ≤ l.number-index * 2 ^ 32;
}

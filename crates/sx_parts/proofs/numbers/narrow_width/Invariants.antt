use Rattle.std.proofs.Common.{◌≡◌, ◌^◌, ◌<◌, take}
use Rattle.std.specs.Prelude.{fold, max}
use Rattle.sx_parts.proofs.numbers.narrow_width.Given as goal

abbrev pub invariant-loop-number : goal.invariant-loop-number
invariant-loop-number l = record {
  greatest : l.greatest ≡ fold max 0 (take l.number-index l.numbers);
  small : l.greatest < 2 ^ 32;
}

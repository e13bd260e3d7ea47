use Rattle.std.proofs.Common.{◌≡◌, ◌^◌, ◌<◌, take}
use Rattle.std.specs.Prelude.{fold, max}
use Rattle.sx_parts.proofs.numbers.least_width.Given as goal

abbrev pub invariant-loop-value : goal.invariant-loop-value
invariant-loop-value l = record {
  greatest : l.greatest ≡ fold max 0 (take l.value-index l.values);
  small : l.greatest < 2 ^ 64;
}

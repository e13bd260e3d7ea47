use Rattle.std.proofs.Common.{◌≡◌, take}
use Rattle.sx_zfast.specs.Largest.{largest}
use Rattle.sx_zfast.specs.Maps.{numbers_read}
use Rattle.sx_zfast.proofs.view.largest_counted.Given as goal

abbrev pub invariant-loop-i : goal.invariant-loop-i
invariant-loop-i g l = l.most ≡ largest (take l.i (numbers_read l.list))

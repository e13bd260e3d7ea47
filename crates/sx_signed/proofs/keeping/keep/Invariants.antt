use Rattle.std.proofs.Common.{◌≡◌}
use Rattle.sx_signed.proofs.KeptNumbers.{AreKeptBefore}
use Rattle.sx_signed.proofs.keeping.keep.Given as goal

abbrev pub invariant-loop-i : goal.invariant-loop-i
invariant-loop-i l = record {
  width : l.list.width ≡ l.width;
  kept : AreKeptBefore l.width l.i l.sigs l.places l.list.items;
}

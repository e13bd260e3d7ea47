use Rattle.std.proofs.Common.{◌≡◌, length, map, take}
use Rattle.sux_c.specs.Places.{place_of}
use Rattle.sux_c.proofs.found.SuxFound.to_opened.Given as goal

abbrev pub invariant-loop-kept : goal.invariant-loop-kept
invariant-loop-kept l = record {
  room : length l.places.items ≡ l.kept-index;
  so_far : l.places.items ≡ map place_of (take l.kept-index l.kept-items);
}

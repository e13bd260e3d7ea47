use Rattle.std.proofs.Common.{◌≡◌, length, map, take}
use Rattle.sux_c.specs.Places.{place_of}
use Rattle.sux_c.proofs.found.SuxFound.of.Given as goal

abbrev pub invariant-sections : goal.invariant-sections
invariant-sections l = record {
  room : length l.places ≡ 11;
  so_far : map place_of (take l.i l.places) ≡ take l.i l.listed;
}

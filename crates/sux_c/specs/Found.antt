-- What was found in a dump, by its numbers.
use Rattle.std.specs.Prelude.{List, map, take}
use Rattle.sx_sections.specs.declared.place.Place.{Place}
use Rattle.sux_c.specs.declared.found.SuxFound.{SuxFound}
use Rattle.sux_c.specs.Places.{place_of}

-- the places of the sections, in order
abbrev pub places_in : SuxFound → List Place
places_in f = map place_of (take f.count f.places)

-- The places of sections by their numbers.
use Rattle.std.specs.Prelude.{◌==◌, if◌then◌else◌}
use Rattle.sx_fields.specs.declared.section.Section.{Section}
use Rattle.sx_sections.specs.declared.place.Place.{Place}
use Rattle.sx_sections.specs.declared.place.Place.TheVariants.{Function, List as ListPlace, Sums, Corrections}
use Rattle.sux_c.specs.declared.place.SuxPlace.{SuxPlace}

-- where a function or a packed list stands
abbrev pub section_in : SuxPlace → Section
section_in p = record { width = p.width; count = p.count; body = p.body; after = p.after }

-- the place of these numbers
abbrev pub place_of : SuxPlace → Place
place_of p =
    if p.what == 0 then Function (section_in p)
    else if p.what == 1 then ListPlace (section_in p)
    else if p.what == 2 then Sums (record { count = p.count; below = p.below; body = p.body; after = p.after })
    else Corrections (record { count = p.count; body = p.body; after = p.after })

-- The sections of a whole dump.
use Rattle.std.specs.Prelude.{◌≡◌, ℕ, ◌+◌, ◌<◌, ◌≤◌, ◌^◌, List, [], ◌∷◌, length, map, drop, Ok}
use Rattle.std.specs.List.{AllByRecursion}
use Rattle.sx_spec.specs.Layout.{Header, last_section, section_count, section_width, sections_in, slots}
use Rattle.sx_sections.specs.declared.place.Place.{Place}
use Rattle.sx_sections.specs.declared.rule.Slot.{Slot}
use Rattle.sx_sections.specs.Places.{Stands, front_size, place_after, place_body, section_at}
use Rattle.sx_sections.specs.Rules.{AreBounded, slot_as}

-- the places lie one after another from a word on, up to before another
abbrev pub AreInRow : ℕ → List Place → ℕ → Type 0
AreInRow at [] end = at ≡ end
AreInRow at (place ∷ places) end = (place_body place ≡ at + front_size place) × AreInRow (place_after place) places end

-- the sections in the words after the header stand at these places
pub record AreFound (h : Header) (words : List ℕ) (places : List Place) : Type 0 where
  pub sections : sections_in (slots h) [] (drop 10 words) ≡ Ok (map (section_at words) places)
  pub stand : AllByRecursion (Stands words) places
  pub row : AreInRow 10 places (length words)

-- the sections so far stand at these places, and the others, in these slots, follow from a word on; the last has this width and so many entries
pub record AreFoundSoFar (h : Header) (words : List ℕ) (places : List Place) (left : List Slot) (at width count : ℕ) : Type 0 where
  pub sections : sections_in (slots h) [] (drop 10 words) ≡ sections_in (map slot_as left) (map (section_at words) places) (drop at words)
  pub stand : AllByRecursion (Stands words) places
  pub row : AreInRow 10 places at
  pub within : at ≤ length words
  pub width_is : section_width (last_section (map (section_at words) places)) ≡ width
  pub count_is : section_count (last_section (map (section_at words) places)) ≡ count
  pub few : count < 2 ^ 32
  pub bounded : AreBounded width left

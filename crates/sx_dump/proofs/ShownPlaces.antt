-- What stands at the places of sections, and the lines of all of them.
use Rattle.std.proofs.Common.{◌≡◌, ℕ, ◌<◌, List, [], ◌∷◌, ◌++◌, length, map, drop, Some, refl, sym, ap, ◌∙◌, get_or, arith}
use Rattle.std.specs.Prelude.{flat_map, slice_get, zip}
use Rattle.std.proofs.lemmas.Option.{slice_get-get_or}
use Rattle.std.proofs.lemmas.Slice.Zip.{get_or-zip, length-zip}
use Rattle.sx_spec.specs.Layout.{Header, Slot, function_section, slots}
use Rattle.sx_spec.specs.Show.{section_text}
use Rattle.sx_spec.specs.StaticFunction.{Function}
use Rattle.sx_sig.specs.SignatureWords.{signatures_at}
use Rattle.sx_static.specs.Viewing.{viewed}
use Rattle.sx_ef.specs.declared.section.Sums.{Sums as SumsPlace}
use Rattle.sx_fields.specs.declared.section.Section.{Section as Packed}
use Rattle.sx_spec.specs.Fields.{fields}
use Rattle.sx_sections.specs.declared.name.SectionName.{SectionName}
use Rattle.sx_sections.specs.declared.place.CorrectionsPlace.{CorrectionsPlace}
use Rattle.sx_sections.specs.declared.place.Place.{Place}
use Rattle.sx_sections.specs.declared.place.Place.TheVariants.{Function as FunctionPlace, List as ListPlace, Sums, Corrections}
use Rattle.sx_sections.specs.declared.rule.Slot.{Slot as NamedSlot}
use Rattle.sx_sections.specs.Lines.{chunk_line, correction_line, entry_line, function_line, list_line, number_line, sums_line}
use Rattle.sx_sections.specs.Names.{name_text}
use Rattle.sx_sections.specs.Places.{Stands, section_at}
use Rattle.sx_sections.specs.Rules.{slot_as}
use Rattle.sx_dump.specs.Opening.{AllStand}
use Rattle.sx_dump.specs.Showing.{corrections_lines, function_lines, list_lines, place_lines, places_lines, sums_lines, sums_read}

-- ---- places

-- what is at one of them stands
pub place_stands : (words : List ℕ) (places : List Place) (i : ℕ) (p : Place) → AllStand words places → slice_get places i ≡ Some p → Stands words p
place_stands words places i (FunctionPlace s) all at = all.function i s at
place_stands words places i (ListPlace s) all at = all.list i s at
place_stands words places i (Sums s) all at = all.sums i s at
place_stands words places i (Corrections s) all at = all.corrections i s at

-- ---- lines

-- those of a function
pub function_is : (words : List ℕ) (name : SectionName) (place : Place) (s : Packed) (f : Function) → place ≡ FunctionPlace s → f ≡ viewed words s.body s.width s.count → function_lines name f ≡ place_lines words name place
unfolding function_lines place_lines function_line chunk_line entry_line
function_is words name place s f at is =
    ap (λ (g : Function). section_text (name_text name) (function_section g)) is ∙ ap (λ (p : Place). section_text (name_text name) (section_at words p)) (sym at)

-- those of a list
pub list_is : (words : List ℕ) (name : SectionName) (place : Place) (s : Packed) → place ≡ ListPlace s → list_lines name s.width (fields s.width s.count (drop s.body words)) ≡ place_lines words name place
unfolding list_lines place_lines list_line entry_line
list_is words name place s at = ap (λ (p : Place). section_text (name_text name) (section_at words p)) (sym at)

-- those of an Elias-Fano list
pub sums_is : (words : List ℕ) (name : SectionName) (place : Place) (s : SumsPlace) → place ≡ Sums s → sums_lines name (sums_read words s) ≡ place_lines words name place
unfolding sums_lines place_lines sums_line entry_line
sums_is words name place s at = ap (λ (p : Place). section_text (name_text name) (section_at words p)) (sym at)

-- those of signatures
pub corrections_is : (words : List ℕ) (name : SectionName) (place : Place) (s : CorrectionsPlace) → place ≡ Corrections s → corrections_lines name (signatures_at words s.body s.count) ≡ place_lines words name place
unfolding corrections_lines place_lines number_line correction_line
corrections_is words name place s at = ap (λ (p : Place). section_text (name_text name) (section_at words p)) (sym at)

-- slot by slot
zipped : (words : List ℕ) (named : List NamedSlot) (places : List Place)
    → flat_map (λ p. place_lines words p.0.name p.1) (zip named places) ≡ flat_map (λ p. section_text p.0.name p.1) (zip (map slot_as named) (map (section_at words) places))
unfolding place_lines
zipped words [] places = refl
zipped words (s ∷ named) [] = refl
zipped words (s ∷ named) (p ∷ places) = ap (λ l. section_text (name_text s.name) (section_at words p) ++ l) (zipped words named places)

-- in the slots of a header
pub places_are : (words : List ℕ) (h : Header) (named : List NamedSlot) (places : List Place) → map slot_as named ≡ slots h → flat_map (λ p. place_lines words p.0.name p.1) (zip named places) ≡ places_lines h words places
unfolding places_lines
places_are words h named places are =
    zipped words named places ∙ ap (λ (s : List Slot). flat_map (λ p. section_text p.0.name p.1) (zip s (map (section_at words) places))) are

-- ---- two lists side by side

-- an item of both
pub zip_item : {A B : Type 0} (ks : List A) (vs : List B) (n : ℕ) (x : A) (y : B) → n < length ks → n < length vs → x ≡ get_or ks n x → y ≡ get_or vs n y → slice_get (zip ks vs) n ≡ Some (x, y)
zip_item {A} {B} ks vs n x y first second here there =
    let long = length-zip ks vs in
    slice_get-get_or (zip ks vs) n (x, y) (omega (arith, long))
    ∙ ap (λ (p : A × B). Some p) (get_or-zip ks vs n (x, y) first second)
    ∙ (λ i. Some (sym here i, sym there i))

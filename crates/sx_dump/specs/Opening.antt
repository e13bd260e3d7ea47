-- What the words of a file are as a dump.
use Rattle.std.specs.Prelude.{◌≡◌, ℕ, ◌+◌, ◌≤◌, true, List, [], length, map, drop, slice_get, Some, Result, Ok, Err}
use Rattle.std.specs.Result.{result_unwrap_or}
use Rattle.sx_ef.specs.declared.section.Sums.{Sums as SumsPlace}
use Rattle.sx_fields.specs.declared.section.Section.{Section as Packed}
use Rattle.sx_spec.specs.Layout.{Dump, Section, header_of, layout, sections_in, slots}
use Rattle.sx_spec.specs.Reply.{numbers_of, section_at as section_of_dump, signatures_in}
use Rattle.sx_spec_program.specs.Offer.{opened_by}
use Rattle.sx_spec_program.specs.Program.{sux_offer}
use Rattle.sx_static.specs.Viewing.{IsViewed}
use Rattle.sx_sections.specs.declared.header.Header.{Header}
use Rattle.sx_sections.specs.declared.place.CorrectionsPlace.{CorrectionsPlace}
use Rattle.sx_sections.specs.declared.place.Place.{Place}
use Rattle.sx_sections.specs.declared.place.Place.TheVariants.{Function, List as ListPlace, Sums, Corrections}
use Rattle.sx_sections.specs.Headers.{IsBounded, header_as}
use Rattle.sx_sections.specs.Offers.{is_offered}
use Rattle.sx_sections.specs.Openings.{opened_words_by}
use Rattle.sx_sections.specs.Places.{IsCorrected, IsListed, IsSummed, section_at}
use Rattle.sx_dump.specs.declared.open.OpenFault.{OpenFault}
use Rattle.sx_dump.specs.declared.open.OpenFault.TheVariants.{Malformed, Memory}

-- the sections behind the header of words, in the slots of its kind, or the number of the first check that fails
unfoldable pub sections_read : List ℕ → Result (List Section) ℕ
sections_read words = sections_in (slots (header_of words)) [] (drop 10 words)

-- the dump that words are: their header, and the sections behind it, none where a check of them fails
abbrev pub dump_in : List ℕ → Dump
dump_in words = record { header = header_of words; sections = result_unwrap_or (sections_read words) [] }

-- why a file with these words isn't opened: its first check that fails, or want of memory after every check
abbrev pub IsFault : List ℕ → List ℕ → OpenFault → Type 0
IsFault words file (Malformed check) = opened_by sux_offer file ≡ Err check
IsFault words file Memory = opened_by sux_offer file ≡ Ok (dump_in words)

-- ---- by words alone

-- the dump that a file of so many bytes with these words is, or the number of the first check that fails
abbrev pub opened_words : List ℕ → ℕ → Result Dump ℕ
opened_words words bytes = opened_words_by sux_offer words bytes

-- why words of so many bytes aren't opened: the first check that fails, or want of memory after every check.
-- Where the bytes don't fill the last word, whatever stands in the rest of it changes nothing
abbrev pub IsRefused : List ℕ → ℕ → OpenFault → Type 0
IsRefused words bytes (Malformed check) = opened_words words bytes ≡ Err check
IsRefused words bytes Memory = opened_words words bytes ≡ Ok (dump_in words)

-- ---- what was opened

-- a section stands whole in the words at each of the places, by what it is
pub record AllStand (words : List ℕ) (places : List Place) : Type 0 where
  pub function : (i : ℕ) (s : Packed) → slice_get places i ≡ Some (Function s) → IsViewed words s.body s.width s.count
  pub list : (i : ℕ) (s : Packed) → slice_get places i ≡ Some (ListPlace s) → IsListed words s
  pub sums : (i : ℕ) (s : _) → slice_get places i ≡ Some (Sums s) → IsSummed words s
  pub corrections : (i : ℕ) (s : CorrectionsPlace) → slice_get places i ≡ Some (Corrections s) → IsCorrected words s

-- the header, and the places of the sections, of a dump in words that passed every check, and is offered
pub record IsOpened (words : List ℕ) (h : Header) (places : List Place) : Type 0 where
  pub header : header_of words ≡ header_as h
  pub bounded : IsBounded (header_as h)
  pub kind : is_offered sux_offer.kinds h.plan.kind ≡ true
  pub signed : h.plan.signed ≤ sux_offer.signed
  pub sections : sections_read words ≡ Ok (map (section_at words) places)
  pub stand : AllStand words places
  pub laid : layout (dump_in words) ≡ words

-- place i is that of a function
pub record IsFunctionAt (places : List Place) (i : ℕ) : Type 0 where
  pub section : Packed
  pub there : slice_get places i ≡ Some (Function section)

-- place i is that of a packed list
pub record IsListAt (places : List Place) (i : ℕ) : Type 0 where
  pub section : Packed
  pub there : slice_get places i ≡ Some (ListPlace section)

-- place i is that of signatures
pub record IsCorrectionsAt (places : List Place) (i : ℕ) : Type 0 where
  pub section : CorrectionsPlace
  pub there : slice_get places i ≡ Some (Corrections section)

-- section i of the dump in the words has as many signatures as the one behind it has numbers
abbrev pub AreBeside : List ℕ → ℕ → Type 0
AreBeside words i = length (numbers_of (dump_in words) (i + 1)) ≡ length (signatures_in (section_of_dump (dump_in words) i))

-- place i is that of an Elias-Fano list
pub record IsSumsAt (places : List Place) (i : ℕ) : Type 0 where
  pub section : SumsPlace
  pub there : slice_get places i ≡ Some (Sums section)

-- Where sections stand in words, and what stands there.
use Rattle.std.specs.Prelude.{◌≡◌, ℕ, ◌+◌, ◌*◌, ◌<◌, ◌≤◌, ◌^◌, true, List, length, drop, Some, None, Result, Ok, Err}
use Rattle.sx_spec_strings.specs.First.{first_failing}
use Rattle.sx_spec.specs.Fields.{fields, words_for}
use Rattle.sx_spec.specs.Layout.{Section, SectionRule, function_section, list_section, sums_section, corrections_section, section_checks, section_of, section_size}
use Rattle.sx_fields.specs.declared.section.Section.{Section as Packed}
use Rattle.sx_ef.specs.declared.section.Sums.{Sums as SumsPlace}
use Rattle.sx_ef.specs.Parts.{is_sums_list, low_size, numbers_in, upper_size}
use Rattle.sx_sig.specs.SignatureWords.{signatures_at, rises}
use Rattle.sx_static.specs.Viewing.{IsViewed, viewed}
use Rattle.sx_sections.specs.declared.place.CorrectionsPlace.{CorrectionsPlace}
use Rattle.sx_sections.specs.declared.place.Place.{Place}
use Rattle.sx_sections.specs.declared.place.Place.TheVariants.{Function, List as ListPlace, Sums, Corrections}
use Rattle.sx_sections.specs.declared.number.Check.{Check}
use Rattle.sx_sections.specs.Checks.{check_number}

-- ---- what stands at a place

-- the section
abbrev pub section_at : List ℕ → Place → Section
section_at words (Function s) = function_section (viewed words s.body s.width s.count)
section_at words (ListPlace s) = list_section s.width (fields s.width s.count (drop s.body words))
section_at words (Sums s) = sums_section (numbers_in s.count s.below (drop s.body words))
section_at words (Corrections s) = corrections_section (signatures_at words s.body s.count)

-- the first word after it
abbrev pub place_after : Place → ℕ
place_after (Function s) = s.after
place_after (ListPlace s) = s.after
place_after (Sums s) = s.after
place_after (Corrections s) = s.after

-- its first word after those that say how many entries it has and how wide they are
abbrev pub place_body : Place → ℕ
place_body (Function s) = s.body
place_body (ListPlace s) = s.body
place_body (Sums s) = s.body
place_body (Corrections s) = s.body

-- how many words say so
abbrev pub front_size : Place → ℕ
front_size (Function s) = 2
front_size (ListPlace s) = 2
front_size (Sums s) = 2
front_size (Corrections s) = 1

-- how many entries it has
abbrev pub place_count : Place → ℕ
place_count (Function s) = s.count
place_count (ListPlace s) = s.count
place_count (Sums s) = s.count
place_count (Corrections s) = s.count

-- how wide they are
abbrev pub place_width : Place → ℕ
place_width (Function s) = s.width
place_width (ListPlace s) = s.width
place_width (Sums s) = 64
place_width (Corrections s) = 64

-- a list of so many numbers of that width stands in the words
pub record IsListed (words : List ℕ) (s : Packed) : Type 0 where
  pub narrow : s.width ≤ 64
  pub few : s.count < 2 ^ 32
  pub size : s.body + words_for (s.count * s.width) ≡ s.after
  pub within : s.after ≤ length words

-- an Elias-Fano list of so many numbers below that one stands in the words
pub record IsSummed (words : List ℕ) (s : SumsPlace) : Type 0 where
  pub some : 0 < s.count
  pub few : s.count < 2 ^ 32
  pub above : 0 < s.below
  pub size : s.body + low_size s.count s.below + upper_size s.count s.below ≡ s.after
  pub within : s.after ≤ length words
  pub valid : is_sums_list s.count s.below (drop s.body words) ≡ true

-- so many signatures, which rise, stand in the words
pub record IsCorrected (words : List ℕ) (s : CorrectionsPlace) : Type 0 where
  pub few : s.count < 2 ^ 32
  pub size : s.body + 3 * s.count ≡ s.after
  pub within : s.after ≤ length words
  pub rising : rises (signatures_at words s.body s.count) ≡ true

-- a section stands whole at the place
abbrev pub Stands : List ℕ → Place → Type 0
Stands words (Function s) = IsViewed words s.body s.width s.count
Stands words (ListPlace s) = IsListed words s
Stands words (Sums s) = IsSummed words s
Stands words (Corrections s) = IsCorrected words s

-- ---- checks

-- the words from a place on begin with a section by the rule, which stands there
pub record IsFound (rule : SectionRule) (words : List ℕ) (at : ℕ) (place : Place) : Type 0 where
  pub passes : first_failing (section_checks rule (drop at words)) ≡ None
  pub section : section_of rule (drop at words) ≡ section_at words place
  pub begins : place_body place ≡ at + front_size place
  pub after : place_after place ≡ at + section_size rule (drop at words)
  pub within : place_after place ≤ length words
  pub stands : Stands words place

-- the section at the front of the words from a place on, or the first check that fails
abbrev pub IsChecked : SectionRule → List ℕ → ℕ → Result Place Check → Type 0
IsChecked rule words at (Ok place) = IsFound rule words at place
IsChecked rule words at (Err check) = first_failing (section_checks rule (drop at words)) ≡ Some (check_number check)

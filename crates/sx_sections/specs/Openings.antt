-- The dump that a file is, by its words and its size.
use Rattle.std.specs.Prelude.{◌≡◌, ℕ, List, [], length, map, drop, Some, None, Result, Ok, Err}
use Rattle.sx_spec_strings.specs.First.{first_failing}
use Rattle.sx_spec.specs.Layout.{Dump, bytes_words, dump_with, header_of, sections_in, slots}
use Rattle.sx_spec_program.specs.Offer.{Offer}
use Rattle.sx_sections.specs.declared.number.Check.{Check}
use Rattle.sx_sections.specs.declared.open.Opened.{Opened}
use Rattle.sx_sections.specs.Checks.{check_number}
use Rattle.sx_sections.specs.Headers.{file_checks, header_as}
use Rattle.sx_sections.specs.Offers.{offered_checks}
use Rattle.sx_sections.specs.Places.{section_at}

-- the file has so many bytes, and these are its words
pub record IsFile (words : List ℕ) (bytes : ℕ) (file : List ℕ) : Type 0 where
  pub held : bytes_words file ≡ words
  pub size : length file ≡ bytes

-- ---- by words alone

-- the dump that words are whose header passed, or the number of the first check of their sections that fails
abbrev pub sections_found : List ℕ → Result Dump ℕ
sections_found words = dump_with (header_of words) (sections_in (slots (header_of words)) [] (drop 10 words))

-- the dump that a file of so many bytes with these words is, or the number of the first check that fails
abbrev pub opened_words : List ℕ → ℕ → Result Dump ℕ
opened_words words bytes = elim (first_failing (file_checks words bytes)) [
  | Some check ↦ Err check
  | None ↦ sections_found words
]

-- the same for a program that offers so much
abbrev pub opened_words_by : Offer → List ℕ → ℕ → Result Dump ℕ
opened_words_by offer words bytes = elim (first_failing (offered_checks offer words bytes)) [
  | Some check ↦ Err check
  | None ↦ opened_words words bytes
]

-- ---- what the code finds

-- the dump in the words whose header and sections were found
abbrev pub dump_in : List ℕ → Opened → Dump
dump_in words o = record { header = header_as o.header; sections = map (section_at words) o.places.items }

-- the same, or the number of the check that fails
abbrev pub dump_as : List ℕ → Result Opened Check → Result Dump ℕ
dump_as words (Ok o) = Ok (dump_in words o)
dump_as words (Err check) = Err (check_number check)

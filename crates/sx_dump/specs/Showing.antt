-- Text that is written as it is made, and its lines.
use Rattle.std.specs.Prelude.{◌≡◌, ℕ, List, ◌++◌, Option, codes, drop, flat_map, length, map, zip}
use Rattle.std.specs.Io.KnownBytes.{Appends}
use Rattle.std.specs.List.{enumerate_from}
use Rattle.sx_ef.specs.declared.section.Sums.{Sums as SumsPlace}
use Rattle.sx_ef.specs.Parts.{numbers_in}
use Rattle.sx_spec.specs.Fields.{below_of}
use Rattle.sx_spec.specs.declared.Signature.{Signature}
use Rattle.sx_spec.specs.Layout.{Header, slots}
use Rattle.sx_spec.specs.Show.{dump_text, section_text}
use Rattle.sx_spec.specs.StaticFunction.{Chunk, Function}
use Rattle.sx_sections.specs.declared.name.SectionName.{SectionName}
use Rattle.sx_sections.specs.declared.place.Place.{Place}
use Rattle.sx_sections.specs.Lines.{chunk_line, correction_line, entry_line, function_line, list_line, number_line, sums_line}
use Rattle.sx_sections.specs.Names.{name_text}
use Rattle.sx_sections.specs.Places.{section_at}
use Rattle.sx_dump.specs.Opening.{dump_in}

-- the front of a text was written, and the rest is held
pub record IsShown (old new : Option (List ℕ)) (text held : List ℕ) : Type 0 where
  pub part : List ℕ
  pub split : text ≡ part ++ held
  pub written : Appends old new part

-- ---- the lines of a section

-- the lines of all chunks
abbrev pub chunk_lines : List Chunk → List ℕ
chunk_lines chunks = flat_map (λ p. chunk_line p.0 p.1) (enumerate_from 0 chunks)

-- the lines of all numbers, under a word
abbrev pub number_lines : List ℕ → List ℕ → List ℕ
number_lines word items = flat_map (λ p. entry_line word p.0 p.1) (enumerate_from 0 items)

-- the lines of a function of this name: its own, those of the chunks and those of the cells
unfoldable pub function_lines : SectionName → Function → List ℕ
function_lines name f =
    (function_line (name_text name) f.width f.pairs (length f.chunks) (length f.cells) ++ chunk_lines f.chunks) ++ number_lines (codes "cell") f.cells

-- the lines of a list of this name: its own, and those of the numbers
unfoldable pub list_lines : SectionName → ℕ → List ℕ → List ℕ
list_lines name width items = list_line (name_text name) (length items) width ++ number_lines (codes "item") items

-- the numbers of an Elias-Fano list that stands in the words
abbrev pub sums_read : List ℕ → SumsPlace → List ℕ
sums_read words s = numbers_in s.count s.below (drop s.body words)

-- the lines of an Elias-Fano list of this name: its own, and those of the numbers
unfoldable pub sums_lines : SectionName → List ℕ → List ℕ
sums_lines name items = sums_line (name_text name) (length items) (below_of items) ++ number_lines (codes "item") items

-- the lines of all signatures
abbrev pub signature_lines : List Signature → List ℕ
signature_lines sigs = flat_map (λ p. correction_line p.0 p.1) (enumerate_from 0 sigs)

-- the lines of signatures of this name: its own, and those of the signatures
unfoldable pub corrections_lines : SectionName → List Signature → List ℕ
corrections_lines name sigs = number_line (name_text name) (length sigs) ++ signature_lines sigs

-- the lines of the section of this name at a place in the words
unfoldable pub place_lines : List ℕ → SectionName → Place → List ℕ
place_lines words name place = section_text (name_text name) (section_at words place)

-- ---- the lines of all sections

-- the lines of the sections at these places in the words, in the slots of a header
unfoldable pub places_lines : Header → List ℕ → List Place → List ℕ
places_lines h words places = flat_map (λ p. section_text p.0.name p.1) (zip (slots h) (map (section_at words) places))

-- the text of the dump in words
unfoldable pub text_in : List ℕ → List ℕ
text_in words = dump_text (dump_in words)

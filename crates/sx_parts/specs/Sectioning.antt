-- Sections as they are built, their words, and the parts that they are built from.
use Rattle.std.proofs.Common.{Global}
use Rattle.std.specs.Prelude.{◌≡◌, ◌≢◌, ℕ, ◌+◌, ◌*◌, ◌<◌, ◌≤◌, ◌^◌, List, [], ◌∷◌, ◌++◌, length, map, flat_map, ⊤, Result, Ok, Err, Vec}
use Rattle.std.specs.List.{AllByRecursion, AllZip}
use Rattle.sx_spec_strings.specs.Bits.{key_bits}
use Rattle.sx_spec_kinds.specs.declared.Kind.{Kind}
use Rattle.sx_spec_kinds.specs.Blocks.{block_size}
use Rattle.sx_spec.specs.declared.Method.{Method}
use Rattle.sx_spec.specs.declared.Plan.{Plan}
use Rattle.sx_spec.specs.Built.{built_sections, kind_sections}
use Rattle.sx_spec.specs.Fields.{below_of, low_words, packed, upper_words}
use Rattle.sx_spec.specs.Layout.{Header, Section, function_section, list_section, sums_section, corrections_section, layout, signature_words, table_words, u32_max}
use Rattle.sx_spec.specs.declared.Signature.{Signature}
use Rattle.sx_spec.specs.Reply.{top_bits}
use Rattle.sx_spec.specs.Signature.{signature}
use Rattle.sx_spec.specs.StaticFunction.{Entry, Part, part_entries, cell_count, IsCause, IsSeedFailure}
use Rattle.sx_static.specs.declared.FuncBuf.{FuncBuf}
use Rattle.sx_static.specs.Answer.{function_of, IsDone}
use Rattle.sx_ef.specs.declared.encode.EfBuf.{EfBuf}
use Rattle.sx_ef.specs.Parts.{numbers_in}
use Rattle.sx_bits.specs.declared.pieces.Piece.{Piece}
use Rattle.sx_bits.specs.Pieces.{piece_string}
use Rattle.sx_parts.specs.declared.Assembled.{Assembled}
use Rattle.sx_parts.specs.declared.Assembled.TheVariants.{Words, SeedFailed}
use Rattle.sx_parts.specs.declared.PartFault.{PartFault}
use Rattle.sx_parts.specs.declared.layout.SectionBuf.{SectionBuf}
use Rattle.sx_parts.specs.declared.layout.SectionBuf.TheVariants.{Function, Numbers, Sums, Corrections}
use Rattle.sx_parts.specs.declared.parts.Stop.{Stop}
use Rattle.sx_parts.specs.declared.parts.Stop.TheVariants.{Memory, Part as PartStop}
use Rattle.sx_parts.specs.Assembling.{cause_of, failure_of, tries, HasWitnessesOf}

-- ---- sections

-- the numbers of an Elias-Fano list
abbrev pub sums_in : EfBuf → List ℕ
sums_in e = numbers_in e.count e.below (e.low.items ++ e.upper.items)

-- the section that is built
abbrev pub section_built : SectionBuf → Section
section_built (Function f) = function_section (function_of f)
section_built (Numbers n) = list_section n.width n.items
section_built (Sums e) = sums_section (sums_in e)
section_built (Corrections sigs) = corrections_section sigs.items

-- its words as they are held
abbrev pub held_words : SectionBuf → List ℕ
held_words (Function f) = f.width ∷ f.pairs ∷ f.table.items ++ packed f.cells.width f.cells.items
held_words (Numbers n) = length n.items ∷ n.width ∷ packed n.width n.items
held_words (Sums e) = e.count ∷ e.below ∷ e.low.items ++ e.upper.items
held_words (Corrections sigs) = length sigs.items ∷ flat_map signature_words sigs.items

-- the words of an Elias-Fano list are those of its numbers
pub record IsEncoded (e : EfBuf) (numbers : List ℕ) : Type 0 where
  pub count : e.count ≡ length numbers
  pub below : e.below ≡ below_of numbers
  pub low : e.low.items ≡ low_words numbers
  pub upper : e.upper.items ≡ upper_words numbers

-- the table of a function is that of its chunks, and its cells have its width; the words of sums are those of its numbers
abbrev pub IsWhole : SectionBuf → Type 0
IsWhole (Function f) = (f.table.items ≡ table_words 0 (function_of f).chunks) × (f.cells.width ≡ f.width)
IsWhole (Numbers n) = ⊤
IsWhole (Sums e) = IsEncoded e (sums_in e)
IsWhole (Corrections sigs) = ⊤

-- sections that make a dump
pub record AreLaidOut (sections : List SectionBuf) : Type 0 where
  pub whole : AllByRecursion IsWhole sections
  pub few : length (flat_map held_words sections) + 10 < 2 ^ 27

-- ---- parts

-- the function is that of the part
abbrev pub IsPartDone : Plan → ℕ → Part → FuncBuf → Type 0
IsPartDone plan seed part f = IsDone plan.method tries part.width (part_entries plan.sig_bits seed part) f

-- no function can be built of the entries of this part
pub record IsPartFault (number : ℕ) (method : Method) (entries : List Entry) (fault : PartFault) : Type 0 where
  pub part : fault.part ≡ number
  pub cause : IsCause method tries entries (cause_of fault.cause)
  pub kinds : HasWitnessesOf method fault.cause

-- why the part of this number has no function
abbrev pub StopsPart : ℕ → Method → List Entry → Stop → Type 0
StopsPart number method entries Memory = ⊤
StopsPart number method entries (PartStop fault) = IsPartFault number method entries fault

-- the parts, or memory, give out so
abbrev pub StopsParts : Plan → ℕ → List Part → Stop → Type 0
StopsParts plan seed parts Memory = ⊤
StopsParts plan seed parts (PartStop fault) =
    IsSeedFailure plan.method tries plan.sig_bits parts seed (failure_of fault) × HasWitnessesOf plan.method fault.cause

-- ---- all sections of a dump

-- the header of a dump of these lines
abbrev pub header_for : Plan → List (List ℕ) → ℕ → Header
header_for plan lines seed = record { plan = plan; keys = length lines; seed = seed }

-- the sections are those of a dump of the lines, with a function for each part
pub record AreSectionsOf (plan : Plan) (lines : List (List ℕ)) (seed : ℕ) (parts : List Part) (sections : List SectionBuf) : Type 0 where
  pub functions : List FuncBuf
  pub done : AllZip (IsPartDone plan seed) parts functions
  pub built : map section_built sections ≡ built_sections (header_for plan lines seed) (map function_of functions) (map key_bits lines)
  pub laid : AreLaidOut sections
  pub cells : AllByRecursion (λ f. cell_count f.chunks ≤ u32_max) (map function_of functions)

-- the sections are those of the kind alone, with a function for each part, and leave room for a list
pub record AreKindSections (kind : Kind) (plan : Plan) (lines : List (List ℕ)) (seed : ℕ) (parts : List Part) (sections : List SectionBuf) : Type 0 where
  pub functions : List FuncBuf
  pub done : AllZip (IsPartDone plan seed) parts functions
  pub built : map section_built sections ≡ kind_sections kind (header_for plan lines seed) (block_size plan.log_bucket) (map function_of functions) (map key_bits lines)
  pub whole : AllByRecursion IsWhole sections
  pub few : length (flat_map held_words sections) ≤ 5 * (2 ^ 24 + 2)
  pub cells : AllByRecursion (λ f. cell_count f.chunks ≤ u32_max) (map function_of functions)

-- behind the sections stands a list of the highest bits of the signatures, but where the width is 0
pub record AreSigned (width : ℕ) (sigs : List Signature) (before after : List SectionBuf) : Type 0 where
  pub unsigned : width ≡ 0 → after ≡ before
  pub signed : width ≢ 0 → after ≡ before ++ Numbers (record { width = width; items = map (top_bits width) sigs }) ∷ []

-- the words are those of a dump of the sections, or what fails is what kept the sections from being built
abbrev pub IsFinished : Header → Result (Vec SectionBuf Global) Stop → Assembled → Type 0
IsFinished h (Ok sections) (Words words) = words.items ≡ layout (record { header = h; sections = map section_built sections.items })
IsFinished h (Ok sections) (SeedFailed fault) = ⊥
IsFinished h (Err Memory) assembled = ⊥
IsFinished h (Err (PartStop why)) (Words words) = ⊥
IsFinished h (Err (PartStop why)) (SeedFailed fault) = fault ≡ why

-- ---- signatures

-- the signature of a piece
abbrev pub piece_signature : (seed sig_bits : ℕ) → List (List ℕ) → Piece → Signature
piece_signature seed sig_bits lines piece = signature seed sig_bits (piece_string lines piece)

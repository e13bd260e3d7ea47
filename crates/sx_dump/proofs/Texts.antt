-- A dump's text put together from its lines.
use Rattle.std.proofs.Common.{◌≡◌, ℕ, List, [], ◌++◌, codes, length, map, refl, sym, ap, ◌∙◌, append_assoc}
use Rattle.std.specs.Prelude.{flat_map, zip}
use Rattle.std.specs.Result.{result_unwrap_or}
use Rattle.sx_spec.specs.declared.Signature.{Signature}
use Rattle.sx_spec.specs.Fields.{below_of}
use Rattle.sx_spec.specs.Layout.{slots}
use Rattle.sx_spec.specs.Show.{dump_text, section_text}
use Rattle.sx_spec.specs.StaticFunction.{Function}
use Rattle.sx_sections.specs.declared.header.Header.{Header as HeaderBy}
use Rattle.sx_sections.specs.declared.name.SectionName.{SectionName}
use Rattle.sx_sections.specs.declared.place.Place.{Place}
use Rattle.sx_sections.specs.Headers.{header_as}
use Rattle.sx_sections.specs.Lines.{function_line, header_lines, list_line, number_line, sums_line}
use Rattle.sx_sections.specs.Names.{name_text}
use Rattle.sx_sections.specs.Places.{section_at}
use Rattle.sx_dump.specs.Opening.{IsOpened, dump_in}
use Rattle.sx_dump.specs.Showing.{chunk_lines, corrections_lines, function_lines, list_lines, number_lines, places_lines, signature_lines, sums_lines, text_in}

-- the lines of a function behind others, one part after another
pub function_behind : (old line : List ℕ) (name : SectionName) (f : Function) (items : List ℕ) (pairs chunks cells : ℕ) → line ≡ function_line (name_text name) f.width pairs chunks cells
    → pairs ≡ f.pairs → chunks ≡ length f.chunks → cells ≡ length items → items ≡ f.cells → old ++ function_lines name f ≡ ((old ++ line) ++ chunk_lines f.chunks) ++ number_lines (codes "cell") items
unfolding function_lines
function_behind old line name f items pairs chunks cells line_is pairs_are count many are =
    let n = function_line (name_text name) f.width f.pairs (length f.chunks) (length f.cells) in
    let same : line ≡ n = line_is ∙ (λ i. function_line (name_text name) f.width (pairs_are i) (count i) ((many ∙ ap (λ (l : List ℕ). length l) are) i)) in
    regroup old n (chunk_lines f.chunks) (number_lines (codes "cell") f.cells)
    ∙ (λ i. ((old ++ sym same i) ++ chunk_lines f.chunks) ++ number_lines (codes "cell") (sym are i))
  where
    regroup : (a b c d : List ℕ) → a ++ ((b ++ c) ++ d) ≡ ((a ++ b) ++ c) ++ d
    regroup a b c d = simp append_assoc

-- the same of a list
pub list_behind : (old line : List ℕ) (name : SectionName) (width count : ℕ) (items numbers : List ℕ) → line ≡ list_line (name_text name) count width → count ≡ length items → numbers ≡ items
    → old ++ list_lines name width items ≡ (old ++ line) ++ number_lines (codes "item") numbers
unfolding list_lines
list_behind old line name width count items numbers line_is many are =
    let n = list_line (name_text name) (length items) width in
    let same : line ≡ n = line_is ∙ (λ i. list_line (name_text name) (many i) width) in
    sym (append_assoc old n (number_lines (codes "item") items)) ∙ (λ i. (old ++ sym same i) ++ number_lines (codes "item") (sym are i))

-- the same of an Elias-Fano list
pub sums_behind : (old line : List ℕ) (name : SectionName) (count below : ℕ) (items : List ℕ) → line ≡ sums_line (name_text name) count below → count ≡ length items → below ≡ below_of items
    → old ++ sums_lines name items ≡ (old ++ line) ++ number_lines (codes "item") items
unfolding sums_lines
sums_behind old line name count below items line_is many end =
    let n = sums_line (name_text name) (length items) (below_of items) in
    let same : line ≡ n = line_is ∙ (λ i. sums_line (name_text name) (many i) (end i)) in
    sym (append_assoc old n (number_lines (codes "item") items)) ∙ (λ i. (old ++ sym same i) ++ number_lines (codes "item") items)

-- the same of signatures
pub corrections_behind : (old line : List ℕ) (name : SectionName) (count : ℕ) (sigs : List Signature) → line ≡ number_line (name_text name) count → count ≡ length sigs
    → old ++ corrections_lines name sigs ≡ (old ++ line) ++ signature_lines sigs
unfolding corrections_lines
corrections_behind old line name count sigs line_is many =
    let n = number_line (name_text name) (length sigs) in
    let same : line ≡ n = line_is ∙ ap (number_line (name_text name)) many in
    sym (append_assoc old n (signature_lines sigs)) ∙ (λ i. (old ++ sym same i) ++ signature_lines sigs)

-- the text is the lines of the header, on an empty page, and those of the sections at the places
pub text_is : (words old page : List ℕ) (h : HeaderBy) (places : List Place) → IsOpened words h places → old ≡ [] → page ≡ old ++ header_lines (header_as h) → text_in words ≡ page ++ places_lines (header_as h) words places
unfolding text_in places_lines header_lines
text_is words old page h places is none page_is =
    let lines : List ℕ = flat_map (λ p. section_text p.0.name p.1) (zip (slots (header_as h)) (map (section_at words) places)) in
    (λ i. dump_text (record { header = is.header i; sections = result_unwrap_or (is.sections i) [] }))
    ∙ (λ i. (sym none i ++ header_lines (header_as h)) ++ lines)
    ∙ (λ i. sym page_is i ++ lines)

-- that text is the dump's
pub text_in_is : (words : List ℕ) → text_in words ≡ dump_text (dump_in words)
unfolding text_in
text_in_is words = refl

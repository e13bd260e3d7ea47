-- The words of sections as they are held are those of the sections.
use Rattle.std.proofs.Common.{◌≡◌, ℕ, suc, ◌+◌, ◌-◌, ◌*◌, ◌^◌, ◌<◌, ◌≤◌, List, [], ◌∷◌, ◌++◌, length, map, take, get_or, set, replicate, append_assoc, refl, sym, ap, ◌∙◌, arith}
use Rattle.std.specs.Prelude.{flat_map}
use Rattle.std.specs.List.{AllByRecursion}
use Rattle.std.proofs.lemmas.Grind.{flat_map-append}
use Rattle.std.proofs.lemmas.List.{append-nil, length-append, set_at, take_more}
use Rattle.sx_spec.specs.Fields.{packed, words_for}
use Rattle.sx_spec.specs.declared.Signature.{Signature}
use Rattle.sx_spec.specs.Layout.{Header, header_words, layout, magic, section_words, signature_words}
use Rattle.sx_spec.proofs.Digits.{packed_fields_are_read_back}
use Rattle.sx_fields.specs.Numbers.{Numbers as NumberList}
use Rattle.sx_parts.specs.declared.layout.SectionBuf.{SectionBuf}
use Rattle.sx_parts.specs.declared.layout.SectionBuf.TheVariants.{Function, Numbers, Sums, Corrections}
use Rattle.sx_parts.specs.Sectioning.{IsWhole, held_words, section_built}
use Rattle.sx_parts.proofs.Cells.{words_le}

-- ---- one section more

-- the words of the sections so far, and of the next
pub words_more : (sections : List SectionBuf) (i : ℕ) (d : SectionBuf) → i < length sections → flat_map held_words (take (i + 1) sections) ≡ flat_map held_words (take i sections) ++ held_words (get_or sections i d)
words_more sections i d within =
    ap (flat_map held_words) (take_more sections i d within)
    ∙ flat_map-append held_words (take i sections) (get_or sections i d ∷ [])
    ∙ ap (λ (ws : List ℕ). flat_map held_words (take i sections) ++ ws) (append-nil (held_words (get_or sections i d)))

pub size_more : (sections : List SectionBuf) (i : ℕ) (d : SectionBuf) → i < length sections → length (flat_map held_words (take (i + 1) sections)) ≡ length (flat_map held_words (take i sections)) + length (held_words (get_or sections i d))
size_more sections i d within = ap (λ (ws : List ℕ). length ws) (words_more sections i d within) ∙ length-append (flat_map held_words (take i sections)) (held_words (get_or sections i d))

-- ---- all words

-- a section's words are those that it is to have
pub section_laid : (s : SectionBuf) → IsWhole s → held_words s ≡ section_words (section_built s)
section_laid (Function f) whole = λ i. f.width ∷ f.pairs ∷ whole.0 i ++ packed (whole.1 i) f.cells.items
section_laid (Numbers n) whole = refl
section_laid (Sums e) whole = λ i. whole.count i ∷ whole.below i ∷ whole.low i ++ whole.upper i
section_laid (Corrections sigs) whole = refl

pub sections_laid : (sections : List SectionBuf) → AllByRecursion IsWhole sections → flat_map held_words sections ≡ flat_map section_words (map section_built sections)
sections_laid [] whole = refl
sections_laid (s ∷ sections) whole = λ i. section_laid s whole.0 i ++ sections_laid sections whole.1 i

-- the front and the words of the sections are the words of the dump
pub laid_out : (h : Header) (sections : List SectionBuf) (count : ℕ) (words : List ℕ) → AllByRecursion IsWhole sections → count ≡ length (flat_map held_words sections) + 10
    → words ≡ (magic ∷ count ∷ header_words h) ++ flat_map held_words sections → words ≡ layout (record { header = h; sections = map section_built sections })
laid_out h sections count words whole counted are =
    let laid = sections_laid sections whole in
    let body = header_words h ++ flat_map section_words (map section_built sections) in
    let long : length body ≡ length (header_words h) + length (flat_map section_words (map section_built sections)) = length-append (header_words h) (flat_map section_words (map section_built sections)) in
    let same = ap (λ (ws : List ℕ). length ws) laid in
    let size : count ≡ length body + 2 = omega arith in
    are ∙ (λ i. (magic ∷ size i ∷ header_words h) ++ laid i)

-- a list has no more words than numbers, and two
pub list_few : (n : NumberList) → n.width ≤ 64 → length (held_words (Numbers n)) ≤ length n.items + 2
list_few n narrow =
    let a : length (packed n.width n.items) ≡ words_for (length n.items * n.width) = packed_fields_are_read_back.words n.width n.items in
    let b = words_le (length n.items) n.width narrow in
    omega arith

-- sections of few words each have few words together
pub few_words : (sections : List SectionBuf) → AllByRecursion (λ s. length (held_words s) ≤ 2 ^ 24 + 2) sections → length (flat_map held_words sections) ≤ length sections * (2 ^ 24 + 2)
few_words [] few = omega arith
few_words (s ∷ sections) few =
    let rest = few_words sections few.1 in
    let here = few.0 in
    let both = length-append (held_words s) (flat_map held_words sections) in
    omega arith

-- ---- signatures

-- three words for each
pub signatures_size : (sigs : List Signature) → length (flat_map signature_words sigs) ≡ 3 * length sigs
signatures_size [] = refl
signatures_size (sig ∷ sigs) = let rest = signatures_size sigs in omega arith

-- ---- packed lists

-- the next of zeros is set
pub zero_set : (xs : List ℕ) (y n i : ℕ) → length xs ≡ i → i < n → set (xs ++ replicate (n - i) 0) i y ≡ (xs ++ y ∷ []) ++ replicate (n - (i + 1)) 0
zero_set xs y n i size within =
    let e : n - i ≡ suc (n - (i + 1)) = omega arith in
    ap (λ m. set (xs ++ replicate m 0) i y) e
    ∙ set_at xs 0 (replicate (n - (i + 1)) 0) y i size
    ∙ sym (append_assoc xs (y ∷ []) (replicate (n - (i + 1)) 0))

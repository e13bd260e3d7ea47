use Rattle.std.proofs.Common.{◌≡◌, ◌≤◌, ◌+◌, ◌*◌, ℕ, List, ◌∙◌, ap, length, drop, arith}
use Rattle.std.specs.Prelude.{slice_index}
use Rattle.std.proofs.lemmas.List.{take_rest, drop-drop, length-drop}
use Rattle.sx_spec.specs.Fields.{fields, words_for}
use Rattle.sx_spec.specs.Layout.{list_section, item_words, list_bits}
use Rattle.sx_fields.proofs.Places.{fields_taken}
use Rattle.sx_fields.proofs.section.list_check.Goals as goal

items_are : (words : List ℕ) (at : ℕ) → words_for (list_bits (drop at words)) + at + 2 ≤ length words → (let rest = drop at words in list_section (slice_index rest 1) (fields (slice_index rest 1) (slice_index rest 0) (item_words rest)) ≡ list_section (slice_index rest 1) (fields (slice_index rest 1) (slice_index rest 0) (drop (at + 2) words)))
items_are words at within =
    let rest = drop at words in
    let width = slice_index rest 1 in
    let count = slice_index rest 0 in
    let size = length-drop 2 rest in
    let size' = length-drop at words in
    ap (list_section width)
    (fields_taken width count (words_for (count * width)) (drop 2 rest) (omega arith) (omega arith) ∙ ap (fields width count) (drop-drop 2 at words))

pub returns-clause-section : goal.returns-clause-section
returns-clause-section c =
    let words = c.args.words.now in
    let at = c.args.at in
    let rest = take_rest words at in
    let bits : c.div_ceil-size.result ≡ words_for (list_bits (drop at words)) = rw (← rest) c.div_ceil-size.ensures in
    rw rest (items_are words at (omega arith))

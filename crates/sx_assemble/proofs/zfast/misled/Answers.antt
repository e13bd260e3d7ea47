use Rattle.std.proofs.Common.{◌≡◌, ◌∙◌, ◌*◌, ◌≤◌, ℕ, IfOk, List, length, map, ap, subst, sym, arith}
use Rattle.std.proofs.lemmas.List.{length-map}
use Rattle.sx_spec_strings.specs.Bits.{Bits, key_bits}
use Rattle.sx_spec_kinds.specs.Search.{handles_of}
use Rattle.sx_spec_kinds.specs.Trie.{extents_of}
use Rattle.sx_spec_kinds.specs.Zfast.{HandleMap, KnowsHandles, corrections_of}
use Rattle.sx_spec.specs.Fields.{fields, words_for}
use Rattle.sx_spec.specs.Reply.{sign, top_bits}
use Rattle.sx_spec.specs.StaticFunction.{part_entries}
use Rattle.sx_spec.proofs.Digits.{packed_fields_are_read_back}
use Rattle.sx_static.specs.Answer.{function_of}
use Rattle.sx_static.specs.Reading.{function_read}
use Rattle.sx_static.specs.Viewing.{viewed}
use Rattle.sx_trie.specs.Tries.{delimiter_bits}
use Rattle.sx_zfast.specs.Corrected.{corrected_as}
use Rattle.sx_zfast.specs.Maps.{map_read, numbers_read}
use Rattle.sx_parts.specs.Sectioning.{header_for}
use Rattle.sx_parts.proofs.PartLists.{function_few}
use Rattle.sx_assemble.specs.Handling.{delimiters_for, handles_for, handles_part, map_for}
use Rattle.sx_assemble.proofs.HandleMaps.{knows, maps_same, marks_read, stands, viewed_is}
use Rattle.sx_assemble.proofs.LcpDumps.{entry_count}
use Rattle.sx_assemble.proofs.ZfastDumps.{handles_few, strings_few}
use Rattle.sx_assemble.proofs.zfast.misled.Goals as goal

pub function_words-requires : goal.function_words-requires
function_words-requires g c =
    let lines = c.args.keys.now.lines in
    let plan = c.args.plan.now in
    let part = handles_part plan lines in
    let entries = part_entries plan.sig_bits c.args.seed part in
    let few = handles_few plan c.args.keys.now c.args.seed c.requires.plan c.requires.keys in
    let count = entry_count plan.sig_bits c.args.seed part in
    let are = c.requires.handles in
    let thin : part.width ≤ 64 = subst (λ (w : ℕ). w ≤ 64) are.function.built.width are.narrow in
    let most = function_few plan.method part.width entries c.args.handles.now.function are.function (omega arith) thin in
    omega arith

pub new-function-requires : goal.new-function-requires
new-function-requires g c =
    let lines = c.args.keys.now.lines in
    let plan = c.args.plan.now in
    let part = handles_part plan lines in
    let entries = part_entries plan.sig_bits c.args.seed part in
    let few = handles_few plan c.args.keys.now c.args.seed c.requires.plan c.requires.keys in
    let count = entry_count plan.sig_bits c.args.seed part in
    let are = c.requires.handles in
    record {
      stands = stands plan.method part.width entries c.args.handles.now.function are.function (omega arith) c.new.result.words.now (c.new.ensures ∙ c.deref.ensures.value ∙ c.in_ok-words.ensures) are.narrow;
    }

pub new-kept-requires-clause-short : goal.new-kept-requires-clause-short
new-kept-requires-clause-short g c =
    let plan = c.args.plan.now in
    let few = strings_few plan c.args.keys.now c.args.seed c.requires.plan c.requires.keys in
    let marks = c.args.handles.now.marks.items in
    let count : length marks ≡ length (handles_for plan c.args.keys.now.lines) = ap (λ (l : List ℕ). length l) c.requires.handles.items ∙ length-map (handles_for plan c.args.keys.now.lines) (λ y. top_bits plan.handle_bits (sign (header_for plan c.args.keys.now.lines c.args.seed) y)) in
    let long : c.len.result ≡ length marks = c.len.ensures in
    omega arith

pub new-kept-requires-clause-within : goal.new-kept-requires-clause-within
new-kept-requires-clause-within g c =
    let marks = c.args.handles.now.marks in
    let held : length c.new-2.result.words.now ≡ words_for (length marks.items * marks.width) = ap (λ (l : List ℕ). length l) (c.new-2.ensures ∙ c.words.ensures.words) ∙ packed_fields_are_read_back.words marks.width marks.items in
    let need : words_for (c.len.result * c.width.result) ≡ words_for (length marks.items * marks.width) = λ i. words_for (c.len.ensures i * c.width.ensures.width i) in
    omega arith

pub corrections-requires-clause-knows : goal.corrections-requires-clause-knows
corrections-requires-clause-knows g c =
    let lines = c.args.keys.now.lines in
    let plan = c.args.plan.now in
    let seed = c.args.seed in
    let buf = c.args.handles.now in
    let are = c.requires.handles in
    let part = handles_part plan lines in
    let entries = part_entries plan.sig_bits seed part in
    let few = handles_few plan c.args.keys.now seed c.requires.plan c.requires.keys in
    let count = entry_count plan.sig_bits seed part in
    let words = c.new.result.words.now in
    let again : function_read c.new-map.result.func ≡ function_of buf.function =
    ap (λ f. function_read f) c.new-map.ensures.func
    ∙ (λ i. viewed (c.new-function.ensures.bank i).words.now (c.new-function.ensures.first i) (c.new-function.ensures.width i) (c.new-function.ensures.pairs i))
    ∙ viewed_is plan.method part.width entries buf.function are.function (omega arith) words (c.new.ensures ∙ c.deref.ensures.value ∙ c.in_ok-words.ensures) in
    let width : c.new-map.result.kept.width ≡ plan.handle_bits = ap (λ k. k.width) c.new-map.ensures.kept ∙ c.new-kept.ensures.width ∙ c.width.ensures.width ∙ are.width in
    let items : numbers_read c.new-map.result.kept ≡ buf.marks.items =
    ap (λ k. numbers_read k) c.new-map.ensures.kept
    ∙ c.new-kept.ensures.items
    ∙ (λ i. fields (c.width.ensures.width i) (c.len.ensures i) ((c.new-2.ensures ∙ c.words.ensures.words) i))
    ∙ marks_read plan lines seed buf are few c.requires.plan.handles in
    let same : map_read c.new-map.result seed plan.sig_bits ≡ map_for plan lines seed buf = maps_same seed plan.sig_bits (function_read c.new-map.result.func) (function_of buf.function) c.new-map.result.kept.width plan.handle_bits (numbers_read c.new-map.result.kept) buf.marks.items again width items in
    let bits : delimiter_bits lines c.deref-2.result.now ≡ delimiters_for plan lines = ap (delimiter_bits lines) c.deref-2.ensures.value ∙ c.requires.built.bits in
    subst (λ (ds : List Bits). KnowsHandles (map_read c.new-map.result seed plan.sig_bits) (handles_of (extents_of ds))) (sym bits)
    (subst (λ (m : HandleMap). KnowsHandles m (handles_for plan lines)) (sym same) (knows plan lines seed buf are few))

pub returns-clause-value : goal.returns-clause-value
returns-clause-value g c =
    let lines = c.args.keys.now.lines in
    let plan = c.args.plan.now in
    let seed = c.args.seed in
    let buf = c.args.handles.now in
    let are = c.requires.handles in
    let part = handles_part plan lines in
    let entries = part_entries plan.sig_bits seed part in
    let few = handles_few plan c.args.keys.now seed c.requires.plan c.requires.keys in
    let count = entry_count plan.sig_bits seed part in
    let words = c.new.result.words.now in
    let again : function_read c.new-map.result.func ≡ function_of buf.function =
    ap (λ f. function_read f) c.new-map.ensures.func
    ∙ (λ i. viewed (c.new-function.ensures.bank i).words.now (c.new-function.ensures.first i) (c.new-function.ensures.width i) (c.new-function.ensures.pairs i))
    ∙ viewed_is plan.method part.width entries buf.function are.function (omega arith) words (c.new.ensures ∙ c.deref.ensures.value ∙ c.in_ok-words.ensures) in
    let width : c.new-map.result.kept.width ≡ plan.handle_bits = ap (λ k. k.width) c.new-map.ensures.kept ∙ c.new-kept.ensures.width ∙ c.width.ensures.width ∙ are.width in
    let items : numbers_read c.new-map.result.kept ≡ buf.marks.items =
    ap (λ k. numbers_read k) c.new-map.ensures.kept
    ∙ c.new-kept.ensures.items
    ∙ (λ i. fields (c.width.ensures.width i) (c.len.ensures i) ((c.new-2.ensures ∙ c.words.ensures.words) i))
    ∙ marks_read plan lines seed buf are few c.requires.plan.handles in
    let same : map_read c.new-map.result seed plan.sig_bits ≡ map_for plan lines seed buf = maps_same seed plan.sig_bits (function_read c.new-map.result.func) (function_of buf.function) c.new-map.result.kept.width plan.handle_bits (numbers_read c.new-map.result.kept) buf.marks.items again width items in
    let bits : delimiter_bits lines c.deref-2.result.now ≡ delimiters_for plan lines = ap (delimiter_bits lines) c.deref-2.ensures.value ∙ c.requires.built.bits in
    let keys = map key_bits lines in
    subst (λ (m : HandleMap). IfOk c.corrections.result (λ list. map corrected_as list.items ≡ corrections_of m (delimiters_for plan lines) keys)) same
    (subst (λ (ds : List Bits). IfOk c.corrections.result (λ list. map corrected_as list.items ≡ corrections_of (map_read c.new-map.result seed plan.sig_bits) ds keys)) bits c.corrections.ensures.value)

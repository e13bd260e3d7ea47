use Rattle.std.proofs.Common.{◌≡◌, ◌∙◌, ◌^◌, ◌<◌, ◌≤◌, ℕ, List, [], All, Ok, Err, length, map, ap, subst, sym, arith, inl, inr}
use Rattle.std.proofs.lemmas.List.{length-map}
use Rattle.std.proofs.lemmas.Result.{err_from_is_err_and}
use Rattle.sx_spec_strings.specs.Bits.{key_bits}
use Rattle.sx_spec_kinds.specs.declared.Kind.TheVariants.{Lcp2}
use Rattle.sx_spec_kinds.specs.Blocks.{block_size}
use Rattle.sx_spec_kinds.specs.Pairs.{offsets_pairs}
use Rattle.sx_spec_kinds.specs.TwoStep.{two_step_of, width_of}
use Rattle.sx_spec.specs.declared.Signature.{Signature}
use Rattle.sx_spec.specs.Parts.{parts_of}
use Rattle.sx_lcp.specs.TwoSteps.{two_step_as}
use Rattle.sx_parts.specs.Assembling.{key_signature}
use Rattle.sx_parts.specs.Ranking.{offset_numbers}
use Rattle.sx_parts.specs.Sectioning.{AreKindSections}
use Rattle.sx_parts.proofs.BuiltDumps.{few_lines}
use Rattle.sx_assemble.proofs.CodePairs.{built_codes_count, built_codes_fit, built_escaped_count, built_escaped_within, built_table_count, built_table_fits, lens_count}
use Rattle.sx_parts.proofs.KeyPairs.{least_of, offsets_are}
use Rattle.sx_assemble.proofs.Lcp2Dumps.{bits_narrow, codes_of_keys, codes_part_narrow, escaped_of_keys, given_codes, given_escaped, lcp2_done, lcp2_stops_first, lcp2_stops_second, lcp2_stops_third, lcp2_stops_fourth, lens_many, sigs_count, table_is, width_narrow}
use Rattle.sx_parts.proofs.PartLists.{stops_out}
use Rattle.sx_parts.proofs.SignedEnds.{all_sections, few_signatures}
use Rattle.sx_assemble.proofs.lcp2.lcp2_sections.Goals as goal

pub two_step-requires : goal.two_step-requires
two_step-requires c =
    let list = c.args.keys.now in
    let lines = list.lines in
    let plan = c.args.plan.now in
    let seed = c.args.seed in
    let keys = c.sign_keys.ensures.keys in
    let few = few_lines list.limits lines keys.limits keys.faultless in
    let lens = c.in_ok-parts.parts.lengths.items in
    let value = ap (λ (l : List ℕ). length l) (c.deref.ensures.value ∙ c.in_ok-parts.ensures.lengths) in
    let count = lens_count (block_size plan.log_bucket) (map key_bits lines) in
    let all = length-map lines key_bits in
    omega arith

pub key_functions-requires-clause-numbers : goal.key_functions-requires-clause-numbers
key_functions-requires-clause-numbers c =
    let list = c.args.keys.now in
    let lines = list.lines in
    let plan = c.args.plan.now in
    let seed = c.args.seed in
    let keys = c.sign_keys.ensures.keys in
    let few = few_lines list.limits lines keys.limits keys.faultless in
    let sigs = c.in_ok-sigs.sigs.items in
    let lens = c.in_ok-parts.parts.lengths.items in
    let t = two_step_as c.in_ok-coded.coded in
    let signed = c.in_ok-sigs.ensures.signed in
    let lengths = c.in_ok-parts.ensures.lengths in
    let two = c.in_ok-coded.ensures ∙ ap two_step_of c.deref.ensures.value in
    let many = sigs_count plan list seed sigs lens t signed lengths two in
    let all = lens_many plan list seed sigs lens t signed lengths two in
    let count = built_codes_count lens t two in
    let same = ap (λ (l : List Signature). length l) c.deref-2.ensures.value in
    omega arith

pub key_functions-requires-clause-few : goal.key_functions-requires-clause-few
key_functions-requires-clause-few c =
    let list = c.args.keys.now in
    let lines = list.lines in
    let keys = c.sign_keys.ensures.keys in
    let few = few_lines list.limits lines keys.limits keys.faultless in
    let as_many : length c.deref-2.result.now ≡ length lines = ap (λ (l : List Signature). length l) (c.deref-2.ensures.value ∙ c.in_ok-sigs.ensures.signed) ∙ length-map lines (key_signature c.args.seed c.args.plan.now.sig_bits) in
    omega arith

pub key_functions-requires-clause-fit : goal.key_functions-requires-clause-fit
key_functions-requires-clause-fit c =
    let list = c.args.keys.now in
    let lines = list.lines in
    let plan = c.args.plan.now in
    let seed = c.args.seed in
    let keys = c.sign_keys.ensures.keys in
    let few = few_lines list.limits lines keys.limits keys.faultless in
    let sigs = c.in_ok-sigs.sigs.items in
    let lens = c.in_ok-parts.parts.lengths.items in
    let t = two_step_as c.in_ok-coded.coded in
    let signed = c.in_ok-sigs.ensures.signed in
    let lengths = c.in_ok-parts.ensures.lengths in
    let two = c.in_ok-coded.ensures ∙ ap two_step_of c.deref.ensures.value in
    built_codes_fit lens t two

pub key_functions-requires-clause-narrow : goal.key_functions-requires-clause-narrow
key_functions-requires-clause-narrow c =
    let list = c.args.keys.now in
    let lines = list.lines in
    let plan = c.args.plan.now in
    let seed = c.args.seed in
    let keys = c.sign_keys.ensures.keys in
    let few = few_lines list.limits lines keys.limits keys.faultless in
    let sigs = c.in_ok-sigs.sigs.items in
    let lens = c.in_ok-parts.parts.lengths.items in
    let t = two_step_as c.in_ok-coded.coded in
    let signed = c.in_ok-sigs.ensures.signed in
    let lengths = c.in_ok-parts.ensures.lengths in
    let two = c.in_ok-coded.ensures ∙ ap two_step_of c.deref.ensures.value in
    let n = bits_narrow plan list seed sigs lens t signed lengths two keys c.requires.buckets in
    omega arith

pub returns-in_err-functions : goal.returns-in_err-functions
returns-in_err-functions c =
    let list = c.args.keys.now in
    let lines = list.lines in
    let plan = c.args.plan.now in
    let seed = c.args.seed in
    let keys = c.sign_keys.ensures.keys in
    let few = few_lines list.limits lines keys.limits keys.faultless in
    let sigs = c.in_ok-sigs.sigs.items in
    let lens = c.in_ok-parts.parts.lengths.items in
    let t = two_step_as c.in_ok-coded.coded in
    let signed = c.in_ok-sigs.ensures.signed in
    let lengths = c.in_ok-parts.ensures.lengths in
    let two = c.in_ok-coded.ensures ∙ ap two_step_of c.deref.ensures.value in
    let pairs = offsets_pairs (block_size plan.log_bucket) (map key_bits lines) in
    let as_many : length c.deref-2.result.now ≡ length lines = ap (λ (l : List Signature). length l) (c.deref-2.ensures.value ∙ signed) ∙ length-map lines (key_signature seed plan.sig_bits) in
    let numbers = offset_numbers (block_size plan.log_bucket) (length c.deref-2.result.now) in
    let are = offsets_are plan.sig_bits seed lines (block_size plan.log_bucket) c.deref-2.result.now numbers (c.deref-2.ensures.value ∙ signed) (ap (offset_numbers (block_size plan.log_bucket)) as_many) in
    let e = c.in_err-functions.field-0.0 in
    stops_out plan lines seed (parts_of plan 0 lines []) c.from_residual-in_err-functions.result e
    (err_from_is_err_and c.from_residual-in_err-functions.result c.from_residual-in_err-functions.ensures.1)
    (elim c.in_err-functions.ensures [
      | inl first ↦ lcp2_stops_first plan lines seed c.requires e (least_of plan seed 0 pairs c.deref-2.result.now numbers are (Err e) first)
      | inr second ↦
          let first_done = least_of plan seed 0 pairs c.deref-2.result.now numbers are (Ok second.first) second.done in
          lcp2_stops_second plan lines seed c.requires second.first first_done e
          (codes_of_keys plan list seed sigs lens t signed lengths two (Err e) (given_codes plan 1 t.bits t.codes c.deref-2.result.now sigs c.deref-2.ensures.value (Err e) second.second))
    ])

pub escaped_function-requires-clause-few : goal.escaped_function-requires-clause-few
escaped_function-requires-clause-few c =
    let list = c.args.keys.now in
    let lines = list.lines in
    let plan = c.args.plan.now in
    let seed = c.args.seed in
    let keys = c.sign_keys.ensures.keys in
    let few = few_lines list.limits lines keys.limits keys.faultless in
    let sigs = c.in_ok-sigs.sigs.items in
    let lens = c.in_ok-parts.parts.lengths.items in
    let t = two_step_as c.in_ok-coded.coded in
    let signed = c.in_ok-sigs.ensures.signed in
    let lengths = c.in_ok-parts.ensures.lengths in
    let two = c.in_ok-coded.ensures ∙ ap two_step_of c.deref.ensures.value in
    let all = lens_many plan list seed sigs lens t signed lengths two in
    let count = built_escaped_count lens t two in
    let same = ap (λ (l : List ℕ). length l) c.deref-5.ensures.value in
    omega arith

pub escaped_function-requires-clause-signed : goal.escaped_function-requires-clause-signed
escaped_function-requires-clause-signed c =
    let list = c.args.keys.now in
    let lines = list.lines in
    let plan = c.args.plan.now in
    let seed = c.args.seed in
    let keys = c.sign_keys.ensures.keys in
    let few = few_lines list.limits lines keys.limits keys.faultless in
    let sigs = c.in_ok-sigs.sigs.items in
    let lens = c.in_ok-parts.parts.lengths.items in
    let t = two_step_as c.in_ok-coded.coded in
    let signed = c.in_ok-sigs.ensures.signed in
    let lengths = c.in_ok-parts.ensures.lengths in
    let two = c.in_ok-coded.ensures ∙ ap two_step_of c.deref.ensures.value in
    let many = sigs_count plan list seed sigs lens t signed lengths two in
    let all = lens_many plan list seed sigs lens t signed lengths two in
    let same = ap (λ (l : List Signature). length l) c.deref-3.ensures.value in
    let within = built_escaped_within lens t two in
    let moved = subst (λ (ps : List ℕ). All (λ i. i < length lens) ps) (sym c.deref-5.ensures.value) within in
    let count : length lens ≡ length c.deref-3.result.now = omega arith in
    subst (λ (n : ℕ). All (λ i. i < n) c.deref-5.result.now) count moved

pub escaped_function-requires-clause-within : goal.escaped_function-requires-clause-within
escaped_function-requires-clause-within c =
    let list = c.args.keys.now in
    let lines = list.lines in
    let plan = c.args.plan.now in
    let seed = c.args.seed in
    let keys = c.sign_keys.ensures.keys in
    let few = few_lines list.limits lines keys.limits keys.faultless in
    let sigs = c.in_ok-sigs.sigs.items in
    let lens = c.in_ok-parts.parts.lengths.items in
    let t = two_step_as c.in_ok-coded.coded in
    let signed = c.in_ok-sigs.ensures.signed in
    let lengths = c.in_ok-parts.ensures.lengths in
    let two = c.in_ok-coded.ensures ∙ ap two_step_of c.deref.ensures.value in
    let within = built_escaped_within lens t two in
    let moved = subst (λ (ps : List ℕ). All (λ i. i < length lens) ps) (sym c.deref-5.ensures.value) within in
    subst (λ (l : List ℕ). All (λ i. i < length l) c.deref-5.result.now) (sym c.deref-4.ensures.value) moved

pub returns-in_err-escaped : goal.returns-in_err-escaped
returns-in_err-escaped c =
    let list = c.args.keys.now in
    let lines = list.lines in
    let plan = c.args.plan.now in
    let seed = c.args.seed in
    let keys = c.sign_keys.ensures.keys in
    let few = few_lines list.limits lines keys.limits keys.faultless in
    let sigs = c.in_ok-sigs.sigs.items in
    let lens = c.in_ok-parts.parts.lengths.items in
    let t = two_step_as c.in_ok-coded.coded in
    let signed = c.in_ok-sigs.ensures.signed in
    let lengths = c.in_ok-parts.ensures.lengths in
    let two = c.in_ok-coded.ensures ∙ ap two_step_of c.deref.ensures.value in
    let pairs = offsets_pairs (block_size plan.log_bucket) (map key_bits lines) in
    let as_many : length c.deref-2.result.now ≡ length lines = ap (λ (l : List Signature). length l) (c.deref-2.ensures.value ∙ signed) ∙ length-map lines (key_signature seed plan.sig_bits) in
    let numbers = offset_numbers (block_size plan.log_bucket) (length c.deref-2.result.now) in
    let are = offsets_are plan.sig_bits seed lines (block_size plan.log_bucket) c.deref-2.result.now numbers (c.deref-2.ensures.value ∙ signed) (ap (offset_numbers (block_size plan.log_bucket)) as_many) in
    let offsets = c.in_ok-functions.functions.offsets in
    let offsets_done = least_of plan seed 0 pairs c.deref-2.result.now numbers are (Ok offsets) c.in_ok-functions.ensures.first in
    let codes = c.in_ok-functions.functions.codes in
    let codes_done = codes_of_keys plan list seed sigs lens t signed lengths two (Ok codes) (given_codes plan 1 t.bits t.codes c.deref-2.result.now sigs c.deref-2.ensures.value (Ok codes) c.in_ok-functions.ensures.second) in
    let e = c.in_err-escaped.field-0.0 in
    stops_out plan lines seed (parts_of plan 0 lines []) c.from_residual-in_err-escaped.result e
    (err_from_is_err_and c.from_residual-in_err-escaped.result c.from_residual-in_err-escaped.ensures.1)
    (lcp2_stops_third plan lines seed c.requires offsets offsets_done codes codes_done e (escaped_of_keys plan list seed sigs lens t signed lengths two (Err e) (given_escaped plan 2 c.deref-3.result.now sigs c.deref-4.result.now lens c.deref-5.result.now t.escaped c.deref-3.ensures.value c.deref-4.ensures.value c.deref-5.ensures.value (Err e) c.in_err-escaped.ensures.built)))

pub prefixes_function-requires-clause-few : goal.prefixes_function-requires-clause-few
prefixes_function-requires-clause-few c = let keys = c.sign_keys.ensures.keys in few_lines c.args.keys.now.limits c.args.keys.now.lines keys.limits keys.faultless

pub returns-in_err-prefixes : goal.returns-in_err-prefixes
returns-in_err-prefixes c =
    let list = c.args.keys.now in
    let lines = list.lines in
    let plan = c.args.plan.now in
    let seed = c.args.seed in
    let keys = c.sign_keys.ensures.keys in
    let few = few_lines list.limits lines keys.limits keys.faultless in
    let sigs = c.in_ok-sigs.sigs.items in
    let lens = c.in_ok-parts.parts.lengths.items in
    let t = two_step_as c.in_ok-coded.coded in
    let signed = c.in_ok-sigs.ensures.signed in
    let lengths = c.in_ok-parts.ensures.lengths in
    let two = c.in_ok-coded.ensures ∙ ap two_step_of c.deref.ensures.value in
    let pairs = offsets_pairs (block_size plan.log_bucket) (map key_bits lines) in
    let as_many : length c.deref-2.result.now ≡ length lines = ap (λ (l : List Signature). length l) (c.deref-2.ensures.value ∙ signed) ∙ length-map lines (key_signature seed plan.sig_bits) in
    let numbers = offset_numbers (block_size plan.log_bucket) (length c.deref-2.result.now) in
    let are = offsets_are plan.sig_bits seed lines (block_size plan.log_bucket) c.deref-2.result.now numbers (c.deref-2.ensures.value ∙ signed) (ap (offset_numbers (block_size plan.log_bucket)) as_many) in
    let offsets = c.in_ok-functions.functions.offsets in
    let offsets_done = least_of plan seed 0 pairs c.deref-2.result.now numbers are (Ok offsets) c.in_ok-functions.ensures.first in
    let codes = c.in_ok-functions.functions.codes in
    let codes_done = codes_of_keys plan list seed sigs lens t signed lengths two (Ok codes) (given_codes plan 1 t.bits t.codes c.deref-2.result.now sigs c.deref-2.ensures.value (Ok codes) c.in_ok-functions.ensures.second) in
    let escaped = c.in_ok-escaped.escaped in
    let escaped_done = escaped_of_keys plan list seed sigs lens t signed lengths two (Ok escaped) (given_escaped plan 2 c.deref-3.result.now sigs c.deref-4.result.now lens c.deref-5.result.now t.escaped c.deref-3.ensures.value c.deref-4.ensures.value c.deref-5.ensures.value (Ok escaped) c.in_ok-escaped.ensures.built) in
    let e = c.in_err-prefixes.field-0.0 in
    stops_out plan lines seed (parts_of plan 0 lines []) c.from_residual-in_err-prefixes.result e
    (err_from_is_err_and c.from_residual-in_err-prefixes.result c.from_residual-in_err-prefixes.ensures.1)
    (lcp2_stops_fourth plan lines seed c.requires offsets offsets_done codes codes_done escaped escaped_done e c.in_err-prefixes.ensures.built)

pub table_list-requires-clause-few : goal.table_list-requires-clause-few
table_list-requires-clause-few c =
    let list = c.args.keys.now in
    let lines = list.lines in
    let plan = c.args.plan.now in
    let seed = c.args.seed in
    let keys = c.sign_keys.ensures.keys in
    let few = few_lines list.limits lines keys.limits keys.faultless in
    let sigs = c.in_ok-sigs.sigs.items in
    let lens = c.in_ok-parts.parts.lengths.items in
    let t = two_step_as c.in_ok-coded.coded in
    let signed = c.in_ok-sigs.ensures.signed in
    let lengths = c.in_ok-parts.ensures.lengths in
    let two = c.in_ok-coded.ensures ∙ ap two_step_of c.deref.ensures.value in
    let all = lens_many plan list seed sigs lens t signed lengths two in
    let count = built_table_count lens t two in
    let same = ap (λ (l : List ℕ). length l) c.deref-8.ensures.value in
    omega arith

pub table_list-requires-clause-fit : goal.table_list-requires-clause-fit
table_list-requires-clause-fit c =
    let list = c.args.keys.now in
    let lines = list.lines in
    let plan = c.args.plan.now in
    let seed = c.args.seed in
    let keys = c.sign_keys.ensures.keys in
    let few = few_lines list.limits lines keys.limits keys.faultless in
    let sigs = c.in_ok-sigs.sigs.items in
    let lens = c.in_ok-parts.parts.lengths.items in
    let t = two_step_as c.in_ok-coded.coded in
    let signed = c.in_ok-sigs.ensures.signed in
    let lengths = c.in_ok-parts.ensures.lengths in
    let two = c.in_ok-coded.ensures ∙ ap two_step_of c.deref.ensures.value in
    let fits = built_table_fits lens t two in
    let moved = subst (λ (l : List ℕ). All (λ v. v < 2 ^ width_of lens) l) (sym c.deref-8.ensures.value) fits in
    subst (λ (l : List ℕ). All (λ v. v < 2 ^ width_of l) c.deref-8.result.now) (sym c.deref-7.ensures.value) moved

pub with_signatures-requires-clause-few : goal.with_signatures-requires-clause-few
with_signatures-requires-clause-few c =
    let few = few_signatures c.args.keys.now c.sign_keys.ensures.keys c.args.seed c.args.plan.now.sig_bits c.deref-9.result.now (c.deref-9.ensures.value ∙ c.in_ok-sigs.ensures.signed) in
    omega arith

pub returns : goal.returns
returns c =
    let list = c.args.keys.now in
    let lines = list.lines in
    let plan = c.args.plan.now in
    let seed = c.args.seed in
    let keys = c.sign_keys.ensures.keys in
    let few = few_lines list.limits lines keys.limits keys.faultless in
    let sigs = c.in_ok-sigs.sigs.items in
    let lens = c.in_ok-parts.parts.lengths.items in
    let t = two_step_as c.in_ok-coded.coded in
    let signed = c.in_ok-sigs.ensures.signed in
    let lengths = c.in_ok-parts.ensures.lengths in
    let two = c.in_ok-coded.ensures ∙ ap two_step_of c.deref.ensures.value in
    let pairs = offsets_pairs (block_size plan.log_bucket) (map key_bits lines) in
    let as_many : length c.deref-2.result.now ≡ length lines = ap (λ (l : List Signature). length l) (c.deref-2.ensures.value ∙ signed) ∙ length-map lines (key_signature seed plan.sig_bits) in
    let numbers = offset_numbers (block_size plan.log_bucket) (length c.deref-2.result.now) in
    let are = offsets_are plan.sig_bits seed lines (block_size plan.log_bucket) c.deref-2.result.now numbers (c.deref-2.ensures.value ∙ signed) (ap (offset_numbers (block_size plan.log_bucket)) as_many) in
    let offsets = c.in_ok-functions.functions.offsets in
    let offsets_done = least_of plan seed 0 pairs c.deref-2.result.now numbers are (Ok offsets) c.in_ok-functions.ensures.first in
    let codes = c.in_ok-functions.functions.codes in
    let codes_done = codes_of_keys plan list seed sigs lens t signed lengths two (Ok codes) (given_codes plan 1 t.bits t.codes c.deref-2.result.now sigs c.deref-2.ensures.value (Ok codes) c.in_ok-functions.ensures.second) in
    let escaped = c.in_ok-escaped.escaped in
    let escaped_done = escaped_of_keys plan list seed sigs lens t signed lengths two (Ok escaped) (given_escaped plan 2 c.deref-3.result.now sigs c.deref-4.result.now lens c.deref-5.result.now t.escaped c.deref-3.ensures.value c.deref-4.ensures.value c.deref-5.ensures.value (Ok escaped) c.in_ok-escaped.ensures.built) in
    let table = c.in_ok-table.table in
    let narrow_offsets = subst (λ (w : ℕ). w ≤ 64) offsets_done.built.width c.in_ok-functions.ensures.narrow in
    let wide : table.width ≡ width_of lens = c.in_ok-table.ensures.width ∙ ap width_of c.deref-7.ensures.value in
    let listed : table.items ≡ t.table = c.in_ok-table.ensures.items ∙ c.deref-8.ensures.value in
    let thin = width_narrow plan list seed sigs lens t signed lengths two keys c.requires.buckets in
    let count = built_table_count lens t two in
    let all = lens_many plan list seed sigs lens t signed lengths two in
    let size = ap (λ (l : List ℕ). length l) listed in
    let parts = parts_of plan 0 lines [] in
    let own = subst (AreKindSections Lcp2 plan lines seed parts) (sym c.in_ok-sections.ensures.items)
    (lcp2_done plan lines seed c.requires offsets offsets_done codes codes_done escaped escaped_done c.in_ok-prefixes.prefixes table c.in_ok-prefixes.ensures.built few narrow_offsets
    (codes_part_narrow plan list seed sigs lens t signed lengths two keys c.requires.buckets) c.in_ok-escaped.ensures.narrow c.in_ok-prefixes.ensures.narrow (wide ∙ ap width_of lengths) (listed ∙ table_is plan list seed sigs lens t signed lengths two) (omega arith) (omega arith)) in
    all_sections Lcp2 plan lines seed parts c.requires.kind c.in_ok-sections.sections.items c.in_ok-with_signatures.field-0.items own
    few c.requires.signed c.deref-9.result.now (c.deref-9.ensures.value ∙ signed) c.in_ok-with_signatures.ensures

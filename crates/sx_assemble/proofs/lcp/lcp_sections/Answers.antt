use Rattle.std.proofs.Common.{◌≡◌, ◌∙◌, ◌≤◌, ℕ, List, [], Ok, Err, length, map, ap, subst, sym, arith}
use Rattle.std.proofs.lemmas.List.{length-map}
use Rattle.std.proofs.lemmas.Result.{err_from_is_err_and}
use Rattle.sx_spec_strings.specs.Bits.{key_bits}
use Rattle.sx_spec_kinds.specs.declared.Kind.TheVariants.{Lcp}
use Rattle.sx_spec_kinds.specs.Blocks.{block_size}
use Rattle.sx_spec_kinds.specs.Lcp.{prefix_lens}
use Rattle.sx_spec_kinds.specs.Pairs.{lengths_pairs}
use Rattle.sx_spec.specs.declared.Signature.{Signature}
use Rattle.sx_spec.specs.Parts.{parts_of}
use Rattle.sx_parts.specs.Assembling.{key_signature}
use Rattle.sx_parts.specs.Ranking.{length_numbers}
use Rattle.sx_parts.specs.Sectioning.{AreKindSections}
use Rattle.sx_parts.proofs.BuiltDumps.{few_lines}
use Rattle.sx_assemble.proofs.CodePairs.{lens_count}
use Rattle.sx_parts.proofs.KeyPairs.{least_of, lengths_are}
use Rattle.sx_assemble.proofs.LcpDumps.{lcp_done, lcp_stops_first, lcp_stops_second}
use Rattle.sx_parts.proofs.PartLists.{stops_out}
use Rattle.sx_parts.proofs.SignedEnds.{all_sections, few_signatures}
use Rattle.sx_assemble.proofs.lcp.lcp_sections.Goals as goal

pub lengths_function-requires-clause-numbers : goal.lengths_function-requires-clause-numbers
lengths_function-requires-clause-numbers c =
    let lines = c.args.keys.now.lines in
    let plan = c.args.plan.now in
    let sigs : length c.deref.result.now ≡ length lines = ap (λ (l : List Signature). length l) (c.deref.ensures.value ∙ c.in_ok-sigs.ensures.signed) ∙ length-map lines (key_signature c.args.seed plan.sig_bits) in
    ap (λ (l : List ℕ). length l) c.in_ok-lengths.ensures.lengths ∙ lens_count (block_size plan.log_bucket) (map key_bits lines) ∙ length-map lines key_bits ∙ sym sigs

pub lengths_function-requires-clause-few : goal.lengths_function-requires-clause-few
lengths_function-requires-clause-few c =
    let lines = c.args.keys.now.lines in
    let keys = c.sign_keys.ensures.keys in
    let sigs : length c.deref.result.now ≡ length lines = ap (λ (l : List Signature). length l) (c.deref.ensures.value ∙ c.in_ok-sigs.ensures.signed) ∙ length-map lines (key_signature c.args.seed c.args.plan.now.sig_bits) in
    let few = few_lines c.args.keys.now.limits lines keys.limits keys.faultless in
    omega arith

pub returns-in_err-lengths-2 : goal.returns-in_err-lengths-2
returns-in_err-lengths-2 c =
    let lines = c.args.keys.now.lines in
    let plan = c.args.plan.now in
    let b = block_size plan.log_bucket in
    let numbers = length_numbers b c.in_ok-lengths.field-0.lengths.items in
    let numbered : numbers ≡ length_numbers b (prefix_lens b (map key_bits lines)) = ap (length_numbers b) c.in_ok-lengths.ensures.lengths in
    let are = lengths_are plan.sig_bits c.args.seed lines b c.deref.result.now numbers (c.deref.ensures.value ∙ c.in_ok-sigs.ensures.signed) numbered in
    let e = c.in_err-lengths-2.field-0.0 in
    stops_out plan lines c.args.seed (parts_of plan 0 lines []) c.from_residual-in_err-lengths-2.result e
    (err_from_is_err_and c.from_residual-in_err-lengths-2.result c.from_residual-in_err-lengths-2.ensures.1)
    (lcp_stops_first plan lines c.args.seed c.requires e (least_of plan c.args.seed 0 (lengths_pairs b (map key_bits lines)) c.deref.result.now numbers are (Err e) c.in_err-lengths-2.ensures.built))

pub prefixes_function-requires-clause-few : goal.prefixes_function-requires-clause-few
prefixes_function-requires-clause-few c = let keys = c.sign_keys.ensures.keys in few_lines c.args.keys.now.limits c.args.keys.now.lines keys.limits keys.faultless

pub returns-in_err-prefixes : goal.returns-in_err-prefixes
returns-in_err-prefixes c =
    let lines = c.args.keys.now.lines in
    let plan = c.args.plan.now in
    let b = block_size plan.log_bucket in
    let numbers = length_numbers b c.in_ok-lengths.field-0.lengths.items in
    let numbered : numbers ≡ length_numbers b (prefix_lens b (map key_bits lines)) = ap (length_numbers b) c.in_ok-lengths.ensures.lengths in
    let are = lengths_are plan.sig_bits c.args.seed lines b c.deref.result.now numbers (c.deref.ensures.value ∙ c.in_ok-sigs.ensures.signed) numbered in
    let f = c.in_ok-lengths-2.lengths in
    let e = c.in_err-prefixes.field-0.0 in
    stops_out plan lines c.args.seed (parts_of plan 0 lines []) c.from_residual-in_err-prefixes.result e
    (err_from_is_err_and c.from_residual-in_err-prefixes.result c.from_residual-in_err-prefixes.ensures.1)
    (lcp_stops_second plan lines c.args.seed c.requires f e (least_of plan c.args.seed 0 (lengths_pairs b (map key_bits lines)) c.deref.result.now numbers are (Ok f) c.in_ok-lengths-2.ensures.built) c.in_err-prefixes.ensures.built)

pub with_signatures-requires-clause-few : goal.with_signatures-requires-clause-few
with_signatures-requires-clause-few c =
    let few = few_signatures c.args.keys.now c.sign_keys.ensures.keys c.args.seed c.args.plan.now.sig_bits c.deref-3.result.now (c.deref-3.ensures.value ∙ c.in_ok-sigs.ensures.signed) in
    omega arith

pub returns : goal.returns
returns c =
    let lines = c.args.keys.now.lines in
    let plan = c.args.plan.now in
    let keys = c.sign_keys.ensures.keys in
    let few = few_lines c.args.keys.now.limits lines keys.limits keys.faultless in
    let b = block_size plan.log_bucket in
    let numbers = length_numbers b c.in_ok-lengths.field-0.lengths.items in
    let numbered : numbers ≡ length_numbers b (prefix_lens b (map key_bits lines)) = ap (length_numbers b) c.in_ok-lengths.ensures.lengths in
    let are = lengths_are plan.sig_bits c.args.seed lines b c.deref.result.now numbers (c.deref.ensures.value ∙ c.in_ok-sigs.ensures.signed) numbered in
    let f = c.in_ok-lengths-2.lengths in
    let done = least_of plan c.args.seed 0 (lengths_pairs b (map key_bits lines)) c.deref.result.now numbers are (Ok f) c.in_ok-lengths-2.ensures.built in
    let narrow = subst (λ (w : ℕ). w ≤ 64) done.built.width c.in_ok-lengths-2.ensures.narrow in
    let parts = parts_of plan 0 lines [] in
    let own = subst (AreKindSections Lcp plan lines c.args.seed parts) (sym c.in_ok-sections.ensures.items)
    (lcp_done plan lines c.args.seed c.requires f c.in_ok-prefixes.prefixes few
    done narrow c.in_ok-prefixes.ensures.built c.in_ok-prefixes.ensures.narrow) in
    all_sections Lcp plan lines c.args.seed parts c.requires.kind c.in_ok-sections.sections.items c.in_ok-with_signatures.field-0.items own
    few c.requires.signed c.deref-3.result.now (c.deref-3.ensures.value ∙ c.in_ok-sigs.ensures.signed) c.in_ok-with_signatures.ensures

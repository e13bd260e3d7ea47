use Rattle.std.proofs.Common.{◌≡◌, ◌∙◌, ◌<◌, ℕ, List, [], All, length, map, ap, subst, sym, arith}
use Rattle.std.proofs.lemmas.List.{length-map}
use Rattle.sx_spec_strings.specs.Bits.{key_bits}
use Rattle.sx_spec_strings.specs.Ordered.{in_order}
use Rattle.sx_spec_kinds.specs.declared.Kind.TheVariants.{Zfast}
use Rattle.sx_spec.specs.declared.Signature.{Signature}
use Rattle.sx_spec.specs.Built.{entry_before, signed_corrections}
use Rattle.sx_spec.specs.Parts.{parts_of}
use Rattle.sx_spec.specs.StaticFunction.{Entry}
use Rattle.sx_parts.specs.Assembling.{key_signature}
use Rattle.sx_parts.specs.Sectioning.{AreKindSections, header_for}
use Rattle.sx_parts.proofs.BuiltDumps.{few_lines}
use Rattle.sx_parts.proofs.SignedEnds.{all_sections, few_signatures}
use Rattle.sx_zfast.specs.declared.correcting.Corrected.{Corrected}
use Rattle.sx_assemble.specs.Handling.{AreCorrections, AreNodeLists, RiseFrom, delimiters_for, entry_for, map_for, ranks_of}
use Rattle.sx_assemble.proofs.Corrections.{entries_signed, found_few, found_inside, found_rise}
use Rattle.sx_assemble.proofs.ZfastDumps.{keys_apart, nodes_for, zfast_done}
use Rattle.sx_assemble.proofs.zfast.zfast_sections.Goals as goal

pub correction_lists-requires-clause-few : goal.correction_lists-requires-clause-few
correction_lists-requires-clause-few g c =
    let list = c.args.keys.now in
    let plan = c.args.plan.now in
    let keys = c.sign_keys.ensures.keys in
    let m = map_for plan list.lines c.args.seed c.in_ok-functions.functions.handles in
    let few = found_few plan c.args.seed list.lines m (delimiters_for plan list.lines) c.in_ok-corrected.corrected.items c.in_ok-corrected.ensures.value in
    let lines = few_lines list.limits list.lines keys.limits keys.faultless in
    let same = ap (λ (l : List Corrected). length l) c.deref-3.ensures.value in
    omega arith

pub correction_lists-requires-clause-inside : goal.correction_lists-requires-clause-inside
correction_lists-requires-clause-inside g c =
    let lines = c.args.keys.now.lines in
    let plan = c.args.plan.now in
    let m = map_for plan lines c.args.seed c.in_ok-functions.functions.handles in
    let inside = found_inside plan c.args.seed lines m (delimiters_for plan lines) c.in_ok-corrected.corrected.items c.in_ok-corrected.ensures.value in
    let count : length c.deref-2.result.now ≡ length lines = ap (λ (l : List Signature). length l) (c.deref-2.ensures.value ∙ c.in_ok-sigs.ensures.signed) ∙ length-map lines (key_signature c.args.seed plan.sig_bits) in
    subst (λ (l : List Corrected). All (λ (x : Corrected). x.rank < length c.deref-2.result.now) l) (sym c.deref-3.ensures.value)
    (subst (λ (n : ℕ). All (λ (x : Corrected). x.rank < n) c.in_ok-corrected.corrected.items) (sym count) inside)

pub correction_lists-requires-clause-rise : goal.correction_lists-requires-clause-rise
correction_lists-requires-clause-rise g c =
    let lines = c.args.keys.now.lines in
    let plan = c.args.plan.now in
    let m = map_for plan lines c.args.seed c.in_ok-functions.functions.handles in
    subst (λ (l : List Corrected). RiseFrom 0 (ranks_of l)) (sym c.deref-3.ensures.value)
    (found_rise plan c.args.seed lines m (delimiters_for plan lines) c.in_ok-corrected.corrected.items c.in_ok-corrected.ensures.value)

pub correction_lists-requires-clause-differ : goal.correction_lists-requires-clause-differ
correction_lists-requires-clause-differ g c =
    keys_apart c.args.plan.now c.args.keys.now.lines c.args.seed c.deref-2.result.now c.in_ok-functions.functions.offsets (c.deref-2.ensures.value ∙ c.in_ok-sigs.ensures.signed) c.in_ok-functions.ensures.offsets

pub with_signatures-requires-clause-few : goal.with_signatures-requires-clause-few
with_signatures-requires-clause-few g c =
    let few = few_signatures c.args.keys.now c.sign_keys.ensures.keys c.args.seed c.args.plan.now.sig_bits c.deref-4.result.now (c.deref-4.ensures.value ∙ c.in_ok-sigs.ensures.signed) in
    omega arith

pub returns-clause-sections : goal.returns-clause-sections
returns-clause-sections g c =
    let list = c.args.keys.now in
    let lines = list.lines in
    let plan = c.args.plan.now in
    let seed = c.args.seed in
    let keys = c.sign_keys.ensures.keys in
    let parts = parts_of plan 0 lines [] in
    let functions = c.in_ok-functions.functions in
    let found = c.in_ok-corrected.corrected.items in
    let m = map_for plan lines seed functions.handles in
    let sigs = c.deref-2.result.now in
    let signed = c.deref-2.ensures.value ∙ c.in_ok-sigs.ensures.signed in
    let nodes = subst (λ ns. AreNodeLists ns c.in_ok-nodes.nodes) (nodes_for plan lines c.in_ok-built.built c.in_ok-built.ensures.built) c.in_ok-nodes.ensures in
    let ordered : in_order entry_before (map (entry_for sigs) c.deref-3.result.now) ≡ signed_corrections (header_for plan lines seed) m (delimiters_for plan lines) (map key_bits lines) =
    ap (λ (l : List Corrected). in_order entry_before (map (entry_for sigs) l)) c.deref-3.ensures.value
    ∙ entries_signed plan seed lines m (delimiters_for plan lines) found c.in_ok-corrected.ensures.value sigs signed in
    let corrections = subst (λ (es : List Entry). AreCorrections es c.in_ok-corrections.corrections) ordered c.in_ok-corrections.ensures in
    let own = subst (AreKindSections Zfast plan lines seed parts) (sym c.in_ok-sections.ensures.items)
    (zfast_done plan list seed c.requires keys functions c.in_ok-nodes.nodes c.in_ok-corrections.corrections c.in_ok-functions.ensures nodes corrections) in
    all_sections Zfast plan lines seed parts c.requires.kind c.in_ok-sections.sections.items c.in_ok-with_signatures.field-0.items own
    (few_lines list.limits lines keys.limits keys.faultless) c.requires.signed c.deref-4.result.now (c.deref-4.ensures.value ∙ c.in_ok-sigs.ensures.signed) c.in_ok-with_signatures.ensures

use Rattle.std.proofs.Common.{◌≡◌, ◌∙◌, List, length, sym, ap, subst, arith}
use Rattle.std.proofs.lemmas.List.{length-map}
use Rattle.std.proofs.lemmas.Result.{err_from_is_err_and}
use Rattle.sx_spec_kinds.specs.declared.Kind.TheVariants.{Func}
use Rattle.sx_spec.specs.declared.Signature.{Signature}
use Rattle.sx_spec.specs.Parts.{least_width, parts_of}
use Rattle.sx_parts.specs.Assembling.{key_signature}
use Rattle.sx_parts.specs.Sectioning.{AreKindSections}
use Rattle.sx_parts.proofs.BuiltDumps.{few_lines}
use Rattle.sx_parts.proofs.KeyParts.{func_done, func_stops}
use Rattle.sx_parts.proofs.PartLists.{stops_out}
use Rattle.sx_parts.proofs.SignedEnds.{all_sections, few_signatures}
use Rattle.sx_assemble.proofs.func.func_sections.Goals as goal

pub build_least-requires-clause-few : goal.build_least-requires-clause-few
build_least-requires-clause-few c =
    let lines = c.args.keys.now.lines in
    let keys = c.sign_keys.ensures.keys in
    let sigs : length c.deref.result.now ≡ length lines = ap (λ (l : List Signature). length l) (c.deref.ensures.value ∙ c.in_ok-sigs.ensures.signed) ∙ length-map lines (key_signature c.args.seed c.args.plan.now.sig_bits) in
    let few = few_lines c.args.keys.now.limits lines keys.limits keys.faultless in
    omega arith

pub returns-in_err-function : goal.returns-in_err-function
returns-in_err-function c =
    let lines = c.args.keys.now.lines in
    let keys = c.sign_keys.ensures.keys in
    let few = few_lines c.args.keys.now.limits lines keys.limits keys.faultless in
    stops_out c.args.plan.now lines c.args.seed (parts_of c.args.plan.now (least_width c.args.values.now) lines c.args.values.now) c.from_residual-in_err-function.result c.in_err-function.field-0.0
    (err_from_is_err_and c.from_residual-in_err-function.result c.from_residual-in_err-function.ensures.1)
    (func_stops lines c.args.values.now c.args.seed c.args.plan.now c.requires.plan c.requires.values few c.deref.result.now (c.deref.ensures.value ∙ c.in_ok-sigs.ensures.signed) c.in_err-function.field-0.0 c.in_err-function.ensures.built)

pub with_signatures-requires-clause-few : goal.with_signatures-requires-clause-few
with_signatures-requires-clause-few c =
    let few = few_signatures c.args.keys.now c.sign_keys.ensures.keys c.args.seed c.args.plan.now.sig_bits c.deref-2.result.now (c.deref-2.ensures.value ∙ c.in_ok-sigs.ensures.signed) in
    omega arith

pub returns : goal.returns
returns c =
    let lines = c.args.keys.now.lines in
    let values = c.args.values.now in
    let plan = c.args.plan.now in
    let seed = c.args.seed in
    let keys = c.sign_keys.ensures.keys in
    let few = few_lines c.args.keys.now.limits lines keys.limits keys.faultless in
    let parts = parts_of plan (least_width values) lines values in
    let own = func_done lines values seed plan c.requires.plan c.requires.values few c.deref.result.now (c.deref.ensures.value ∙ c.in_ok-sigs.ensures.signed) c.in_ok-function.function c.build_least.ensures.narrow c.in_ok-function.ensures.built in
    let before = c.in_ok-sections.sections.items in
    all_sections Func plan lines seed parts c.requires.plan.kind before c.in_ok-with_signatures.field-0.items (subst (AreKindSections Func plan lines seed parts) (sym c.in_ok-sections.ensures.items) own)
    few c.requires.plan.signed c.deref-2.result.now (c.deref-2.ensures.value ∙ c.in_ok-sigs.ensures.signed) c.in_ok-with_signatures.ensures

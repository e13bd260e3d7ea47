use Rattle.std.proofs.Common.{[], map, refl, subst, sym}
use Rattle.std.proofs.lemmas.Result.{err_from_is_err_and}
use Rattle.sx_spec_kinds.specs.declared.Kind.TheVariants.{HollowDist}
use Rattle.sx_spec.specs.Parts.{parts_of}
use Rattle.sx_parts.specs.Assembling.{key_signature}
use Rattle.sx_parts.specs.Sectioning.{AreKindSections}
use Rattle.sx_parts.proofs.BuiltDumps.{few_lines}
use Rattle.sx_assemble.proofs.HollowDistDumps.{dist_done, dist_stops_first, dist_stops_second}
use Rattle.sx_parts.proofs.PartLists.{stops_out}
use Rattle.sx_parts.proofs.SignedEnds.{all_sections}
use Rattle.sx_assemble.proofs.hollow_dist.hollow_dist_sections.Goals as goal

pub returns-in_err-offsets : goal.returns-in_err-offsets
returns-in_err-offsets c =
    let lines = c.args.keys.now.lines in
    let plan = c.args.plan.now in
    let e = c.in_err-offsets.field-0.0 in
    stops_out plan lines c.args.seed (parts_of plan 0 lines []) c.from_residual.result e
    (err_from_is_err_and c.from_residual.result c.from_residual.ensures.1)
    (dist_stops_first plan lines c.args.seed c.requires e c.in_err-offsets.ensures.built)

pub returns-in_err-turns : goal.returns-in_err-turns
returns-in_err-turns c =
    let lines = c.args.keys.now.lines in
    let plan = c.args.plan.now in
    let e = c.in_err-turns.field-0.0 in
    stops_out plan lines c.args.seed (parts_of plan 0 lines []) c.from_residual-in_err-turns.result e
    (err_from_is_err_and c.from_residual-in_err-turns.result c.from_residual-in_err-turns.ensures.1)
    (dist_stops_second plan lines c.args.seed c.requires c.in_ok-offsets.offsets e c.in_ok-offsets.ensures.built c.in_err-turns.ensures.built)

pub returns : goal.returns
returns c =
    let list = c.args.keys.now in
    let lines = list.lines in
    let plan = c.args.plan.now in
    let seed = c.args.seed in
    let keys = c.key_offsets.ensures.keys in
    let parts = parts_of plan 0 lines [] in
    let sums = c.in_ok-left.ensures in
    let own = subst (AreKindSections HollowDist plan lines seed parts) (sym c.in_ok-sections.ensures.items)
    (dist_done plan list seed c.requires keys c.in_ok-left.field-0.left c.in_ok-left.field-0.skip sums.left sums.whole_left sums.skip sums.whole_skip
    c.in_ok-offsets.offsets c.in_ok-turns.turns c.in_ok-offsets.ensures.built c.in_ok-offsets.ensures.narrow c.in_ok-turns.ensures.built c.in_ok-turns.ensures.narrow) in
    all_sections HollowDist plan lines seed parts c.requires.kind c.in_ok-sections.sections.items c.in_ok-with_key_signatures.field-0.items own
    (few_lines list.limits lines keys.limits keys.faultless) c.requires.signed (map (key_signature seed plan.sig_bits) lines) refl c.in_ok-with_key_signatures.ensures

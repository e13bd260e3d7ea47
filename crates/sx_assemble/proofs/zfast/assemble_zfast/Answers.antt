use Rattle.std.proofs.Common.{ap, arith}
use Rattle.sx_spec_kinds.specs.declared.Kind.{Kind}
use Rattle.sx_spec.specs.Reply.{member_numbers}
use Rattle.sx_parts.proofs.BuiltDumps.{all_ranked}
use Rattle.sx_assemble.proofs.ZfastDumps.{zfast_parts_same, zfast_sources}
use Rattle.sx_assemble.proofs.zfast.assemble_zfast.Goals as goal

pub returns-clause-ranked : goal.returns-clause-ranked
returns-clause-ranked g c =
    let list = c.args.keys.now in
    let plan = c.args.plan.now in
    all_ranked list.lines c.args.seed plan (zfast_sources plan list c.args.seed c.requires c.header_of.ensures.keys (omega arith)) (zfast_parts_same plan list.lines c.args.seed c.requires) (λ values. ap (λ (k : Kind). member_numbers k values) c.requires.kind)
    c.zfast_sections-sections.result _ c.finished.result c.zfast_sections-sections.ensures.sections c.header_of.ensures.header c.finished.ensures

use Rattle.std.proofs.Common.{refl, ap, arith}
use Rattle.sx_spec_kinds.specs.declared.Kind.{Kind}
use Rattle.sx_spec_kinds.specs.declared.Kind.TheVariants.{Lcp}
use Rattle.sx_spec.specs.Reply.{member_numbers}
use Rattle.sx_parts.proofs.BuiltDumps.{all_ranked}
use Rattle.sx_assemble.proofs.LcpDumps.{block_sources, lcp_parts_same}
use Rattle.sx_assemble.proofs.lcp.assemble_lcp.Goals as goal

pub returns : goal.returns
returns c =
    let list = c.args.keys.now in
    let plan = c.args.plan.now in
    all_ranked list.lines c.args.seed plan (block_sources Lcp plan list c.args.seed c.requires refl refl c.header_of.ensures.keys (omega arith)) (lcp_parts_same plan list.lines c.args.seed c.requires) (λ values. ap (λ (k : Kind). member_numbers k values) c.requires.kind)
    c.lcp_sections-sections.result _ c.finished.result c.lcp_sections-sections.ensures c.header_of.ensures.header c.finished.ensures

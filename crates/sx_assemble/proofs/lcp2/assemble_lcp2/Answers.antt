use Rattle.std.proofs.Common.{refl, ap, arith}
use Rattle.sx_spec_kinds.specs.declared.Kind.{Kind}
use Rattle.sx_spec_kinds.specs.declared.Kind.TheVariants.{Lcp2}
use Rattle.sx_spec.specs.Reply.{member_numbers}
use Rattle.sx_parts.proofs.BuiltDumps.{all_ranked}
use Rattle.sx_assemble.proofs.Lcp2Dumps.{lcp2_parts_same}
use Rattle.sx_assemble.proofs.LcpDumps.{block_sources}
use Rattle.sx_assemble.proofs.lcp2.assemble_lcp2.Goals as goal

pub returns : goal.returns
returns c =
    let list = c.args.keys.now in
    let plan = c.args.plan.now in
    all_ranked list.lines c.args.seed plan (block_sources Lcp2 plan list c.args.seed c.requires refl refl c.header_of.ensures.keys (omega arith)) (lcp2_parts_same plan list.lines c.args.seed c.requires) (λ values. ap (λ (k : Kind). member_numbers k values) c.requires.kind)
    c.lcp2_sections-sections.result _ c.finished.result c.lcp2_sections-sections.ensures c.header_of.ensures.header c.finished.ensures

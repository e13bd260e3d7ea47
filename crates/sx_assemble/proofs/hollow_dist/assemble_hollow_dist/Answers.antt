use Rattle.std.proofs.Common.{refl, ap, arith}
use Rattle.sx_spec_kinds.specs.declared.Kind.{Kind}
use Rattle.sx_spec_kinds.specs.declared.Kind.TheVariants.{HollowDist}
use Rattle.sx_spec.specs.Reply.{member_numbers}
use Rattle.sx_parts.proofs.BuiltDumps.{all_ranked}
use Rattle.sx_assemble.proofs.HollowDistDumps.{dist_parts_same}
use Rattle.sx_assemble.proofs.LcpDumps.{block_sources}
use Rattle.sx_assemble.proofs.hollow_dist.assemble_hollow_dist.Goals as goal

pub returns : goal.returns
returns c =
    let list = c.args.keys.now in
    let plan = c.args.plan.now in
    all_ranked list.lines c.args.seed plan (block_sources HollowDist plan list c.args.seed c.requires refl refl c.header_of.ensures.keys (omega arith)) (dist_parts_same plan list.lines c.args.seed c.requires) (λ values. ap (λ (k : Kind). member_numbers k values) c.requires.kind)
    c.hollow_dist_sections-sections.result _ c.finished.result c.hollow_dist_sections-sections.ensures c.header_of.ensures.header c.finished.ensures

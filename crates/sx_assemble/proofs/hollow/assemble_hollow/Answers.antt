use Rattle.std.proofs.Common.{Ok, ap, arith}
use Rattle.sx_spec_kinds.specs.declared.Kind.{Kind}
use Rattle.sx_spec.specs.Reply.{member_numbers}
use Rattle.sx_parts.proofs.BuiltDumps.{all_ranked}
use Rattle.sx_assemble.proofs.HollowDumps.{hollow_parts_same, hollow_sources, hollow_whole}
use Rattle.sx_assemble.proofs.hollow.assemble_hollow.Goals as goal

pub finished-requires : goal.finished-requires
finished-requires c =
    let are = hollow_whole c.args.plan.now c.args.keys.now c.args.seed c.requires c.header_of.ensures.keys c.in_ok-sections.sections.items c.in_ok-sections-2.sections.items c.in_ok-sections.ensures c.in_ok-sections-2.ensures in
    are.laid

pub returns : goal.returns
returns c =
    let list = c.args.keys.now in
    let plan = c.args.plan.now in
    let seed = c.args.seed in
    let keys = c.header_of.ensures.keys in
    let sections = c.in_ok-sections-2.sections in
    let are = hollow_whole plan list seed c.requires keys c.in_ok-sections.sections.items sections.items c.in_ok-sections.ensures c.in_ok-sections-2.ensures in
    all_ranked list.lines seed plan (hollow_sources plan list seed c.requires keys (omega arith)) (hollow_parts_same plan list.lines seed c.requires) (λ values. ap (λ (k : Kind). member_numbers k values) c.requires.kind)
    (Ok sections) _ c.finished.result are c.header_of.ensures.header c.finished.ensures

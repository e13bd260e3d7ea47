use Rattle.std.proofs.Common.{refl, arith}
use Rattle.sx_spec.specs.Parts.{least_width}
use Rattle.sx_parts.proofs.BuiltDumps.{AreSources, all_assembled, few_lines}
use Rattle.sx_parts.proofs.KeyParts.{func_header}
use Rattle.sx_parts.proofs.NarrowValues.{least_narrow}
use Rattle.sx_assemble.proofs.func.assemble_func.Goals as goal

pub returns : goal.returns
returns c =
    let lines = c.args.keys.now.lines in
    let values = c.args.values.now in
    let plan = c.args.plan.now in
    let keys = c.header_of.ensures.keys in
    let few = few_lines c.args.keys.now.limits lines keys.limits keys.faultless in
    let sources : AreSources lines values c.args.seed plan = record {
      limits = c.args.keys.now.limits;
      standard = keys.limits;
      faultless = keys.faultless;
      bytes = keys.bytes;
      as_many = c.requires.values;
      seed_small = omega arith;
      plain = c.requires.ranks;
      header = func_header plan lines c.args.seed c.requires.plan few;
    } in
    all_assembled lines values c.args.seed plan sources (least_width values) (least_narrow values (λ i. omega (arith, c.type_inv.values i))) refl
    c.func_sections-sections.result _ c.finished.result c.func_sections-sections.ensures c.header_of.ensures.header c.finished.ensures

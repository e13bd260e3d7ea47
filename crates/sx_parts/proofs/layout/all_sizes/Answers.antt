use Rattle.std.proofs.Common.{length, ap, arith}
use Rattle.std.proofs.lemmas.List.Folds.{length-flat_map-take}
use Rattle.sx_parts.specs.declared.layout.SectionBuf.{SectionBuf}
use Rattle.sx_parts.specs.Sectioning.{held_words}
use Rattle.sx_parts.proofs.layout.all_sizes.Goals as goal

pub size_of-count-requires : goal.size_of-count-requires
size_of-count-requires c =
    let at = ap (λ (s : SectionBuf). length (held_words s)) c.section-item.is in
    let most = length-flat_map-take held_words c.args.sections.now c.loop-section.section-index c.section-item.result c.loop-section-test.true in
    omega (arith, c.requires)

pub overflow_add-count : goal.overflow_add-count
overflow_add-count c =
    let at = ap (λ (s : SectionBuf). length (held_words s)) c.section-item.is in
    let most = length-flat_map-take held_words c.args.sections.now c.loop-section.section-index c.section-item.result c.loop-section-test.true in
    omega (arith, c.requires, c.loop-section.invariant, c.size_of-count.ensures)

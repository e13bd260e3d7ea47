use Rattle.std.proofs.Common.{◌≡◌, List, ap, map, subst, arith, ◌∙◌}
use Rattle.std.specs.List.Sorted.{IsPermutation}
use Rattle.std.proofs.lemmas.List.{take_all}
use Rattle.sx_spec.specs.StaticFunction.{Entry}
use Rattle.sx_assemble.specs.Handling.{entry_for}
use Rattle.sx_assemble.proofs.Corrections.{entries_distinct, sorted_is}
use Rattle.sx_assemble.proofs.zfast.sorted_entries.Goals as goal

pub returns : goal.returns
returns c =
    let sigs = c.args.sigs.now in
    let corrected = c.args.corrected.now in
    let entries : List Entry = map (entry_for sigs) corrected in
    let whole : c.loop-one.entries.items ≡ entries = c.loop-one.invariant ∙ ap (map (entry_for sigs)) (take_all c.loop-one.one-index corrected (omega (arith, c.loop-one-test.false))) in
    sorted_is entries c.sort_unstable.new.self.items
    (subst (λ (l : List Entry). IsPermutation l c.sort_unstable.new.self.items) whole c.sort_unstable.ensures.permutation)
    c.sort_unstable.ensures.sorted
    (entries_distinct sigs corrected c.requires.inside c.requires.rise c.requires.differ)

use Rattle.std.proofs.Common.{◌/◌}
use Rattle.std.proofs.lemmas.List.{get_or_read}
use Rattle.sx_solve.proofs.WordBits.{set_same, set_others}
use Rattle.sx_solve.proofs.bits.set_bit.Goals as goal

pub returns-clause-same : goal.returns-clause-same
returns-clause-same c =
    let words = c.args.words.now.items in
    let read = get_or_read words (c.args.i / 64) c.index_mut.result.now c.requires c.index_mut.ensures.value 0 in
    rw read (set_same words c.args.i c.requires)

pub returns-clause-others : goal.returns-clause-others
returns-clause-others c =
    let words = c.args.words.now.items in
    let read = get_or_read words (c.args.i / 64) c.index_mut.result.now c.requires c.index_mut.ensures.value 0 in
    λ j differ. rw read (set_others words c.args.i c.requires j differ)

use Rattle.std.proofs.Common.{◌≡◌, ◌∙◌, ap, length}
use Rattle.std.proofs.lemmas.List.FromFn.{length-range_with_len}
use Rattle.sux_c.proofs.building.build_list.Goals as goal

pub try_seeds-requires-clause-values : goal.try_seeds-requires-clause-values
try_seeds-requires-clause-values c =
    rw (c.deref.ensures.value, c.in_ok-numbers.ensures) (length-range_with_len 0 _ ∙ c.len.ensures.value)

use Rattle.std.proofs.Common.{◌∙◌, List, length, ap}
use Rattle.std.proofs.lemmas.List.FromFn.{length-range_with_len}
use Rattle.sx_assemble_tests.proofs.ranked_tests.numbered_keys.Goals as goal

pub assembled_under-requires-clause-values : goal.assembled_under-requires-clause-values
assembled_under-requires-clause-values g c =
    ap (λ (l : List _). length l) (c.deref.ensures.value ∙ c.in_ok-values.ensures)
    ∙ length-range_with_len 0 c.len.result
    ∙ c.len.ensures.value

use Rattle.std.proofs.Common.{ℕ, List, ◌%◌, ◌∙◌, length, ap}
use Rattle.std.proofs.lemmas.List.FromFn.{length-map-range_with_len}
use Rattle.sx_spec_kinds.specs.Blocks.{block_size}
use Rattle.sx_assemble.proofs.lcp2.offsets_function.Goals as goal

pub build_least-requires-clause-numbers : goal.build_least-requires-clause-numbers
build_least-requires-clause-numbers c =
    ap (λ (l : List ℕ). length l) (c.deref.ensures.value ∙ c.in_ok-numbers.ensures)
    ∙ length-map-range_with_len (λ (i : ℕ). i % block_size c.args.plan.now.log_bucket) 0 (length c.args.sigs.now)

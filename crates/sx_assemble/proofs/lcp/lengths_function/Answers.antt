use Rattle.std.proofs.Common.{ℕ, List, ◌+◌, ◌*◌, ◌%◌, ◌∙◌, length, ap}
use Rattle.std.specs.List.{enumerate_from}
use Rattle.std.proofs.lemmas.List.{length-map}
use Rattle.std.proofs.lemmas.List.FromFn.{length-enumerate_from}
use Rattle.sx_spec_kinds.specs.Blocks.{block_size}
use Rattle.sx_parts.specs.Ranking.{length_numbers}
use Rattle.sx_assemble.proofs.lcp.lengths_function.Goals as goal

pub build_least-requires-clause-numbers : goal.build_least-requires-clause-numbers
build_least-requires-clause-numbers c =
    let b = block_size c.args.plan.now.log_bucket in
    let lens = c.args.lengths.items in
    ap (λ (l : List ℕ). length l) (c.deref-2.ensures.value ∙ c.in_ok-numbers.ensures)
    ∙ (λ i. length (length_numbers b (c.deref.ensures.value i)))
    ∙ length-map (enumerate_from 0 lens) (λ (t : ℕ × ℕ). t.0 % b + b * t.1)
    ∙ length-enumerate_from 0 lens
    ∙ c.requires.numbers

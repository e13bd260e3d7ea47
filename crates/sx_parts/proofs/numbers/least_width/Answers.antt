use Rattle.std.proofs.Common.{ap, ◌∙◌, List, ℕ}
use Rattle.std.specs.Prelude.{fold, max}
use Rattle.std.proofs.lemmas.List.{take_all}
use Rattle.sx_spec_strings.specs.Numbers.{binary_digits}
use Rattle.sx_parts.proofs.numbers.least_width.Goals as goal

pub returns-clause-value : goal.returns-clause-value
returns-clause-value c =
    c.binary_digits.ensures.value
    ∙ ap binary_digits (c.loop-value.invariant.greatest ∙ ap (λ (l : List ℕ). fold max 0 l) (take_all c.loop-value.value-index c.args.values.now c.loop-value-test.false))

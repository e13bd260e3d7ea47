use Rattle.std.proofs.Common.{ap, ◌∙◌, List, ℕ}
use Rattle.std.specs.Prelude.{fold, max}
use Rattle.std.proofs.lemmas.List.{take_all}
use Rattle.sx_spec_strings.specs.Numbers.{binary_digits}
use Rattle.sx_parts.proofs.numbers.narrow_width.Goals as goal

pub returns-clause-value : goal.returns-clause-value
returns-clause-value c =
    c.binary_digits.ensures.value
    ∙ ap binary_digits (c.from.ensures ∙ c.loop-number.invariant.greatest ∙ ap (λ (l : List ℕ). fold max 0 l) (take_all c.loop-number.number-index c.args.numbers.now c.loop-number-test.false))

use Rattle.std.proofs.Common.{ap, ◌∙◌, List, ℕ, arith}
use Rattle.std.specs.Prelude.{fold, max}
use Rattle.std.proofs.lemmas.List.{take_all}
use Rattle.sx_spec_strings.specs.Numbers.{binary_digits}
use Rattle.sx_spec_strings.proofs.NumberLaws.{digits_least}
use Rattle.sx_lcp.proofs.codes.width.Goals as goal

pub returns-clause-value : goal.returns-clause-value
returns-clause-value c =
    c.binary_digits.ensures.value
    ∙ ap binary_digits (c.from.ensures ∙ c.loop-value.invariant.greatest ∙ ap (λ (l : List ℕ). fold max 0 l) (take_all c.loop-value.value-index c.args.values.now c.loop-value-test.false))

pub returns-clause-bound : goal.returns-clause-bound
returns-clause-bound c =
    let is = c.binary_digits.ensures.value in
    let same = ap binary_digits c.from.ensures in
    let few = digits_least c.loop-value.greatest 32 c.loop-value.invariant.small in
    omega arith

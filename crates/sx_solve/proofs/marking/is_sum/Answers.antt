use Rattle.sx_solve.proofs.Added.{no_sum, sum_iff}
use Rattle.sx_solve.proofs.marking.is_sum.Goals as goal

pub returns-then-value-eq0 : goal.returns-then-value-eq0
returns-then-value-eq0 c = (
  λ yes. absurd cc,
  λ is. absurd (no_sum c.args.eqs.now c.args.marks.now c.add_marked-value.new.odd c.add_marked-value.result c.add_marked-value.ensures.value c.add_marked-value.ensures.odd c.if-value-eq0.true is),
)

pub returns : goal.returns
returns c =
    let iff = sum_iff c.args.eqs.now c.args.marks.now c.add_marked-value.new.odd c.add_marked-value.result c.add_marked-value.ensures.value c.add_marked-value.ensures.odd c.if-value-eq0.false in
    (λ yes. iff.0 (c.all_even.ensures.0 yes), λ is. c.all_even.ensures.1 (iff.1 is))

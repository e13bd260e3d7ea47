use Rattle.std.proofs.Common.{◌++◌, ◌∷◌, [], cond, ap, sym, ◌∙◌}
use Rattle.std.specs.Prelude.{◌==◌}
use Rattle.sx_solve.specs.Rows.{bit}
use Rattle.sx_solve.proofs.Chosen.{marked_more}
use Rattle.sx_solve.proofs.rows.numbers_of.Goals as goal

pub loop-number-preserved : goal.loop-number-preserved
loop-number-preserved c =
    let n = c.loop-number.number in
    c.in_ok-push_where.ensures
    ∙ ap (λ b. c.loop-number.numbers.items ++ cond b (n ∷ []) []) c.test_bit.ensures
    ∙ ap (λ xs. xs ++ cond (bit c.args.set.now n == 1) (n ∷ []) []) c.loop-number.invariant
    ∙ sym (marked_more (λ i. bit c.args.set.now i == 1) n)

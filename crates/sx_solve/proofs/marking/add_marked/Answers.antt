use Rattle.std.proofs.Common.{◌+◌, ◌%◌, cond, get_or, ap, ◌∙◌, arith}
use Rattle.std.specs.Prelude.{bit_xor}
use Rattle.sx_spec.specs.declared.Equation.{Equation}
use Rattle.sx_spec.specs.Systems.{count_of, unknowns, vertices}
use Rattle.sx_solve.proofs.Added.{added_times, added_value}
use Rattle.sx_solve.proofs.marking.add_marked.Goals as goal

pub loop-number-preserved : goal.loop-number-preserved
loop-number-preserved c =
    let eqs = c.args.eqs.now in
    let words = c.args.marks.now in
    let i = c.loop-number.number in
    let d : Equation = record { a = 0; b = 0; c = 0; value = 0 } in
    let q = get_or eqs i d in
    record {
      value =
          ap (bit_xor c.loop-number.value) (c.add_where-value.ensures.value ∙ ap (λ b. cond b q.value 0) c.test_bit.ensures)
          ∙ added_value words eqs i d c.loop-number.value (omega arith) c.loop-number.invariant.value;
      odd = λ v.
          added_times words eqs i d v (get_or c.loop-number.odd v 0) (get_or c.add_where-value.new.odd v 0) (omega arith) (c.loop-number.invariant.odd v)
          (c.add_where-value.ensures.odd v ∙ ap (λ b. (get_or c.loop-number.odd v 0 + cond b (count_of v (vertices (unknowns q))) 0) % 2) c.test_bit.ensures);
    }

use Rattle.std.proofs.Common.{◌∙◌, ◌+◌, ◌-◌, ◌++◌, ℕ, List, length, take, get_or, set, replicate, ap, sym, arith}
use Rattle.std.proofs.lemmas.List.{length-take-le, take_more}
use Rattle.sx_parts.proofs.Layouts.{zero_set}
use Rattle.sx_parts.proofs.layout.packed_list.Goals as goal

pub loop-i-preserved : goal.loop-i-preserved
loop-i-preserved c =
    let list = c.args.numbers.now in
    let i = c.loop-i.i in
    let y = get_or list i 0 in
    record {
      width = c.set.ensures.width ∙ c.loop-i.invariant.width;
      items = c.set.ensures.items
          ∙ ap (λ (xs : List ℕ). set xs i y) c.loop-i.invariant.items
          ∙ zero_set (take i list) y (length list) i (length-take-le i list (omega (arith, c.loop-i-test.true))) c.loop-i-test.true
          ∙ ap (λ (xs : List ℕ). xs ++ replicate (length list - (i + 1)) 0) (sym (take_more list i 0 c.loop-i-test.true));
    }

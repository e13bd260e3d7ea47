use Rattle.std.proofs.Common.{ℕ, arith, ◌∙◌, ap, ◌++◌, ◌∷◌, [], get_or, sym, refl, List}
use Rattle.sx_static.proofs.Numbers.{chosen_more}
use Rattle.sx_static.proofs.chunk.values_at.Goals as goal

pub loop-number-preserved : goal.loop-number-preserved
loop-number-preserved c =
    let i = c.loop-number.number-index in
    let values = c.args.values.now in
    let numbers = c.args.numbers.now in
    let next : ℕ = get_or values (get_or numbers i 0) 0 in
    c.in_ok-push.ensures.items
    ∙ ap (λ (xs : List ℕ). xs ++ next ∷ []) c.loop-number.invariant
    ∙ sym (chosen_more values numbers i 0 next 0 (omega arith) (c.requires.within i 0 (omega arith)) refl)

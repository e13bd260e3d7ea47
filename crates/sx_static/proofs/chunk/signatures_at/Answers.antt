use Rattle.std.proofs.Common.{arith, ◌∙◌, ap, ◌++◌, ◌∷◌, [], get_or, sym, refl, List}
use Rattle.sx_spec.specs.declared.Signature.{Signature}
use Rattle.sx_static.proofs.Numbers.{chosen_more}
use Rattle.sx_static.proofs.chunk.signatures_at.Goals as goal

pub loop-number-preserved : goal.loop-number-preserved
loop-number-preserved c =
    let none : Signature = record { w0 = 0; w1 = 0; w2 = 0 } in
    let i = c.loop-number.number-index in
    let sigs = c.args.sigs.now in
    let numbers = c.args.numbers.now in
    let next : Signature = get_or sigs (get_or numbers i 0) none in
    c.in_ok-push.ensures.items
    ∙ ap (λ (xs : List Signature). xs ++ next ∷ []) c.loop-number.invariant
    ∙ sym (chosen_more sigs numbers i 0 next none (omega arith) (c.requires.within i 0 (omega arith)) refl)

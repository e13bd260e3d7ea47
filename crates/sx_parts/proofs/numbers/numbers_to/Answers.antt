use Rattle.std.proofs.Common.{◌≡◌, ◌+◌, sym, ap, ◌∙◌, arith, ℕ, List, ◌++◌, ◌∷◌, []}
use Rattle.std.specs.List.{range_with_len}
use Rattle.sx_parts.proofs.KeyPairs.{range_more}
use Rattle.sx_parts.proofs.numbers.numbers_to.Goals as goal

pub loop-i-preserved : goal.loop-i-preserved
loop-i-preserved c =
    let e : 0 + c.loop-i.i ≡ c.loop-i.i = omega arith in
    c.in_ok-push.ensures.items
    ∙ ap (λ (l : List ℕ). l ++ c.from.result ∷ []) c.loop-i.invariant
    ∙ ap (λ (n : ℕ). range_with_len 0 c.loop-i.i ++ n ∷ []) (c.from.ensures ∙ sym e)
    ∙ sym (range_more 0 c.loop-i.i)

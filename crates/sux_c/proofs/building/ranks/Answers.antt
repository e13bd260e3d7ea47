use Rattle.std.proofs.Common.{◌≡◌, ◌+◌, sym, ap, ◌∙◌, arith, ℕ, List, ◌++◌, ◌∷◌, []}
use Rattle.sx_spec_strings.proofs.Lists.{range_more}
use Rattle.sx_spec.specs.Values.{plain_values}
use Rattle.sux_c.proofs.building.ranks.Goals as goal

pub loop-i-preserved : goal.loop-i-preserved
loop-i-preserved c =
    let e : 0 + c.loop-i.i ≡ c.loop-i.i = omega arith in
    c.in_ok-push.ensures.items ∙ ap (λ (l : List ℕ). l ++ c.from.result ∷ []) c.loop-i.invariant ∙ ap (λ (n : ℕ). plain_values c.loop-i.i ++ n ∷ []) (c.from.ensures ∙ sym e) ∙ sym (range_more 0 c.loop-i.i)

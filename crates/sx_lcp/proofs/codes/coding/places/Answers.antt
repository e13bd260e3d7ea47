use Rattle.std.proofs.Common.{ℕ, Option, Some, None, ◌==◌, if◌then◌else◌, ap, sym, ◌∙◌, get_or, arith}
use Rattle.std.specs.Option.{option_or}
use Rattle.std.proofs.lemmas.Grind.{common_steps}
use Rattle.sx_lcp.proofs.Placing.{place_none, place_more}
use Rattle.sx_lcp.proofs.codes.coding.places.Goals as goal

pub loop-place-init : goal.loop-place-init
loop-place-init c = λ q. grind (arith, common_steps, place_none q)

pub loop-place-preserved : goal.loop-place-preserved
loop-place-preserved c = λ q.
    let table = c.args.table.now in
    let i = c.loop-place.place in
    c.in_ok-put_place.ensures q
    ∙ ap (λ (o : Option ℕ). option_or o (if get_or table i 0 == q then Some i else None)) (c.loop-place.invariant q)
    ∙ sym (place_more table i q (omega arith))

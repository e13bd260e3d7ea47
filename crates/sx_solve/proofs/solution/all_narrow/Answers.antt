use Rattle.std.proofs.Common.{◌<◌, ◌^◌, All}
use Rattle.std.proofs.lemmas.Grind.{get_or_default_zero}
use Rattle.sx_solve.proofs.Narrow.{narrow_iff}
use Rattle.sx_solve.proofs.solution.all_narrow.Goals as goal

pub returns : goal.returns
returns c =
    let cells = c.args.cells.now in
    let small : All (λ x. x < 2 ^ 64) cells = λ i d within. rw (get_or_default_zero cells i d within) (c.type_inv.cells i).fits in
    let iff = narrow_iff c.args.greatest cells c.ranges.greatest.fits small in
    (λ yes. iff.0 (c.all_lead.ensures.0 yes), λ narrow. c.all_lead.ensures.1 (iff.1 narrow))

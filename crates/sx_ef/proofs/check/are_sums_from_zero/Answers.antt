use Rattle.std.proofs.Common.{◌∙◌, length, get_or, ap, sym}
use Rattle.std.specs.Prelude.{◌==◌, ◌&&◌}
use Rattle.std.specs.Int.{bit_at}
use Rattle.sx_spec.specs.Fields.{words_number}
use Rattle.sx_ef.proofs.Sections.{sums_test}
use Rattle.sx_ef.proofs.check.are_sums_from_zero.Goals as goal

pub returns-then-are_sums : goal.returns-then-are_sums
returns-then-are_sums g c =
    let x = words_number c.args.upper.now in
    let lows = g.F.Fields.items c.args.low.now in
    let zero = bit_at x 0 == 1 && get_or lows 0 0 == 0 in
    c.starts_at_zero.ensures
    ∙ ap (λ b. b && zero) (sym c.if-are_sums.true ∙ c.are_sums.ensures)
    ∙ sums_test (length lows) c.args.below (g.F.Fields.bits c.args.low.now) c.args.bits x lows c.requires.low c.requires.low

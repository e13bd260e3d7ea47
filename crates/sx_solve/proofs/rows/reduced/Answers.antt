use Rattle.std.proofs.Common.{◌≡◌, get_or, refl, sym, subst, ◌∙◌, Some}
use Rattle.std.proofs.lemmas.Option.{slice_get-get_or}
use Rattle.sx_spec.specs.declared.Equation.{Equation}
use Rattle.sx_spec.specs.Systems.{cells_at, unknowns}
use Rattle.sx_solve.specs.declared.rows.Row.{Row}
use Rattle.sx_solve.proofs.Sums.{equation_is_row}
use Rattle.sx_solve.proofs.rows.reduced.Goals as goal

pub returns-clause-sum : goal.returns-clause-sum
returns-clause-sum c =
    let eqs = c.args.eqs.now in
    let d : Equation = record { a = 0; b = 0; c = 0; value = 0 } in
    let q = get_or eqs c.args.number d in
    let r : Row = record { unknowns = c.in_ok-unknowns.unknowns; set = c.in_ok-set.set; value = q.value; pivot = 0 } in
    c.reduce.ensures.sum eqs c.requires.rows.sums
    (equation_is_row eqs c.args.number d r c.requires.number c.in_ok-unknowns.ensures.bits c.in_ok-set.ensures.same c.in_ok-set.ensures.others refl)

pub returns-clause-meets : goal.returns-clause-meets
returns-clause-meets c =
    let eqs = c.args.eqs.now in
    let d : Equation = record { a = 0; b = 0; c = 0; value = 0 } in
    λ cells room all met q at.
    let first = c.reduce.ensures.meets cells all met in
    let both : Some (get_or eqs c.args.number d) ≡ Some q = sym (slice_get-get_or eqs c.args.number d c.requires.number) ∙ at in
    let same : get_or eqs c.args.number d ≡ q = cc in
    subst (λ (p : Equation). cells_at cells (unknowns p) ≡ p.value) same (sym (c.in_ok-unknowns.ensures.xor cells room) ∙ first)

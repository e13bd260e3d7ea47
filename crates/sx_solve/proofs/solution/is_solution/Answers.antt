use Rattle.std.proofs.Common.{◌≡◌, ◌<◌, ◌^◌, ℕ, refl}
use Rattle.std.proofs.lemmas.List.Elements.{recursion_from_All, All-from_recursion}
use Rattle.sx_spec.specs.declared.Equation.{Equation}
use Rattle.sx_spec.specs.Systems.{cells_at, unknowns}
use Rattle.sx_solve.proofs.solution.is_solution.Goals as goal

pub returns : goal.returns
returns c =
    let eqs = c.args.eqs.now in
    let cells = c.args.cells.now in
    let IsBelow : ℕ → Equation → Type 0 = λ k q. q.value < 2 ^ k in
    let IsMet : Equation → Type 0 = λ q. cells_at cells (unknowns q) ≡ q.value in (
      λ yes. record {
        count = c.if-cells-vars.false;
        solves = recursion_from_All IsMet eqs (c.if-not-all_met.ensures.0 refl);
        narrow = λ k small. recursion_from_All (λ x. x < 2 ^ k) cells (c.all_narrow.ensures.0 yes k ((c.greatest_value.ensures k).1 (All-from_recursion (IsBelow k) eqs small)));
      },
      λ is. c.all_narrow.ensures.1 (λ k above.
          All-from_recursion (λ x. x < 2 ^ k) cells (is.narrow k (recursion_from_All (IsBelow k) eqs ((c.greatest_value.ensures k).0 above)))),
    )

use Rattle.std.proofs.Common.{ℕ, Bool, ◌∷◌, ◌++◌, [], sym, ap, ◌∙◌}
use Rattle.std.specs.Prelude.{◌==◌}
use Rattle.sx_spec.specs.Systems.{count_of}
use Rattle.sx_peel.specs.Peeling.{taken_edges}
use Rattle.sx_peel.proofs.Left.{found_more, passed_over, is_left}
use Rattle.sx_peel.proofs.peeling.edges_left.Goals as goal
use Rattle.sx_peel.proofs.peeling.edges_left.Goals.{then-is_some+in_ok-push, else-is_some}

pub loop-number-preserved : goal.loop-number-preserved
loop-number-preserved c order linked =
    let n = c.loop-number.number in
    let p : ℕ → Bool = λ i. count_of i (taken_edges order) == 0 in
    let is = is_left c.args.edges.now c.args.links.now order n c.requires.within linked c.loop-number-test.true c.list_of.result c.list_of.ensures in
    let before = c.loop-number.invariant order linked in
    elim c.if-is_some.branch [
      | then-is_some+in_ok-push w ↦
          ap (λ v. v.items) w.left-is ∙ w.in_ok-push.ensures.items ∙ ap (λ ns. ns ++ n ∷ []) before
          ∙ sym (found_more p n (sym is ∙ sym c.is_some.ensures ∙ w.if-is_some.true))
      | else-is_some w ↦
          ap (λ v. v.items) w.left-is ∙ before
          ∙ sym (passed_over p n (sym is ∙ sym c.is_some.ensures ∙ w.if-is_some.false))
    ]

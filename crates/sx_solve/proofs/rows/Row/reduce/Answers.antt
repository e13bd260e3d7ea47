use Rattle.std.proofs.Common.{◌≡◌, ◌<◌, length, get_or, sym, ap, subst, ◌∙◌, arith, inl, inr}
use Rattle.std.proofs.lemmas.Bool.{cases_lt}
use Rattle.std.proofs.lemmas.List.{get_or_default}
use Rattle.sx_solve.specs.declared.rows.Row.{Row}
use Rattle.sx_solve.specs.Rows.{bit, Meets, IsRow}
use Rattle.sx_solve.proofs.rows.Row.reduce.Goals as goal

pub loop-row-preserved : goal.loop-row-preserved
loop-row-preserved c =
    let rows = c.args.rows.now in
    let i = c.loop-row.row-index in
    let row = c.row-item.result in
    let is = c.row-item.is in
    let words = c.loop-row.invariant.words in
    let inside : i < length rows = omega arith in
    record {
      words = record {
        unknowns = c.clear.ensures.words.unknowns ∙ words.unknowns;
        set = c.clear.ensures.words.set ∙ words.set;
      };
      sum = λ equations sums start. c.clear.ensures.sum equations (subst (IsRow equations) (sym is) (sums i row inside)) (c.loop-row.invariant.sum equations sums start);
      meets = λ cells all met. c.loop-row.invariant.meets cells all (c.clear.ensures.meets cells (subst (Meets cells) (sym is) (all i row inside)) met);
      cleared = λ j d low. elim (cases_lt j i) [
        | inl before ↦
            let off : bit row.unknowns.items (get_or rows j row).pivot ≡ 0 = subst (λ (r : Row). bit r.unknowns.items (get_or rows j row).pivot ≡ 0) (sym is) (c.requires.steps.later j i row before inside) in
            let same : get_or rows j row ≡ get_or rows j d = get_or_default rows j row d (omega arith) in
            subst (λ (r : Row). bit c.clear.new.self.unknowns.items r.pivot ≡ 0) same
            (c.clear.ensures.others (get_or rows j row).pivot off ∙ c.loop-row.invariant.cleared j row before)
        | inr from ↦
            let here : j ≡ i = omega arith in
            let same : row ≡ get_or rows j d = is ∙ get_or_default rows i row d inside ∙ ap (λ n. get_or rows n d) (sym here) in
            subst (λ (r : Row). bit c.clear.new.self.unknowns.items r.pivot ≡ 0) same c.clear.ensures.cleared
      ];
    }

use Rattle.std.proofs.Common.{◌≡◌, ◌≢◌, ◌≤◌, ◌+◌, ◌==◌, if◌then◌else◌, ℕ, Option, Some, ap, sym, ◌∙◌, get_or, nat_eq, unwrap_or, take, arith}
use Rattle.std.specs.HashMap.{get}
use Rattle.sx_spec_kinds.specs.TwoStep.{frequency}
use Rattle.sx_lcp.proofs.Runs.{counted, counted_some, run_begun, run_few, run_more}
use Rattle.sx_lcp.proofs.codes.ranking.counts.Goals as goal
use Rattle.sx_lcp.proofs.codes.ranking.counts.Goals.{then-value-current+in_ok-add_run, else-value-current}

pub overflow_add-run : goal.overflow_add-run
overflow_add-run c =
    let values = c.args.values.now in
    let i = c.loop-value.value-index in
    let before = c.loop-value in
    let few : before.run ≤ i = run_few values i (unwrap_or (get nat_eq before.counts before.current) 0) before.current before.run (before.invariant.counts before.current) in
    let run : c.if-value-current.run ≤ i =
    elim c.if-value-current.branch [
      | then-value-current+in_ok-add_run w ↦ let e = w.run-is in omega arith
      | else-value-current w ↦ let e = w.run-is in omega arith
    ] in
    omega (arith, c.requires, c.loop-value-test.true)

pub loop-value-preserved : goal.loop-value-preserved
loop-value-preserved c =
    let values = c.args.values.now in
    let i = c.loop-value.value-index in
    let v = get_or values i 0 in
    let before = c.loop-value in
    let after = c.if-value-current in
    let value : after.current ≡ v =
    elim c.if-value-current.branch [
      | then-value-current+in_ok-add_run w ↦ w.current-is
      | else-value-current w ↦ w.current-is ∙ sym w.if-value-current.false
    ] in
    let kept : (q : ℕ) → unwrap_or (get nat_eq after.counts q) 0 + (if after.current == q then after.run else 0) ≡ frequency (take i values) q = λ q.
    elim c.if-value-current.branch [
      | then-value-current+in_ok-add_run w ↦
          run_begun (unwrap_or (get nat_eq after.counts q) 0) (frequency (take i values) q) after.current after.run q
          (ap (λ m. unwrap_or (get nat_eq m q) 0) w.counts-is
          ∙ ap (λ (o : Option ℕ). unwrap_or o 0) (w.in_ok-add_run.ensures q)
          ∙ counted (get nat_eq before.counts q) (if before.current == q then before.run else 0)
          ∙ before.invariant.counts q)
          w.run-is
      | else-value-current w ↦
          (λ j. unwrap_or (get nat_eq (w.counts-is j) q) 0 + (if w.current-is j == q then w.run-is j else 0)) ∙ before.invariant.counts q
    ] in
    let some : (q : ℕ) → get nat_eq after.counts q ≢ Some 0 = λ q.
    elim c.if-value-current.branch [
      | then-value-current+in_ok-add_run w ↦
          λ e.
          counted_some (get nat_eq before.counts q) (if before.current == q then before.run else 0) (before.invariant.some q)
          (sym (ap (λ m. get nat_eq m q) w.counts-is ∙ w.in_ok-add_run.ensures q) ∙ e)
      | else-value-current w ↦ λ e. before.invariant.some q (sym (ap (λ m. get nat_eq m q) w.counts-is) ∙ e)
    ] in
    record {
      counts = λ q. run_more values i (unwrap_or (get nat_eq after.counts q) 0) after.current after.run q c.loop-value-test.true value (kept q);
      some = some;
    }

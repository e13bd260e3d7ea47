use Rattle.std.proofs.Common.{ℕ, Vec, Global, ap, sym, ◌∙◌, get_or, arith}
use Rattle.std.proofs.lemmas.Bool.{eq-eqb, ne_eqb}
use Rattle.std.proofs.lemmas.List.{append-nil}
use Rattle.sx_lcp.specs.Rankings.{numbers_from}
use Rattle.sx_lcp.proofs.Placing.{numbers_step, numbers_end}
use Rattle.sx_lcp.proofs.codes.coding.escaped_by.Goals as goal
use Rattle.sx_lcp.proofs.codes.coding.escaped_by.Goals.{then-code-last+in_ok-push, else-code-last}

pub loop-number-preserved : goal.loop-number-preserved
loop-number-preserved c =
    let codes = c.args.codes.now in
    let last = c.args.last in
    let i = c.loop-number.number in
    let held = c.loop-number.escaped.items in
    numbers_step last i codes held c.if-code-last.escaped.items (numbers_from last 0 codes) (omega arith) c.loop-number.invariant
    (elim c.if-code-last.branch [
      | then-code-last+in_ok-push w ↦
          let same = eq-eqb (get_or codes i 0) last w.if-code-last.true in
          rw same (ap (λ (v : Vec ℕ Global). v.items) w.escaped-is ∙ w.in_ok-push.ensures.items)
      | else-code-last w ↦
          let differ = ne_eqb (get_or codes i 0) last w.if-code-last.false in
          rw differ (ap (λ (v : Vec ℕ Global). v.items) w.escaped-is ∙ sym (append-nil held))
    ])

pub returns : goal.returns
returns c =
    numbers_end c.args.last c.loop-number.number c.args.codes.now c.loop-number.escaped.items (numbers_from c.args.last 0 c.args.codes.now) (omega arith) c.loop-number.invariant

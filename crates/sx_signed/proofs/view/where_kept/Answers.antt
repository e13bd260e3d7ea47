use Rattle.std.proofs.Common.{ℕ, List, drop, arith}
use Rattle.sx_spec.specs.Fields.{fields}
use Rattle.sx_signed.proofs.Lookups.{place_there, place_of_other, place_past_end}
use Rattle.sx_signed.proofs.view.where_kept.Goals as goal
use Rattle.sx_signed.proofs.view.where_kept.Goals.{else-place-len-via-then-place-len+else-agrees, else-place-len-via-else-place-len}

pub returns-then-agrees-clause-value : goal.returns-then-agrees-clause-value
returns-then-agrees-clause-value g c =
    let v = c.args.kept.now in
    let items : List ℕ = fields v.width v.len (drop v.first (g.B.WordBank.words_of v.bank)) in
    place_there items v.width c.args.sig.now c.args.place c.agrees.result (omega arith) c.agrees.ensures.value c.if-agrees.true

pub returns-else-place-len-clause-value : goal.returns-else-place-len-clause-value
returns-else-place-len-clause-value g c =
    let v = c.args.kept.now in
    let items : List ℕ = fields v.width v.len (drop v.first (g.B.WordBank.words_of v.bank)) in
    elim c.else-place-len.branch [
      | else-place-len-via-then-place-len+else-agrees w ↦ place_of_other items v.width c.args.sig.now c.args.place w.agrees.result (omega arith) w.agrees.ensures.value w.if-agrees.false
      | else-place-len-via-else-place-len w ↦ place_past_end items v.width c.args.sig.now c.args.place (omega arith)
    ]

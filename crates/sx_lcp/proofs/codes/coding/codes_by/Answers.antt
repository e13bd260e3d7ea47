use Rattle.std.proofs.Common.{◌≡◌, ℕ, Option, ap, sym, ◌∙◌, get_or, unwrap_or, arith}
use Rattle.std.proofs.lemmas.List.{map_more}
use Rattle.sx_spec_kinds.specs.TwoStep.{code_of}
use Rattle.sx_lcp.specs.Rankings.{place_in}
use Rattle.sx_lcp.proofs.Placing.{code_by_place}
use Rattle.sx_lcp.proofs.codes.coding.codes_by.Goals as goal
use Rattle.sx_lcp.proofs.codes.coding.codes_by.Goals.{then-value-known, else-value-known}

pub loop-value-init : goal.loop-value-init
loop-value-init c =
    let table = c.args.table.now in
    let bits = c.args.bits in
    record {
      codes = c.in_ok-codes.ensures.items;
      known = c.code_at-code.ensures
          ∙ ap (λ (o : Option ℕ). unwrap_or o c.last_code-last.result) (c.in_ok-places.ensures 0)
          ∙ ap (λ n. unwrap_or (place_in table 0) n) c.last_code-last.ensures
          ∙ code_by_place table bits 0;
    }

pub loop-value-preserved : goal.loop-value-preserved
loop-value-preserved c =
    let table = c.args.table.now in
    let bits = c.args.bits in
    let values = c.args.values.now in
    let i = c.loop-value.value-index in
    let v = get_or values i 0 in
    let value : c.if-value-known.known ≡ v =
    elim c.if-value-known.branch [
      | then-value-known w ↦ w.known-is
      | else-value-known w ↦ w.known-is ∙ sym w.if-value-known.false
    ] in
    let code : c.if-value-known.code ≡ code_of table bits v =
    elim c.if-value-known.branch [
      | then-value-known w ↦
          w.code-is
          ∙ w.code_at-code-then-value-known.ensures
          ∙ ap (λ (o : Option ℕ). unwrap_or o c.last_code-last.result) (c.in_ok-places.ensures v)
          ∙ ap (λ n. unwrap_or (place_in table v) n) c.last_code-last.ensures
          ∙ code_by_place table bits v
      | else-value-known w ↦
          w.code-is ∙ c.loop-value.invariant.known ∙ ap (code_of table bits) (sym w.if-value-known.false)
    ] in
    let more = map_more (code_of table bits) values i 0 (omega arith) in
    record { codes = cc (c.in_ok-push.ensures.items, c.loop-value.invariant.codes, more, code); known = code ∙ sym (ap (code_of table bits) value) }

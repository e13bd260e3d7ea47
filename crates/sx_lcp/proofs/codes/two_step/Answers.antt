use Rattle.std.proofs.Common.{◌≡◌, ℕ, ◌-◌, ◌^◌, ◌∙◌, List, length, map, take, ap, arith}
use Rattle.std.specs.declared.cmp.Reverse.{Reverse}
use Rattle.sx_spec_kinds.specs.TwoStep.{TwoStep, code_of}
use Rattle.sx_lcp.specs.Rankings.{value_at, numbers_from}
use Rattle.sx_lcp.proofs.Costing.{table_is}
use Rattle.sx_lcp.proofs.Placing.{two_step_is}
use Rattle.sx_lcp.proofs.Ranks.{table_few}
use Rattle.sx_lcp.proofs.codes.two_step.Goals as goal

pub codes_by-requires-clause-few : goal.codes_by-requires-clause-few
codes_by-requires-clause-few c =
    let few = table_few c.args.values.now (2 ^ c.best_bits-bits.result - 1) c.deref-2.result.now c.in_ok-table.table.items (c.deref-2.ensures.value ∙ c.in_ok-ranked.ensures) c.in_ok-table.ensures in
    let same : length c.deref-3.result.now ≡ length c.in_ok-table.table.items = ap (λ (l : List ℕ). length l) c.deref-3.ensures.value in
    omega arith

pub returns : goal.returns
returns c =
    let values = c.args.values.now in
    let bits = c.best_bits-bits.result in
    let t : TwoStep = record {
      bits = bits;
      table = c.in_ok-table.table.items;
      codes = c.in_ok-codes.codes.items;
      escaped = c.in_ok-escaped.escaped.items;
    } in
    two_step_is values t
    c.best_bits-bits.ensures.value
    (c.in_ok-table.ensures ∙ ap (λ (l : List (Reverse ℕ × ℕ)). map value_at (take (2 ^ bits - 1) l)) (c.deref-2.ensures.value ∙ c.in_ok-ranked.ensures) ∙ table_is values bits)
    (c.in_ok-codes.ensures ∙ ap (λ (l : List ℕ). map (code_of l bits) values) c.deref-3.ensures.value)
    (c.in_ok-escaped.ensures ∙ ap (λ (l : List ℕ). numbers_from c.last_code.result 0 l) c.deref-4.ensures.value ∙ ap (λ n. numbers_from n 0 t.codes) c.last_code.ensures)

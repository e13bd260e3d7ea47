-- Numbers set from the last row to the first: a pivot that no later row has leaves the later rows met.
use Rattle.std.proofs.Common.{◌≡◌, ℕ, ◌+◌, ◌*◌, ◌^◌, ◌<◌, ◌≤◌, List, length, get_or, set, sym, ap, subst, ◌∙◌, arith, All, inl, inr, zero-add}
use Rattle.std.specs.Prelude.{bit_xor}
use Rattle.std.specs.Int.Bits.{xor_assoc, xor_self, xor_zero_r}
use Rattle.std.proofs.lemmas.Bool.{cases_eq}
use Rattle.std.proofs.lemmas.List.{get_or_default}
use Rattle.std.proofs.lemmas.List.Elements.{All-set, recursion_from_All}
use Rattle.std.proofs.lemmas.Nat.{xor_comm, xor_lt}
use Rattle.sx_solve.specs.declared.rows.Row.{Row}
use Rattle.sx_solve.specs.Rows.{bit, xor_by, AreSteps, Meets}
use Rattle.sx_solve.proofs.Marks.{xor_by_change, xor_by_below}
use Rattle.sx_solve.proofs.WordBits.{bit_small}

module _ (rows : List Row) (steps : AreSteps rows) (cells : List ℕ) (k : ℕ) (r : Row) (inside : k < length rows) (read : r ≡ get_or rows k r) (pivot : r.pivot < length cells) where
  -- the row is met
  row_met : (delta : ℕ) → delta ≡ bit_xor r.value (xor_by (bit r.unknowns.items) 0 cells) → Meets (set cells r.pivot (bit_xor (get_or cells r.pivot 0) delta)) r
  row_met delta is =
      let x = xor_by (bit r.unknowns.items) 0 cells in
      let own : bit r.unknowns.items r.pivot ≡ 1 = subst (λ (s : Row). bit s.unknowns.items s.pivot ≡ 1) (sym read) (steps.own k r inside) in
      let one : bit r.unknowns.items (0 + r.pivot) * delta ≡ delta = rw (zero-add r.pivot, own) (let e : 1 * delta ≡ delta = omega arith in e) in
      xor_by_change (bit r.unknowns.items) (bit_small r.unknowns.items) 0 cells r.pivot delta pivot
      ∙ ap (bit_xor x) (one ∙ is ∙ xor_comm r.value x) ∙ sym (xor_assoc x x r.value) ∙ ap (λ z. bit_xor z r.value) (xor_self x)

  -- a later row stays met
  later_met : (delta : ℕ) (s : Row) → bit s.unknowns.items r.pivot ≡ 0 → Meets cells s → Meets (set cells r.pivot (bit_xor (get_or cells r.pivot 0) delta)) s
  later_met delta s off met =
      let none : bit s.unknowns.items (0 + r.pivot) * delta ≡ 0 = rw (zero-add r.pivot, off) (let e : 0 * delta ≡ 0 = omega arith in e) in
      xor_by_change (bit s.unknowns.items) (bit_small s.unknowns.items) 0 cells r.pivot delta pivot
      ∙ ap (bit_xor (xor_by (bit s.unknowns.items) 0 cells)) none ∙ xor_zero_r (xor_by (bit s.unknowns.items) 0 cells) ∙ met

  pub one_more_met : (delta : ℕ) → delta ≡ bit_xor r.value (xor_by (bit r.unknowns.items) 0 cells)
      → ((j : ℕ) (e : Row) → k < j → j < length rows → Meets cells (get_or rows j e))
      → (j : ℕ) (e : Row) → k ≤ j → j < length rows → Meets (set cells r.pivot (bit_xor (get_or cells r.pivot 0) delta)) (get_or rows j e)
  one_more_met delta is later j e from within =
      elim (cases_eq j k) [
        | inl same ↦
            let here : get_or rows j e ≡ r = ap (λ n. get_or rows n e) same ∙ get_or_default rows k e r inside ∙ sym read in
            subst (Meets (set cells r.pivot (bit_xor (get_or cells r.pivot 0) delta))) (sym here) (row_met delta is)
        | inr differ ↦
            let after : k < j = omega arith in
            later_met delta (get_or rows j e)
            (subst (λ (s : Row). bit (get_or rows j e).unknowns.items s.pivot ≡ 0) (get_or_default rows k e r inside ∙ sym read) (steps.later k j e after within))
            (later j e after within)
      ]

  pub still_narrow : (delta n : ℕ) → delta ≡ bit_xor r.value (xor_by (bit r.unknowns.items) 0 cells)
      → All (λ s. s.value < 2 ^ n) rows → All (λ x. x < 2 ^ n) cells → All (λ x. x < 2 ^ n) (set cells r.pivot (bit_xor (get_or cells r.pivot 0) delta))
  still_narrow delta n is narrow_rows narrow =
      let value : r.value < 2 ^ n = subst (λ (s : Row). s.value < 2 ^ n) (sym read) (narrow_rows k r inside) in
      let small : delta < 2 ^ n = rw is (xor_lt n r.value (xor_by (bit r.unknowns.items) 0 cells) value
      (xor_by_below (bit r.unknowns.items) (bit_small r.unknowns.items) n 0 cells (recursion_from_All (λ x. x < 2 ^ n) cells narrow))) in
      All-set (λ x. x < 2 ^ n) cells r.pivot (bit_xor (get_or cells r.pivot 0) delta) (xor_lt n (get_or cells r.pivot 0) delta (narrow r.pivot 0 pivot) small) narrow

-- A row that is the sum of two.
use Rattle.std.proofs.Common.{◌≡◌, ◌≢◌, ℕ, ◌+◌, ◌%◌, ◌<◌, ◌≤◌, List, length, get_or, refl, sym, ap, subst, ◌∙◌, arith, inl, inr, cond, true, false, zero-add}
use Rattle.std.specs.Prelude.{bit_xor, ◌==◌}
use Rattle.std.specs.Int.Bits.{xor_assoc, xor_self, xor_zero_r}
use Rattle.std.proofs.lemmas.Bool.{cases_eq}
use Rattle.std.proofs.lemmas.Bool.Decides.{Decides-eqb}
use Rattle.std.proofs.lemmas.List.{get_or-map, length-map}
use Rattle.sx_spec.specs.declared.Equation.{Equation}
use Rattle.sx_spec.specs.Systems.{unknowns, vertices, count_of, cells_at}
use Rattle.sx_solve.specs.declared.rows.Row.{Row}
use Rattle.sx_solve.specs.Solving.{IsEquationWithin}
use Rattle.sx_solve.specs.Rows.{bit, xor_by, values, IsRow, Meets}
use Rattle.sx_solve.proofs.Marks.{xor_by_sum, xor_by_none, xor_by_one, times_by_sum, times_by_one}
use Rattle.sx_solve.proofs.WordBits.{bit_small}

pub sum_is_row : (equations : List Equation) (r s t : Row) → IsRow equations r → IsRow equations s
    → ((v : ℕ) → bit t.unknowns.items v ≡ (bit r.unknowns.items v + bit s.unknowns.items v) % 2)
    → ((i : ℕ) → bit t.set.items i ≡ (bit r.set.items i + bit s.set.items i) % 2)
    → t.value ≡ bit_xor r.value s.value → IsRow equations t
sum_is_row equations r s t is_r is_s unknowns_sum set_sum value_sum = record {
  unknowns = λ v.
      let whole = times_by_sum (bit r.set.items) (bit s.set.items) (bit t.set.items) (bit_small r.set.items) (bit_small s.set.items) set_sum 0 equations v in
      let here = unknowns_sum v in
      let a = is_r.unknowns v in
      let b = is_s.unknowns v in
      omega arith;
  value =
      value_sum ∙ ap (λ x. bit_xor x s.value) is_r.value ∙ ap (bit_xor (xor_by (bit r.set.items) 0 (values equations))) is_s.value
      ∙ sym (xor_by_sum (bit r.set.items) (bit s.set.items) (bit t.set.items) (bit_small r.set.items) (bit_small s.set.items) set_sum 0 (values equations));
}

pub cancel : (x y s : ℕ) → bit_xor x s ≡ bit_xor y s → x ≡ y
cancel x y s same =
    sym (xor_zero_r x) ∙ ap (bit_xor x) (sym (xor_self s)) ∙ sym (xor_assoc x s s)
    ∙ ap (λ z. bit_xor z s) same ∙ xor_assoc y s s ∙ ap (bit_xor y) (xor_self s) ∙ xor_zero_r y

pub sum_meets : (cells : List ℕ) (r s t : Row)
    → ((v : ℕ) → bit t.unknowns.items v ≡ (bit r.unknowns.items v + bit s.unknowns.items v) % 2)
    → t.value ≡ bit_xor r.value s.value → Meets cells s → Meets cells t → Meets cells r
sum_meets cells r s t unknowns_sum value_sum met_s met_t =
    cancel (xor_by (bit r.unknowns.items) 0 cells) r.value s.value
    (ap (bit_xor (xor_by (bit r.unknowns.items) 0 cells)) (sym met_s)
    ∙ sym (xor_by_sum (bit r.unknowns.items) (bit s.unknowns.items) (bit t.unknowns.items) (bit_small r.unknowns.items) (bit_small s.unknowns.items) unknowns_sum 0 cells)
    ∙ met_t ∙ value_sum)

-- ---- an equation as a row

-- one bit more
pub one_more_xor : (before after : List ℕ) (i : ℕ) (cells : List ℕ) → bit before i ≡ 0 → bit after i ≡ 1 → ((j : ℕ) → j ≢ i → bit after j ≡ bit before j) → i < length cells
    → xor_by (bit after) 0 cells ≡ bit_xor (xor_by (bit before) 0 cells) (get_or cells i 0)
one_more_xor before after i cells none one others within =
    let mark : ℕ → ℕ = λ j. cond (j == i) 1 0 in
    let at : mark i ≡ 1 = mark_at i i refl in
    let off : (j : ℕ) → j ≢ i → mark j ≡ 0 = λ j differ. mark_off j i differ in
    let sum : (j : ℕ) → bit after j ≡ (bit before j + mark j) % 2 = λ j. elim (cases_eq j i) [
      | inl same ↦ subst (λ k. bit after k ≡ (bit before k + mark k) % 2) (sym same) (omega arith)
      | inr differ ↦ (let a = others j differ in let b = off j differ in let s = bit_small before j in omega arith)
    ] in
    xor_by_sum (bit before) mark (bit after) (bit_small before) (λ j. mark_small j i) sum 0 cells
    ∙ ap (bit_xor (xor_by (bit before) 0 cells)) (xor_by_one mark 0 i cells (ap mark (zero-add i) ∙ at) (λ j differ. off j (λ same. differ (same ∙ sym (zero-add i)))) within)
  where
    mark_at : (j i : ℕ) → j ≡ i → ◌≡◌ {A = ℕ} (cond (j == i) 1 0) 1
    mark_at j i same = ap (λ b. cond {A = ℕ} b 1 0) ((Decides-eqb j i).1 same)

    mark_off : (j i : ℕ) → j ≢ i → ◌≡◌ {A = ℕ} (cond (j == i) 1 0) 0
    mark_off j i differ = elim (j == i) as (λ b. (j == i) ≡ b → ◌≡◌ {A = ℕ} (cond b 1 0) 0) [
      | true ↦ λ e. absurd (differ ((Decides-eqb j i).0 e))
      | false ↦ λ e. refl
    ] refl

    mark_small : (j i : ℕ) → cond {A = ℕ} (j == i) 1 0 < 2
    mark_small j i = elim (j == i) as (λ b. cond {A = ℕ} b 1 0 < 2) [ true ↦ omega arith | false ↦ omega arith ]

-- the bits of an equation's unknowns, set one after another
pub xor_of_unknowns : (q : Equation) (bound : ℕ) (none first second third : List ℕ) (cells : List ℕ) → IsEquationWithin bound q → bound ≤ length cells
    → ((i : ℕ) → bit none i ≡ 0)
    → bit first q.a ≡ 1 → ((j : ℕ) → j ≢ q.a → bit first j ≡ bit none j)
    → bit second q.b ≡ 1 → ((j : ℕ) → j ≢ q.b → bit second j ≡ bit first j)
    → bit third q.c ≡ 1 → ((j : ℕ) → j ≢ q.c → bit third j ≡ bit second j)
    → xor_by (bit third) 0 cells ≡ cells_at cells (unknowns q)
xor_of_unknowns q bound none first second third cells within room zeros one_a others_a one_b others_b one_c others_c =
    let in_a = within.a in
    let in_b = within.b in
    let in_c = within.c in
    let before_b : bit first q.b ≡ 0 = others_a q.b (λ e. within.ab (sym e)) ∙ zeros q.b in
    let before_c : bit second q.c ≡ 0 = others_b q.c (λ e. within.bc (sym e)) ∙ others_a q.c (λ e. within.ac (sym e)) ∙ zeros q.c in
    one_more_xor second third q.c cells before_c one_c others_c (omega arith)
    ∙ ap (λ z. bit_xor z (get_or cells q.c 0)) (one_more_xor first second q.b cells before_b one_b others_b (omega arith))
    ∙ ap (λ z. bit_xor (bit_xor z (get_or cells q.b 0)) (get_or cells q.c 0)) (one_more_xor none first q.a cells (zeros q.a) one_a others_a (omega arith))
    ∙ ap (λ z. bit_xor (bit_xor (bit_xor z (get_or cells q.a 0)) (get_or cells q.b 0)) (get_or cells q.c 0)) (xor_by_none (bit none) 0 cells (λ j h. zeros j))

-- the row of one equation
pub equation_is_row : (equations : List Equation) (number : ℕ) (d : Equation) (r : Row) → number < length equations
    → ((v : ℕ) → bit r.unknowns.items v ≡ count_of v (vertices (unknowns (get_or equations number d))) % 2)
    → bit r.set.items number ≡ 1 → ((i : ℕ) → i ≢ number → bit r.set.items i ≡ 0) → r.value ≡ (get_or equations number d).value
    → IsRow equations r
equation_is_row equations number d r within unknowns_are one others value_is = record {
  unknowns = λ v. unknowns_are v ∙ ap (λ n. n % 2) (sym (times_by_one (bit r.set.items) 0 number equations v d (ap (bit r.set.items) (zero-add number) ∙ one) (λ j differ. others j (λ same. differ (same ∙ sym (zero-add number)))) within));
  value =
      value_is ∙ sym (get_or-map (λ (q : Equation). q.value) equations number d 0 within)
      ∙ sym (xor_by_one (bit r.set.items) 0 number (values equations) (ap (bit r.set.items) (zero-add number) ∙ one) (λ j differ. others j (λ same. differ (same ∙ sym (zero-add number))))
      (let e = length-map equations (λ (q : Equation). q.value) in omega arith));
}

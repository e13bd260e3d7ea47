-- Counts of values that are taken together where equal ones stand side by side.
use Rattle.std.proofs.Common.{◌≡◌, ◌≢◌, ℕ, ◌+◌, ◌<◌, ◌≤◌, ◌==◌, if◌then◌else◌, Bool, true, false, List, Option, Some, length, take, get_or, unwrap_or, refl, sym, ap, ◌∙◌, arith, inl, inr}
use Rattle.std.proofs.lemmas.Bool.{cases_Bool, eqb-true, eqb-false, eq-eqb}
use Rattle.std.proofs.lemmas.List.{length-take}
use Rattle.std.proofs.lemmas.List.Sums.{count_by-le-length, sum_by_more}
use Rattle.sx_spec_kinds.specs.TwoStep.{frequency}
use Rattle.sx_lcp.specs.Rankings.{counted_more}

pub counted : (o : Option ℕ) (n : ℕ) → unwrap_or (counted_more o n) 0 ≡ unwrap_or o 0 + n
counted o n =
    elim (cases_Bool (n == 0)) [
      | inl none ↦ let z = eqb-true n 0 none in rw none (omega arith)
      | inr some ↦ rw some refl
    ]

pub counted_some : (o : Option ℕ) (n : ℕ) → o ≢ Some 0 → counted_more o n ≢ Some 0
counted_some o n not_zero =
    elim (cases_Bool (n == 0)) [
      | inl none ↦ rw none not_zero
      | inr some ↦ rw some (λ (e : Some (unwrap_or o 0 + n) ≡ Some 0).
          let sum : unwrap_or o 0 + n ≡ 0 = ap (λ (p : Option ℕ). unwrap_or p 0) e in
          let z : n ≡ 0 = omega arith in
          eqb-false n 0 some z)
    ]

-- a run that has no value yet adds nothing
pub run_begun : (o f current run q : ℕ) → o ≡ f → run ≡ 0 → o + (if current == q then run else 0) ≡ f
run_begun o f current run q is none =
    elim (cases_Bool (current == q)) [
      | inl same ↦ rw same (omega arith)
      | inr differ ↦ rw differ (omega arith)
    ]

run_by : (o f run : ℕ) (b : Bool) → b ≡ true → o + (if b then run else 0) ≡ f → run ≤ f
run_by o f run true e is = omega arith
run_by o f run false e is = absurd cc

-- a run is no longer than the values so far
pub run_few : (values : List ℕ) (i o current run : ℕ) → o + (if current == current then run else 0) ≡ frequency (take i values) current → run ≤ i
run_few values i o current run is =
    let few = run_by o (frequency (take i values) current) run (current == current) (eq-eqb current current refl) is in
    let part = count_by-le-length (λ u. u == current) (take i values) in
    let size = length-take i values in
    omega arith

-- a value more
pub run_more : (values : List ℕ) (i o current run q : ℕ) → i < length values → current ≡ get_or values i 0
    → o + (if current == q then run else 0) ≡ frequency (take i values) q
    → o + (if current == q then run + 1 else 0) ≡ frequency (take (i + 1) values) q
run_more values i o current run q lt here is =
    let more : frequency (take (i + 1) values) q ≡ frequency (take i values) q + (if current == q then 1 else 0) =
    sum_by_more (λ u. if u == q then 1 else 0) values i 0 lt ∙ ap (λ (v : ℕ). frequency (take i values) q + (if v == q then 1 else 0)) (sym here) in
    by_case (current == q) (frequency (take i values) q) (frequency (take (i + 1) values) q) is more
  where
    by_case : (b : Bool) (f next : ℕ) → o + (if b then run else 0) ≡ f → next ≡ f + (if b then 1 else 0) → o + (if b then run + 1 else 0) ≡ next
    by_case true f next is more = omega arith
    by_case false f next is more = omega arith

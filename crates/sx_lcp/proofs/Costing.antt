-- What the values without a code of their own come to, and the least of the costs.
use Rattle.std.proofs.Common.{◌≡◌, ℕ, zero, suc, ◌+◌, ◌-◌, ◌*◌, ◌^◌, ◌<◌, ◌≤◌, ◌==◌, true, List, [], ◌∷◌, length, map, take, min, sum_by, refl, sym, ap, ◌∙◌, arith, inl, inr}
use Rattle.std.specs.Prelude.{count_by, if◌then◌else◌}
use Rattle.std.specs.List.{list_any}
use Rattle.std.proofs.lemmas.Bool.{cases_Bool, cases_lt, eqb-true, eqb-false, eq-eqb, ne_eqb, lt-ltb, le-ltb, or_cases, not-false}
use Rattle.std.proofs.lemmas.List.{take-map, take_min}
use Rattle.std.proofs.lemmas.List.Folds.{fold-map}
use Rattle.std.proofs.lemmas.List.Sums.{sum_by-cons}
use Rattle.std.proofs.lemmas.Nat.{leading_length}
use Rattle.std.proofs.Math.Nat.{pow-succ'}
use Rattle.std.proofs.Math.Pow.{pow_mono}
use Rattle.std.specs.declared.cmp.Reverse.{Reverse}
use lib.Count.{count_leading_zeros}
use Rattle.sx_spec_strings.specs.Numbers.{binary_digits, least_at}
use Rattle.sx_spec_strings.specs.Ordered.{in_order, IsRising, IsIn}
use Rattle.sx_spec_strings.proofs.NumberLaws.{digits_hold, digits_least}
use Rattle.sx_spec_strings.proofs.OrderLaws
use Rattle.sx_spec_kinds.specs.TwoStep.{frequency, comes_before, is_escaped, table_of}
use Rattle.sx_spec_kinds.proofs.TwoStepLaws.{table_rising}
use Rattle.sx_lcp.specs.Rankings.{entry_of, value_at, count_at, ranking_of}
use Rattle.sx_lcp.proofs.Ranks.{code_order}

-- ---- the least of costs

pub least_taken : (f : ℕ → ℕ) (n best : ℕ) → best ≡ least_at f n → f (suc n) < f best → suc n ≡ least_at f (suc n)
unfolding least_at
least_taken f n best is less =
    let lt : f (suc n) < f (least_at f n) = let e = ap f is in omega arith in
    rw (lt-ltb (f (suc n)) (f (least_at f n)) lt) refl

pub least_kept : (f : ℕ → ℕ) (n best : ℕ) → best ≡ least_at f n → f best ≤ f (suc n) → best ≡ least_at f (suc n)
unfolding least_at
least_kept f n best is more =
    let le : f (least_at f n) ≤ f (suc n) = let e = ap f is in omega arith in
    rw (le-ltb (f (suc n)) (f (least_at f n)) le) is

pub least_none : (f : ℕ → ℕ) → least_at f 0 ≡ 0
unfolding least_at
least_none f = refl

-- ---- a table that holds each value once

-- no value of the table stands in it again
abbrev AreApart : List ℕ → Type 0
AreApart [] = Unit {0}
AreApart (t ∷ ts) = (is_escaped ts t ≡ true) × AreApart ts

any_in : (xs : List ℕ) (v : ℕ) → list_any (λ u. u == v) xs ≡ true → IsIn xs v
any_in [] v h = absurd cc
any_in (x ∷ xs) v h =
    elim (or_cases (x == v) (list_any (λ u. u == v) xs) h) [
      | inl same ↦ inl (sym (eqb-true x v same))
      | inr later ↦ inr (any_in xs v later)
    ]

rising_apart : (values xs : List ℕ) → IsRising (comes_before values) xs → AreApart xs
rising_apart values [] h = tt
rising_apart values (x ∷ xs) h =
    let rest = rising_apart values xs (OrderLaws.rising_rest (comes_before values) (code_order values) x xs h) in
    elim (cases_Bool (is_escaped xs x)) [
      | inl apart ↦ (apart, rest)
      | inr again ↦
          let there = any_in xs x (not-false (list_any (λ u. u == x) xs) again) in
          let before = OrderLaws.rising_first (comes_before values) (code_order values) x xs h x there in
          let never = (code_order values).irrefl x in
          absurd cc
    ]

all_escaped : (values : List ℕ) → count_by (is_escaped []) values ≡ length values
all_escaped [] = refl
all_escaped (v ∷ values) =
    let one = sum_by-cons (λ u. if is_escaped [] u then 1 else 0) v values in
    let rest = all_escaped values in
    omega arith

-- a value more in the table takes its frequency from what is escaped
one_more : (t : ℕ) (ts values : List ℕ) → is_escaped ts t ≡ true → count_by (is_escaped (t ∷ ts)) values + frequency values t ≡ count_by (is_escaped ts) values
one_more t ts [] apart = refl
one_more t ts (v ∷ values) apart =
    let with = sum_by-cons (λ u. if is_escaped (t ∷ ts) u then 1 else 0) v values in
    let own = sum_by-cons (λ u. if u == t then 1 else 0) v values in
    let without = sum_by-cons (λ u. if is_escaped ts u then 1 else 0) v values in
    let rest = one_more t ts values apart in
    let here = at_value t ts v apart in
    omega arith
  where
    at_value : (t : ℕ) (ts : List ℕ) (v : ℕ) → is_escaped ts t ≡ true → (if is_escaped (t ∷ ts) v then 1 else 0) + (if v == t then 1 else 0) ≡ (if is_escaped ts v then 1 else 0)
    at_value t ts v apart =
        elim (cases_Bool (t == v)) [
          | inl same ↦
              let e : t ≡ v = eqb-true t v same in
              let back = eq-eqb v t (sym e) in
              let out : is_escaped ts v ≡ true = ap (is_escaped ts) (sym e) ∙ apart in
              rw (same, back, out) refl
          | inr differ ↦
              let back = ne_eqb v t (λ e. eqb-false t v differ (sym e)) in
              rw (differ, back) (let h : (if is_escaped ts v then 1 else 0) + 0 ≡ (if is_escaped ts v then 1 else 0) = omega arith in h)
        ]

-- what is escaped, and the frequencies of the values of the table
own_and_escaped : (table values : List ℕ) → AreApart table → count_by (is_escaped table) values + sum_by (frequency values) table ≡ length values
own_and_escaped [] values apart = let all = all_escaped values in omega arith
own_and_escaped (t ∷ ts) values apart =
    let more = one_more t ts values apart.0 in
    let rest = own_and_escaped ts values apart.1 in
    let sum = sum_by-cons (frequency values) t ts in
    omega arith

sum_ranked : (values xs : List ℕ) → sum_by count_at (map (λ v. entry_of v (frequency values v)) xs) ≡ sum_by (frequency values) xs
sum_ranked values xs = fold-map (λ a e. a + count_at e) (λ v. entry_of v (frequency values v)) 0 xs

-- the same over the ranking
pub own_is : (values : List ℕ) (bits : ℕ) → count_by (is_escaped (table_of values bits)) values + sum_by count_at (take (2 ^ bits - 1) (ranking_of values)) ≡ length values
unfolding ranking_of table_of
own_is values bits =
    let order = in_order (comes_before values) values in
    let n = 2 ^ bits - 1 in
    let rising = rising_apart values (take n order) (table_rising values bits) in
    let whole = own_and_escaped (take n order) values rising in
    let same : sum_by count_at (take n (map (λ v. entry_of v (frequency values v)) order)) ≡ sum_by (frequency values) (take n order) =
    ap (sum_by count_at) (take-map (λ v. entry_of v (frequency values v)) n order) ∙ sum_ranked values (take n order) in
    omega arith

-- the values of the ranking's first entries are the table
pub table_is : (values : List ℕ) (bits : ℕ) → map value_at (take (2 ^ bits - 1) (ranking_of values)) ≡ table_of values bits
unfolding ranking_of table_of
table_is values bits =
    let order = in_order (comes_before values) values in
    let n = 2 ^ bits - 1 in
    ap (map value_at) (take-map (λ v. entry_of v (frequency values v)) n order) ∙ values_of values (take n order)
  where
    values_of : (values xs : List ℕ) → map value_at (map (λ v. entry_of v (frequency values v)) xs) ≡ xs
    values_of values [] = refl
    values_of values (x ∷ xs) = ap (λ (l : List ℕ). x ∷ l) (values_of values xs)

-- ---- steps of the code

-- what is counted of a ranking, and what is escaped
pub own_sum : (values : List ℕ) (bits : ℕ) (ranked : List (Reverse ℕ × ℕ)) (own sum : ℕ) → ranked ≡ ranking_of values → own ≡ min (2 ^ bits - 1) (length ranked) → sum ≡ sum_by count_at (take own ranked)
    → count_by (is_escaped (table_of values bits)) values + sum ≡ length values
own_sum values bits ranked own sum is size counted =
    let n = 2 ^ bits - 1 in
    let same : take own ranked ≡ take n (ranking_of values) = ap (λ k. take k ranked) size ∙ take_min n ranked ∙ ap (take n) is in
    let e : sum ≡ sum_by count_at (take n (ranking_of values)) = counted ∙ ap (sum_by count_at) same in
    let whole = own_is values bits in
    omega arith

pub best_then : (f : ℕ → ℕ) (bits best least next found : ℕ) → 1 ≤ bits → best ≡ least_at f (bits - 1) → least ≡ f best → next ≡ f bits → next < least → found ≡ bits → found ≡ least_at f (bits + 1 - 1)
best_then f bits best least next found some is cost new less taken =
    let n = bits - 1 in
    let back : suc n ≡ bits = omega arith in
    let on : suc n ≡ bits + 1 - 1 = omega arith in
    let lt : f (suc n) < f best = let e = ap f back in omega arith in
    taken ∙ sym back ∙ least_taken f n best is lt ∙ ap (least_at f) on

pub best_else : (f : ℕ → ℕ) (bits best least next found : ℕ) → 1 ≤ bits → best ≡ least_at f (bits - 1) → least ≡ f best → next ≡ f bits → least ≤ next → found ≡ best → found ≡ least_at f (bits + 1 - 1)
best_else f bits best least next found some is cost new more kept =
    let n = bits - 1 in
    let back : suc n ≡ bits = omega arith in
    let on : suc n ≡ bits + 1 - 1 = omega arith in
    let le : f best ≤ f (suc n) = let e = ap f back in omega arith in
    kept ∙ least_kept f n best is le ∙ ap (least_at f) on

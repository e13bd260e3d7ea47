-- Lists of numbers: one taken out of the middle, and the numbers below a count.
use Rattle.std.proofs.Common.{◌≡◌, ℕ, zero, suc, ◌+◌, ◌<◌, ◌≤◌, cond, List, [], ◌∷◌, ◌++◌, refl, add-one, ◌∙◌, arith, inl, inr}
use Rattle.std.specs.Prelude.{◌==◌, Contains}
use Rattle.std.specs.List.{AllByRecursion, range_with_len}
use Rattle.std.specs.List.Sorted.{IsStrictlyIncreasing}
use Rattle.std.proofs.lemmas.Bool.{cases_lt}
use Rattle.std.proofs.lemmas.List.Sums.{sum_by-append}
use Rattle.sx_spec.specs.Systems.{count_of}
use Rattle.sx_spec.proofs.Counts.{count_of-cons, front_cases, rising_tail, rising_above}

pub count_of-append : (v : ℕ) (xs ys : List ℕ) → count_of v (xs ++ ys) ≡ count_of v xs + count_of v ys
count_of-append v xs ys = sum_by-append (λ y. cond (y == v) 1 0) xs ys

-- one in the middle counts once
pub count_of_middle : (v x : ℕ) (xs ys : List ℕ) → count_of v (xs ++ x ∷ ys) ≡ cond (x == v) 1 0 + count_of v (xs ++ ys)
count_of_middle v x xs ys =
    let whole = count_of-append v xs (x ∷ ys) in
    let without = count_of-append v xs ys in
    let front = count_of-cons v x ys in
    omega arith

-- what is counted stands in the list
pub counted_contains : (xs : List ℕ) (v : ℕ) → 0 < count_of v xs → Contains xs v
counted_contains [] v some = absurd (omega arith)
counted_contains (x ∷ xs) v some =
    elim (front_cases v x xs) [
      | inl here ↦ (0, omega arith, here.0)
      | inr later ↦ let (k, within, at) = counted_contains xs v (omega arith) in (suc k, omega arith, at)
    ]

-- ---- rising lists

first_counted : (x : ℕ) (xs : List ℕ) → 0 < count_of x (x ∷ xs)
first_counted x xs = elim (front_cases x x xs) [ inl here ↦ omega arith | inr later ↦ absurd (later.0 refl) ]

pub rising_cons : (x : ℕ) (xs : List ℕ) → ((j : ℕ) → 0 < count_of j xs → x < j) → IsStrictlyIncreasing xs → IsStrictlyIncreasing (x ∷ xs)
rising_cons x [] above rising k h = absurd (omega arith)
rising_cons x (y ∷ ys) above rising zero h = above y (first_counted y ys)
rising_cons x (y ∷ ys) above rising (suc k) h =
    let next = rising k (omega arith) in
    rw add-one (rw add-one at next)

-- a rising list still rises when one is taken out
pub rising_without : (xs : List ℕ) (x : ℕ) (ys : List ℕ) → IsStrictlyIncreasing (xs ++ x ∷ ys) → IsStrictlyIncreasing (xs ++ ys)
rising_without [] x ys rising = rising_tail x ys rising
rising_without (z ∷ zs) x ys rising =
    rising_cons z (zs ++ ys)
    (λ j counted. rising_above z (zs ++ x ∷ ys) rising j (let e = count_of_middle j x zs ys in omega arith))
    (rising_without zs x ys (rising_tail z (zs ++ x ∷ ys) rising))

-- ---- the numbers below a count

pub range_counted : (a n j : ℕ) → 0 < count_of j (range_with_len a n) → (a ≤ j) × (j < a + n)
range_counted a zero j some = absurd (omega arith)
range_counted a (suc n) j some =
    elim (front_cases j a (range_with_len (a + 1) n)) [
      | inl here ↦ let e = here.0 in (omega arith, omega arith)
      | inr later ↦ let (low, high) = range_counted (a + 1) n j (omega arith) in (omega arith, omega arith)
    ]

pub range_once : (a n j : ℕ) → a ≤ j → j < a + n → count_of j (range_with_len a n) ≡ 1
range_once a zero j low high = absurd (omega arith)
range_once a (suc n) j low high =
    elim (front_cases j a (range_with_len (a + 1) n)) [
      | inl here ↦
          let none : count_of j (range_with_len (a + 1) n) ≡ 0 = range_not_above a n j here.0 in
          omega arith
      | inr later ↦ let differ = later.0 in let rest = range_once (a + 1) n j (omega arith) (omega arith) in later.1 ∙ rest
    ]
  where
    range_not_above : (a n j : ℕ) → a ≡ j → count_of j (range_with_len (a + 1) n) ≡ 0
    range_not_above a n j same =
        elim (cases_lt 0 (count_of j (range_with_len (a + 1) n))) [
          | inl some ↦ let (low, high) = range_counted (a + 1) n j some in absurd (omega arith)
          | inr none ↦ omega arith
        ]

pub range_within : (a n m : ℕ) → a + n ≤ m → AllByRecursion (λ i. i < m) (range_with_len a n)
range_within a zero m high = tt
range_within a (suc n) m high = (omega arith, range_within (a + 1) n m (omega arith))

-- Lemmas of lists, for the layers above.
use Rattle.std.proofs.Common.{◌≡◌, ℕ, zero, suc, ◌+◌, ◌<◌, Bool, true, false, List, [], ◌∷◌, ◌++◌, length, take, drop, Option, Some, None, refl, ap, subst, ◌∙◌, zero-add, arith, inl, inr}
use Rattle.std.specs.Prelude.{slice_get, filter_map}
use Rattle.std.specs.List.{AllByRecursion, AllZip, cons_option, enumerate_from, range_with_len}
use Rattle.std.specs.List.Sorted.{IsStrictlyIncreasing}
use Rattle.std.proofs.lemmas.List.FromFn.{length-range_with_len, get_or-range_with_len}
use Rattle.sx_spec_strings.specs.First.{first_holding, first_failing}
use Rattle.sx_spec_strings.specs.Ordered.{IsIn}

-- ---- elements

-- a list with an element isn't empty
pub in_some : {X : Type 0} (xs : List X) (x : X) → IsIn xs x → 0 < length xs
in_some [] x i = elim i [ ]
in_some (y ∷ xs) x i = omega arith

pub in_take : {X : Type 0} (n : ℕ) (xs : List X) (x : X) → IsIn (take n xs) x → IsIn xs x
in_take zero xs x i = elim i [ ]
in_take (suc n) [] x i = elim i [ ]
in_take (suc n) (y ∷ xs) x (inl e) = inl e
in_take (suc n) (y ∷ xs) x (inr i) = inr (in_take n xs x i)

pub in_drop : {X : Type 0} (n : ℕ) (xs : List X) (x : X) → IsIn (drop n xs) x → IsIn xs x
in_drop zero xs x i = i
in_drop (suc n) [] x i = elim i [ ]
in_drop (suc n) (y ∷ xs) x i = inr (in_drop n xs x i)

-- what stands behind a front
pub at_length : {X : Type 0} (xs : List X) (y : X) (ys : List X) → slice_get (xs ++ y ∷ ys) (length xs) ≡ Some y
at_length [] y ys = refl
at_length (x ∷ xs) y ys = at_length xs y ys

-- ---- what holds of all elements

pub all_taken : {X : Type 0} (P : X → Type 0) (n : ℕ) (xs : List X) → AllByRecursion P xs → AllByRecursion P (take n xs)
all_taken P zero xs all = tt
all_taken P (suc n) [] all = tt
all_taken P (suc n) (x ∷ xs) all = (all.0, all_taken P n xs all.1)

-- it holds with one of them less
pub all_without : {X : Type 0} (P : X → Type 0) (xs : List X) (x : X) (ys : List X) → AllByRecursion P (xs ++ x ∷ ys) → AllByRecursion P (xs ++ ys)
all_without P [] x ys all = all.1
all_without P (z ∷ zs) x ys all = (all.0, all_without P zs x ys all.1)

-- what follows from each pair of two lists
pub zip_second : {X Y : Type 0} (R : X → Y → Type 0) (P : Y → Type 0) (xs : List X) (ys : List Y) → ((x : X) (y : Y) → R x y → P y) → AllZip R xs ys → AllByRecursion P ys
zip_second R P [] [] give all = tt
zip_second R P [] (y ∷ ys) give all = absurd all
zip_second R P (x ∷ xs) [] give all = absurd all
zip_second R P (x ∷ xs) (y ∷ ys) give all = (give x y all.0, zip_second R P xs ys give all.1)

-- ---- ranges of numbers

-- one number more
pub range_more : (a n : ℕ) → range_with_len a (n + 1) ≡ range_with_len a n ++ (a + n) ∷ []
range_more a zero = let e : a ≡ a + 0 = omega arith in ap (λ k. k ∷ []) e
range_more a (suc n) =
    let e : (a + 1) + n ≡ a + suc n = omega arith in
    let rest : range_with_len (a + 1) (n + 1) ≡ range_with_len (a + 1) n ++ (a + suc n) ∷ [] =
    range_more (a + 1) n ∙ ap (λ k. range_with_len (a + 1) n ++ k ∷ []) e in
    let next : suc n + 1 ≡ suc (n + 1) = omega arith in
    ap (range_with_len a) next ∙ ap (λ xs. a ∷ xs) rest

pub below_more : (n : ℕ) → range_with_len 0 (n + 1) ≡ range_with_len 0 n ++ n ∷ []
below_more n = range_more 0 n ∙ ap (λ k. range_with_len 0 n ++ k ∷ []) (zero-add n)

pub range_rising : (a n : ℕ) → IsStrictlyIncreasing (range_with_len a n)
range_rising a n k h =
    let size = length-range_with_len a n in
    let here = get_or-range_with_len a n k 0 (omega arith) in
    let next = get_or-range_with_len a n (k + 1) 0 (omega arith) in
    omega arith

-- what holds along a range holds at each of its numbers
pub along_range : {X : Type 0} (R : ℕ → X → Type 0) (a n : ℕ) (xs : List X) → AllZip R (range_with_len a n) xs → (i : ℕ) → i < n → (x : X) × R (a + i) x
along_range R a zero xs all i h = absurd (omega arith)
along_range R a (suc n) [] all i h = absurd all
along_range R a (suc n) (x ∷ xs) all zero h = (x, let e : a + 0 ≡ a = omega arith in rw e all.0)
along_range R a (suc n) (x ∷ xs) all (suc i) h =
    let (y, holds) = along_range R (a + 1) n xs all.1 i (omega arith) in
    let e : (a + 1) + i ≡ a + suc i = omega arith in
    (y, subst (λ k. R k y) e holds)

-- ---- lists of which nothing is kept

-- the front element gives nothing, and nothing is kept of the rest
none_front : {Y : Type 0} (o : Option Y) (ys : List Y) → cons_option o ys ≡ [] → (o ≡ None) × (ys ≡ [])
none_front None ys e = (refl, e)
none_front (Some y) ys e = absurd cc

-- so each element gives nothing
pub none_kept : {X Y : Type 0} (h : ℕ × X → Option Y) (a : ℕ) (xs : List X) → filter_map h (enumerate_from a xs) ≡ [] → (i : ℕ) (x : X) → slice_get xs i ≡ Some x → h (a + i, x) ≡ None
none_kept h a [] none i x at = absurd cc
none_kept h a (y ∷ xs) none zero x at =
    let same : y ≡ x = cc in
    let e : a + 0 ≡ a = omega arith in
    rw (e, ← same) (none_front (h (a, y)) (filter_map h (enumerate_from (a + 1) xs)) none).0
none_kept h a (y ∷ xs) none (suc i) x at =
    let e : a + suc i ≡ (a + 1) + i = omega arith in
    rw e (none_kept h (a + 1) xs (none_front (h (a, y)) (filter_map h (enumerate_from (a + 1) xs)) none).1 i x at)

-- ---- tables of tests

-- where no test holds, each is false
pub none_holds : {X : Type 0} (rows : List (Bool × X)) → first_holding rows ≡ None → AllByRecursion (λ row. row.0 ≡ false) rows
none_holds [] none = tt
none_holds ((true, x) ∷ rows) none = absurd cc
none_holds ((false, x) ∷ rows) none = (refl, none_holds rows none)

-- where no test fails, each is true
pub all_true : (rows : List (ℕ × Bool)) → first_failing rows ≡ None → AllByRecursion (λ row. row.1 ≡ true) rows
all_true [] none = tt
all_true ((n, true) ∷ rows) none = (refl, all_true rows none)
all_true ((n, false) ∷ rows) none = absurd cc

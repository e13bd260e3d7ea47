-- The xor of the numbers whose places are marked, and how often an unknown stands in the equations whose places are.
use Rattle.std.proofs.Common.{◌≡◌, ◌≢◌, ℕ, zero, suc, ◌+◌, ◌*◌, ◌%◌, ◌^◌, ◌<◌, ◌≤◌, List, [], ◌∷◌, ◌++◌, length, get_or, set, take, refl, sym, ap, ◌∙◌, arith, inl, inr, ◌⊎◌}
use Rattle.std.specs.Prelude.{bit_xor}
use Rattle.std.specs.List.{AllByRecursion}
use Rattle.std.specs.Int.Bits.{xor_assoc, xor_self, xor_zero_r}
use Rattle.std.proofs.lemmas.List.{take_more, length-take}
use Rattle.std.proofs.lemmas.Nat.{xor_comm, xor_lt}
use Rattle.std.proofs.Math.Pow.{pow_pos}
use Rattle.sx_spec.specs.declared.Equation.{Equation}
use Rattle.sx_spec.specs.Systems.{unknowns, vertices, count_of}
use Rattle.sx_spec.proofs.Counts.{front_cases}
use Rattle.sx_spec.proofs.Sums.{xor_swap}
use Rattle.sx_solve.specs.Solving.{IsEquationWithin}
use Rattle.sx_solve.specs.Rows.{xor_by, times_by}

pub mark_cases : (b : ℕ) → b < 2 → (b ≡ 0) ⊎ (b ≡ 1)
mark_cases zero small = inl refl
mark_cases (suc zero) small = inr refl
mark_cases (suc (suc n)) small = absurd (omega arith)

zero_times : (t : ℕ) → 0 * t ≡ 0
zero_times t = omega arith

one_times : (t : ℕ) → 1 * t ≡ t
one_times t = omega arith

-- ---- xors

xor_four : (a b x y : ℕ) → bit_xor (bit_xor a b) (bit_xor x y) ≡ bit_xor (bit_xor a x) (bit_xor b y)
xor_four a b x y = xor_assoc a b (bit_xor x y) ∙ ap (bit_xor a) (xor_swap b x y) ∙ sym (xor_assoc a x (bit_xor b y))

xor_last : (a d r : ℕ) → bit_xor (bit_xor a d) r ≡ bit_xor (bit_xor a r) d
xor_last a d r = xor_assoc a d r ∙ ap (bit_xor a) (xor_comm d r) ∙ sym (xor_assoc a r d)

scaled : (a b c t : ℕ) → a < 2 → b < 2 → c ≡ (a + b) % 2 → c * t ≡ bit_xor (a * t) (b * t)
scaled a b c t small_a small_b sum =
    elim (mark_cases a small_a) [
      | inl a0 ↦ elim (mark_cases b small_b) [
        | inl b0 ↦ let c0 : c ≡ 0 = omega arith in rw (c0, a0, b0, zero_times t) refl
        | inr b1 ↦ let c1 : c ≡ 1 = omega arith in rw (c1, a0, b1, zero_times t, one_times t) refl
      ]
      | inr a1 ↦ elim (mark_cases b small_b) [
        | inl b0 ↦ let c1 : c ≡ 1 = omega arith in rw (c1, a1, b0, one_times t, zero_times t) (sym (xor_zero_r t))
        | inr b1 ↦ let c0 : c ≡ 0 = omega arith in rw (c0, a1, b1, zero_times t, one_times t) (sym (xor_self t))
      ]
    ]

spread : (a x d : ℕ) → a < 2 → a * bit_xor x d ≡ bit_xor (a * x) (a * d)
spread a x d small = elim (mark_cases a small) [
  | inl a0 ↦ rw (a0, zero_times (bit_xor x d), zero_times x, zero_times d) refl
  | inr a1 ↦ rw (a1, one_times (bit_xor x d), one_times x, one_times d) refl
]

-- marks that are the sum of two
pub xor_by_sum : (f g h : ℕ → ℕ) → ((j : ℕ) → f j < 2) → ((j : ℕ) → g j < 2) → ((j : ℕ) → h j ≡ (f j + g j) % 2) → (i : ℕ) (xs : List ℕ)
    → xor_by h i xs ≡ bit_xor (xor_by f i xs) (xor_by g i xs)
xor_by_sum f g h small_f small_g sum i [] = refl
xor_by_sum f g h small_f small_g sum i (x ∷ xs) =
    ap (λ z. bit_xor z (xor_by h (i + 1) xs)) (scaled (f i) (g i) (h i) x (small_f i) (small_g i) (sum i))
    ∙ ap (bit_xor (bit_xor (f i * x) (g i * x))) (xor_by_sum f g h small_f small_g sum (i + 1) xs)
    ∙ xor_four (f i * x) (g i * x) (xor_by f (i + 1) xs) (xor_by g (i + 1) xs)

pub xor_by_none : (f : ℕ → ℕ) (i : ℕ) (xs : List ℕ) → ((j : ℕ) → i ≤ j → f j ≡ 0) → xor_by f i xs ≡ 0
xor_by_none f i [] none = refl
xor_by_none f i (x ∷ xs) none =
    ap (λ m. bit_xor (m * x) (xor_by f (i + 1) xs)) (none i (omega arith))
    ∙ ap (λ m. bit_xor m (xor_by f (i + 1) xs)) (zero_times x)
    ∙ xor_by_none f (i + 1) xs (λ j h. none j (omega arith))

-- one place is marked
pub xor_by_one : (f : ℕ → ℕ) (i n : ℕ) (xs : List ℕ) → f (i + n) ≡ 1 → ((j : ℕ) → j ≢ i + n → f j ≡ 0) → n < length xs → xor_by f i xs ≡ get_or xs n 0
xor_by_one f i n [] one others within = absurd (omega arith)
xor_by_one f i zero (x ∷ xs) one others within =
    let here : f i ≡ 1 = ap f (omega arith) ∙ one in
    let rest : xor_by f (i + 1) xs ≡ 0 = xor_by_none f (i + 1) xs (λ j h. others j (omega arith)) in
    ap (λ m. bit_xor (m * x) (xor_by f (i + 1) xs)) here ∙ ap (λ m. bit_xor m (xor_by f (i + 1) xs)) (one_times x) ∙ ap (bit_xor x) rest ∙ xor_zero_r x
xor_by_one f i (suc n) (x ∷ xs) one others within =
    let here : f i ≡ 0 = others i (omega arith) in
    let next : (i + 1) + n ≡ i + suc n = omega arith in
    ap (λ m. bit_xor (m * x) (xor_by f (i + 1) xs)) here ∙ ap (λ m. bit_xor m (xor_by f (i + 1) xs)) (zero_times x)
    ∙ xor_by_one f (i + 1) n xs (ap f next ∙ one) (λ j differ. others j (λ same. differ (same ∙ sym next))) (omega arith)

-- a number more
pub xor_by_push : (f : ℕ → ℕ) (i : ℕ) (xs : List ℕ) (y : ℕ) → xor_by f i (xs ++ y ∷ []) ≡ bit_xor (xor_by f i xs) (f (i + length xs) * y)
xor_by_push f i [] y =
    let here : i + 0 ≡ i = omega arith in
    xor_zero_r (f i * y) ∙ ap (λ k. f k * y) (sym here)
xor_by_push f i (x ∷ xs) y =
    let next : (i + 1) + length xs ≡ i + suc (length xs) = omega arith in
    ap (bit_xor (f i * x)) (xor_by_push f (i + 1) xs y ∙ ap (λ k. bit_xor (xor_by f (i + 1) xs) (f k * y)) next)
    ∙ sym (xor_assoc (f i * x) (xor_by f (i + 1) xs) (f (i + suc (length xs)) * y))

pub xor_by_more : (f : ℕ → ℕ) (xs : List ℕ) (i d : ℕ) → i < length xs → xor_by f 0 (take (i + 1) xs) ≡ bit_xor (xor_by f 0 (take i xs)) (f i * get_or xs i d)
xor_by_more f xs i d within =
    let size : 0 + length (take i xs) ≡ i = (let e = length-take i xs in omega arith) in
    ap (xor_by f 0) (take_more xs i d within) ∙ xor_by_push f 0 (take i xs) (get_or xs i d)
    ∙ ap (λ k. bit_xor (xor_by f 0 (take i xs)) (f k * get_or xs i d)) size

-- a number that is changed
pub xor_by_change : (f : ℕ → ℕ) → ((j : ℕ) → f j < 2) → (i : ℕ) (xs : List ℕ) (n d : ℕ) → n < length xs
    → xor_by f i (set xs n (bit_xor (get_or xs n 0) d)) ≡ bit_xor (xor_by f i xs) (f (i + n) * d)
xor_by_change f small i [] n d within = absurd (omega arith)
xor_by_change f small i (x ∷ xs) zero d within =
    let here : i + 0 ≡ i = omega arith in
    ap (λ m. bit_xor m (xor_by f (i + 1) xs)) (spread (f i) x d (small i))
    ∙ xor_last (f i * x) (f i * d) (xor_by f (i + 1) xs)
    ∙ ap (λ k. bit_xor (bit_xor (f i * x) (xor_by f (i + 1) xs)) (f k * d)) (sym here)
xor_by_change f small i (x ∷ xs) (suc n) d within =
    let next : (i + 1) + n ≡ i + suc n = omega arith in
    ap (bit_xor (f i * x)) (xor_by_change f small (i + 1) xs n d (omega arith) ∙ ap (λ k. bit_xor (xor_by f (i + 1) xs) (f k * d)) next)
    ∙ sym (xor_assoc (f i * x) (xor_by f (i + 1) xs) (f (i + suc n) * d))

pub xor_by_below : (f : ℕ → ℕ) → ((j : ℕ) → f j < 2) → (k i : ℕ) (xs : List ℕ) → AllByRecursion (λ x. x < 2 ^ k) xs → xor_by f i xs < 2 ^ k
xor_by_below f small k i [] all = pow_pos k
xor_by_below f small k i (x ∷ xs) all =
    xor_lt k (f i * x) (xor_by f (i + 1) xs)
    (elim (mark_cases (f i) (small i)) [
      | inl zero_mark ↦ rw (zero_mark, zero_times x) (pow_pos k)
      | inr one_mark ↦ rw (one_mark, one_times x) all.0
    ])
    (xor_by_below f small k (i + 1) xs all.1)

-- ---- how often an unknown stands in equations

times_scaled : (a b c t : ℕ) → a < 2 → b < 2 → c ≡ (a + b) % 2 → c * t % 2 ≡ (a * t + b * t) % 2
times_scaled a b c t small_a small_b sum =
    elim (mark_cases a small_a) [
      | inl a0 ↦ elim (mark_cases b small_b) [
        | inl b0 ↦ let c0 : c ≡ 0 = omega arith in rw (c0, a0, b0) (omega arith)
        | inr b1 ↦ let c1 : c ≡ 1 = omega arith in rw (c1, a0, b1) (omega arith)
      ]
      | inr a1 ↦ elim (mark_cases b small_b) [
        | inl b0 ↦ let c1 : c ≡ 1 = omega arith in rw (c1, a1, b0) (omega arith)
        | inr b1 ↦ let c0 : c ≡ 0 = omega arith in rw (c0, a1, b1) (omega arith)
      ]
    ]

pub times_by_sum : (f g h : ℕ → ℕ) → ((j : ℕ) → f j < 2) → ((j : ℕ) → g j < 2) → ((j : ℕ) → h j ≡ (f j + g j) % 2) → (i : ℕ) (qs : List Equation) (v : ℕ)
    → times_by h i qs v % 2 ≡ (times_by f i qs v % 2 + times_by g i qs v % 2) % 2
times_by_sum f g h small_f small_g sum i [] v = refl
times_by_sum f g h small_f small_g sum i (q ∷ qs) v =
    let t = count_of v (vertices (unknowns q)) in
    let here = times_scaled (f i) (g i) (h i) t (small_f i) (small_g i) (sum i) in
    let rest = times_by_sum f g h small_f small_g sum (i + 1) qs v in
    parts (h i * t) (times_by h (i + 1) qs v) (f i * t) (times_by f (i + 1) qs v) (g i * t) (times_by g (i + 1) qs v) here rest
  where
    parts : (h r f s g t : ℕ) → h % 2 ≡ (f + g) % 2 → r % 2 ≡ (s % 2 + t % 2) % 2 → (h + r) % 2 ≡ ((f + s) % 2 + (g + t) % 2) % 2
    parts h r f s g t here rest = omega arith

pub times_by_none : (f : ℕ → ℕ) (i : ℕ) (qs : List Equation) (v : ℕ) → ((j : ℕ) → i ≤ j → f j ≡ 0) → times_by f i qs v ≡ 0
times_by_none f i [] v none = refl
times_by_none f i (q ∷ qs) v none =
    let here : f i * count_of v (vertices (unknowns q)) ≡ 0 = rw (none i (omega arith)) (zero_times (count_of v (vertices (unknowns q)))) in
    let rest = times_by_none f (i + 1) qs v (λ j h. none j (omega arith)) in
    omega arith

pub times_by_one : (f : ℕ → ℕ) (i n : ℕ) (qs : List Equation) (v : ℕ) (d : Equation) → f (i + n) ≡ 1 → ((j : ℕ) → j ≢ i + n → f j ≡ 0) → n < length qs
    → times_by f i qs v ≡ count_of v (vertices (unknowns (get_or qs n d)))
times_by_one f i n [] v d one others within = absurd (omega arith)
times_by_one f i zero (q ∷ qs) v d one others within =
    let mark : f i ≡ 1 = ap f (omega arith) ∙ one in
    let here : f i * count_of v (vertices (unknowns q)) ≡ count_of v (vertices (unknowns q)) = rw mark (one_times (count_of v (vertices (unknowns q)))) in
    let rest = times_by_none f (i + 1) qs v (λ j h. others j (omega arith)) in
    omega arith
times_by_one f i (suc n) (q ∷ qs) v d one others within =
    let mark : f i ≡ 0 = others i (omega arith) in
    let here : f i * count_of v (vertices (unknowns q)) ≡ 0 = rw mark (zero_times (count_of v (vertices (unknowns q)))) in
    let next : (i + 1) + n ≡ i + suc n = omega arith in
    let rest = times_by_one f (i + 1) n qs v d (ap f next ∙ one) (λ j differ. others j (λ same. differ (same ∙ sym next))) (omega arith) in
    omega arith

-- what is past three numbers is none of them
pub past_three : (v a b c : ℕ) → a < v → b < v → c < v → count_of v (a ∷ b ∷ c ∷ []) ≡ 0
past_three v a b c past_a past_b past_c =
    elim (front_cases v a (b ∷ c ∷ [])) [
      | inl here ↦ absurd (let e = here.0 in omega arith)
      | inr later ↦ later.1 ∙ elim (front_cases v b (c ∷ [])) [
        | inl here ↦ absurd (let e = here.0 in omega arith)
        | inr rest ↦ rest.1 ∙ elim (front_cases v c []) [
          | inl here ↦ absurd (let e = here.0 in omega arith)
          | inr end ↦ end.1
        ]
      ]
    ]

pub times_none : (m : ℕ) (q : Equation) (v : ℕ) → count_of v (vertices (unknowns q)) ≡ 0 → m * count_of v (vertices (unknowns q)) ≡ 0
times_none m q v none = ap (λ n. m * n) none ∙ (let e : m * 0 ≡ 0 = omega arith in e)

-- an unknown past the bound stands in no equation
pub times_by_past : (f : ℕ → ℕ) (i : ℕ) (qs : List Equation) (bound v : ℕ) → AllByRecursion (IsEquationWithin bound) qs → bound ≤ v → times_by f i qs v ≡ 0
times_by_past f i [] bound v all past = refl
times_by_past f i (q ∷ qs) bound v all past =
    let in_a = all.0.a in
    let in_b = all.0.b in
    let in_c = all.0.c in
    let here = times_none (f i) q v (past_three v q.a q.b q.c (omega arith) (omega arith) (omega arith)) in
    let rest = times_by_past f (i + 1) qs bound v all.1 past in
    omega arith

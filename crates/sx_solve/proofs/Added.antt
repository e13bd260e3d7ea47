-- The unknowns and values of marked equations, added one equation after the other.
use Rattle.std.proofs.Common.{◌≡◌, ◌≢◌, ℕ, suc, ◌+◌, ◌*◌, ◌%◌, ◌<◌, cond, List, [], ◌∷◌, ◌++◌, length, get_or, take, sym, ap, ◌∙◌, arith, All, inl, inr}
use Rattle.std.specs.Prelude.{◌==◌, ◌↔◌, bit_xor}
use Rattle.std.proofs.lemmas.Bool.{cases_lt}
use Rattle.std.proofs.lemmas.List.{take_more, length-take, get_or_past, get_or-map, length-map}
use Rattle.std.proofs.lemmas.Grind.{get_or_default_zero}
use Rattle.sx_spec.specs.declared.Equation.{Equation}
use Rattle.sx_spec.specs.Systems.{unknowns, vertices, count_of, IsSum}
use Rattle.sx_spec.proofs.Counts.{count_of-cons}
use Rattle.sx_solve.specs.Rows.{bit, marked, xor_by, times_by, values}
use Rattle.sx_solve.proofs.Marks.{xor_by_more}
use Rattle.sx_solve.proofs.WordBits.{bit_small}
use Rattle.sx_solve.proofs.Chosen.{mark_is, marked_sum, sum_marked}

-- how often an unknown stands in an equation, as three tests
pub three_tests : (v a b c : ℕ) → count_of v (a ∷ b ∷ c ∷ []) ≡ cond (a == v) 1 0 + (cond (b == v) 1 0 + cond (c == v) 1 0)
three_tests v a b c =
    let last : count_of v (c ∷ []) ≡ cond (c == v) 1 0 = count_of-cons v c [] ∙ (let z : cond (c == v) 1 0 + 0 ≡ cond (c == v) 1 0 = omega arith in z) in
    count_of-cons v a (b ∷ c ∷ []) ∙ ap (λ n. cond (a == v) 1 0 + n) (count_of-cons v b (c ∷ []) ∙ ap (λ n. cond (b == v) 1 0 + n) last)

-- an equation more
times_by_push : (f : ℕ → ℕ) (i : ℕ) (qs : List Equation) (q : Equation) (v : ℕ) → times_by f i (qs ++ q ∷ []) v ≡ times_by f i qs v + f (i + length qs) * count_of v (vertices (unknowns q))
times_by_push f i [] q v =
    let here : i + 0 ≡ i = omega arith in
    let t = count_of v (vertices (unknowns q)) in
    ap (λ k. f k * t + 0) (sym here) ∙ (let e : f (i + 0) * t + 0 ≡ 0 + f (i + 0) * t = omega arith in e)
times_by_push f i (p ∷ qs) q v =
    let t = count_of v (vertices (unknowns q)) in
    let next : (i + 1) + length qs ≡ i + suc (length qs) = omega arith in
    let rest : times_by f (i + 1) (qs ++ q ∷ []) v ≡ times_by f (i + 1) qs v + f (i + suc (length qs)) * t =
    times_by_push f (i + 1) qs q v ∙ ap (λ k. times_by f (i + 1) qs v + f k * t) next in
    ap (λ n. f i * count_of v (vertices (unknowns p)) + n) rest
    ∙ sums (f i * count_of v (vertices (unknowns p))) (times_by f (i + 1) qs v) (f (i + suc (length qs)) * t)
  where
    sums : (a b c : ℕ) → a + (b + c) ≡ (a + b) + c
    sums a b c = omega arith

pub times_by_more : (f : ℕ → ℕ) (qs : List Equation) (i : ℕ) (d : Equation) (v : ℕ) → i < length qs
    → times_by f 0 (take (i + 1) qs) v ≡ times_by f 0 (take i qs) v + f i * count_of v (vertices (unknowns (get_or qs i d)))
times_by_more f qs i d v within =
    let size : 0 + length (take i qs) ≡ i = (let e = length-take i qs in omega arith) in
    ap (λ ps. times_by f 0 ps v) (take_more qs i d within) ∙ times_by_push f 0 (take i qs) (get_or qs i d) v
    ∙ ap (λ k. times_by f 0 (take i qs) v + f k * count_of v (vertices (unknowns (get_or qs i d)))) size

-- what is added where a bit is set
pub added_times : (words : List ℕ) (qs : List Equation) (i : ℕ) (d : Equation) (v before after : ℕ) → i < length qs
    → before % 2 ≡ times_by (bit words) 0 (take i qs) v % 2
    → after % 2 ≡ (before + cond (bit words i == 1) (count_of v (vertices (unknowns (get_or qs i d)))) 0) % 2
    → after % 2 ≡ times_by (bit words) 0 (take (i + 1) qs) v % 2
added_times words qs i d v before after within was now =
    let more = times_by_more (bit words) qs i d v within in
    let t = count_of v (vertices (unknowns (get_or qs i d))) in
    elim (mark_is (bit words i) (bit_small words i)) [
      | inl one ↦
          let plain : after % 2 ≡ (before + t) % 2 = now ∙ ap (λ b. (before + cond b t 0) % 2) one.1 in
          let scale : bit words i * t ≡ t = rw one.0 (let e : 1 * t ≡ t = omega arith in e) in
          omega arith
      | inr none ↦
          let plain : after % 2 ≡ (before + 0) % 2 = now ∙ ap (λ b. (before + cond b t 0) % 2) none.1 in
          let scale : bit words i * t ≡ 0 = rw none.0 (let e : 0 * t ≡ 0 = omega arith in e) in
          omega arith
    ]

pub added_value : (words : List ℕ) (qs : List Equation) (i : ℕ) (d : Equation) (value : ℕ) → i < length qs
    → value ≡ xor_by (bit words) 0 (take i (values qs))
    → bit_xor value (cond (bit words i == 1) (get_or qs i d).value 0) ≡ xor_by (bit words) 0 (take (i + 1) (values qs))
added_value words qs i d value within was =
    let size = length-map qs (λ (q : Equation). q.value) in
    let more = xor_by_more (bit words) (values qs) i 0 (omega arith) in
    let read : get_or (values qs) i 0 ≡ (get_or qs i d).value = get_or-map (λ (q : Equation). q.value) qs i d 0 within in
    let x = (get_or qs i d).value in
    let scaled : cond (bit words i == 1) x 0 ≡ bit words i * x =
    elim (mark_is (bit words i) (bit_small words i)) [
      | inl one ↦ ap (λ b. cond {A = ℕ} b x 0) one.1 ∙ sym (rw one.0 (let e : 1 * x ≡ x = omega arith in e))
      | inr none ↦ ap (λ b. cond {A = ℕ} b x 0) none.1 ∙ sym (rw none.0 (let e : 0 * x ≡ 0 = omega arith in e))
    ] in
    ap (λ z. bit_xor z (cond (bit words i == 1) x 0)) was
    ∙ ap (bit_xor (xor_by (bit words) 0 (take i (values qs)))) (scaled ∙ ap (λ z. bit words i * z) (sym read))
    ∙ sym more

-- ---- in the end

module _ (equations : List Equation) (words : List ℕ) (odd : List ℕ) (value : ℕ)
    (value_is : value ≡ xor_by (bit words) 0 (values equations)) (odd_is : (v : ℕ) → get_or odd v 0 % 2 ≡ times_by (bit words) 0 equations v % 2) where
  pub no_sum : value ≡ 0 → ¬ IsSum equations (marked words (length equations))
  no_sum none is = (sum_marked equations (bit words) (bit_small words) is).1 (sym value_is ∙ none)

  pub sum_iff : value ≢ 0 → All (λ x. x % 2 ≡ 0) odd ↔ IsSum equations (marked words (length equations))
  sum_iff some = (
    λ even. marked_sum equations (bit words) (bit_small words) (λ v. sym (odd_is v) ∙ even_at even v) (λ none. some (value_is ∙ none)),
    λ is v d within.
        let even = (sum_marked equations (bit words) (bit_small words) is).0 v in
        ap (λ x. x % 2) (get_or_default_zero odd v d within) ∙ odd_is v ∙ even,
  )
    where
      even_at : All (λ x. x % 2 ≡ 0) odd → (v : ℕ) → get_or odd v 0 % 2 ≡ 0
      even_at even v = elim (cases_lt v (length odd)) [
        | inl within ↦ even v 0 within
        | inr past ↦ ap (λ x. x % 2) (get_or_past odd v 0 past)
      ]

-- The equations of a set, as the ones whose numbers are chosen.
use Rattle.std.proofs.Common.{◌≡◌, ◌≢◌, ℕ, zero, suc, ◌+◌, ◌*◌, ◌%◌, ◌<◌, ◌≤◌, Bool, true, false, cond, List, [], ◌∷◌, ◌++◌, length, map, refl, sym, ap, subst, ◌∙◌, arith, Some, inl, inr, ◌⊎◌}
use Rattle.std.specs.Prelude.{◌==◌, slice_get, bit_xor, filter}
use Rattle.std.specs.List.{AllByRecursion, cons_option, range_with_len}
use Rattle.std.proofs.lemmas.Bool.{cases_lt}
use Rattle.std.proofs.lemmas.Bool.Decides.{Decides-eqb}
use Rattle.std.proofs.lemmas.List.{append_assoc, length_push}
use Rattle.std.proofs.lemmas.List.Elements.{filter-append}
use Rattle.std.proofs.lemmas.List.Kept.{IsStrictlyIncreasing-filter}
use Rattle.std.proofs.lemmas.List.Sums.{sum_by-append}
use Rattle.sx_spec_strings.proofs.Lists.{at_length, below_more, range_rising}
use Rattle.sx_spec.specs.declared.Equation.{Equation}
use Rattle.sx_spec.specs.Systems.{unknowns, vertices, count_of, chosen, all_unknowns, xor_all, IsSum}
use Rattle.sx_spec.proofs.Counts.{all_counted}
use Rattle.sx_spec.proofs.Sums.{fold_xor}
use Rattle.sx_solve.specs.declared.rows.Row.{Row}
use Rattle.sx_solve.specs.Rows.{bit, xor_by, times_by, values, IsContradictory}
use Rattle.sx_solve.proofs.Marks.{mark_cases}
use Rattle.sx_solve.proofs.WordBits.{bit_small}

-- those of a list, from a place on, whose place is marked
picked : {X : Type 0} → (ℕ → ℕ) → ℕ → List X → List X
picked marks i [] = []
picked marks i (x ∷ later) = cond (marks i == 1) (x ∷ picked marks (i + 1) later) (picked marks (i + 1) later)

chosen_behind : {X : Type 0} (marks : ℕ → ℕ) (xs ys : List X) (a : ℕ) → a ≡ length xs → chosen (xs ++ ys) (filter (λ i. marks i == 1) (range_with_len a (length ys))) ≡ picked marks a ys
unfolding picked
chosen_behind marks xs [] a front = refl
chosen_behind {X} marks xs (y ∷ ys) a front =
    let at : slice_get (xs ++ y ∷ ys) a ≡ Some y = rw front (at_length xs y ys) in
    let regrouped : (xs ++ y ∷ []) ++ ys ≡ xs ++ y ∷ ys = append_assoc xs (y ∷ []) ys in
    let rest : chosen ((xs ++ y ∷ []) ++ ys) (filter (λ i. marks i == 1) (range_with_len (a + 1) (length ys))) ≡ picked marks (a + 1) ys =
    chosen_behind marks (xs ++ y ∷ []) ys (a + 1) (let e = length_push xs y in omega arith) in
    let rest_here : chosen (xs ++ y ∷ ys) (filter (λ i. marks i == 1) (range_with_len (a + 1) (length ys))) ≡ picked marks (a + 1) ys =
    subst (λ (zs : List X). chosen zs (filter (λ i. marks i == 1) (range_with_len (a + 1) (length ys))) ≡ picked marks (a + 1) ys) regrouped rest in
    elim (marks a == 1) as (λ b. chosen (xs ++ y ∷ ys) (cond b (a ∷ filter (λ i. marks i == 1) (range_with_len (a + 1) (length ys))) (filter (λ i. marks i == 1) (range_with_len (a + 1) (length ys))))
    ≡ cond b (y ∷ picked marks (a + 1) ys) (picked marks (a + 1) ys)) [
      | true ↦ ap (λ o. cons_option o (chosen (xs ++ y ∷ ys) (filter (λ i. marks i == 1) (range_with_len (a + 1) (length ys))))) at ∙ ap (λ zs. y ∷ zs) rest_here
      | false ↦ rest_here
    ]

-- ---- sums over what is picked

-- a mark of 1, or none
pub mark_is : (m : ℕ) → m < 2 → ((m ≡ 1) × ((m == 1) ≡ true)) ⊎ ((m ≡ 0) × ((m == 1) ≡ false))
mark_is m small = elim (m == 1) as (λ b. (m == 1) ≡ b → ((m ≡ 1) × (b ≡ true)) ⊎ ((m ≡ 0) × (b ≡ false))) [
  | true ↦ λ e. inl ((Decides-eqb m 1).0 e, refl)
  | false ↦ λ e. inr (
    elim (mark_cases m small) [
      | inl none ↦ none
      | inr one ↦ absurd (let t : (m == 1) ≡ true = (Decides-eqb m 1).1 one in cc)
    ],
    refl,
  )
] refl

picked_xor : (marks : ℕ → ℕ) → ((j : ℕ) → marks j < 2) → (i : ℕ) (qs : List Equation) → xor_all (map (λ q. q.value) (picked marks i qs)) ≡ xor_by marks i (values qs)
unfolding picked
picked_xor marks small i [] = refl
picked_xor marks small i (q ∷ qs) =
    let rest = picked_xor marks small (i + 1) qs in
    elim (mark_is (marks i) (small i)) [
      | inl one ↦
          let scale : marks i * q.value ≡ q.value = rw one.0 (let e : 1 * q.value ≡ q.value = omega arith in e) in
          ap (λ b. xor_all (map (λ p. p.value) (cond b (q ∷ picked marks (i + 1) qs) (picked marks (i + 1) qs)))) one.1
          ∙ fold_xor q.value (map (λ p. p.value) (picked marks (i + 1) qs))
          ∙ ap (bit_xor q.value) rest ∙ ap (λ x. bit_xor x (xor_by marks (i + 1) (values qs))) (sym scale)
      | inr none ↦
          let scale : marks i * q.value ≡ 0 = rw none.0 (let e : 0 * q.value ≡ 0 = omega arith in e) in
          ap (λ b. xor_all (map (λ p. p.value) (cond b (q ∷ picked marks (i + 1) qs) (picked marks (i + 1) qs)))) none.1
          ∙ rest ∙ ap (λ x. bit_xor x (xor_by marks (i + 1) (values qs))) (sym scale)
    ]

picked_times : (marks : ℕ → ℕ) → ((j : ℕ) → marks j < 2) → (i : ℕ) (qs : List Equation) (v : ℕ) → count_of v (all_unknowns (picked marks i qs)) ≡ times_by marks i qs v
unfolding picked
picked_times marks small i [] v = refl
picked_times marks small i (q ∷ qs) v =
    let rest = picked_times marks small (i + 1) qs v in
    elim (mark_is (marks i) (small i)) [
      | inl one ↦
          let scale : marks i * count_of v (vertices (unknowns q)) ≡ count_of v (vertices (unknowns q)) = rw one.0 (let e : 1 * count_of v (vertices (unknowns q)) ≡ count_of v (vertices (unknowns q)) = omega arith in e) in
          let split = sum_by-append (λ y. cond (y == v) 1 0) (vertices (unknowns q)) (all_unknowns (picked marks (i + 1) qs)) in
          ap (λ b. count_of v (all_unknowns (cond b (q ∷ picked marks (i + 1) qs) (picked marks (i + 1) qs)))) one.1
          ∙ split ∙ (omega arith)
      | inr none ↦
          let scale : marks i * count_of v (vertices (unknowns q)) ≡ 0 = rw none.0 (let e : 0 * count_of v (vertices (unknowns q)) ≡ 0 = omega arith in e) in
          ap (λ b. count_of v (all_unknowns (cond b (q ∷ picked marks (i + 1) qs) (picked marks (i + 1) qs)))) none.1
          ∙ rest ∙ (omega arith)
    ]

-- ---- the numbers that are marked

pub marked_more : (p : ℕ → Bool) (n : ℕ) → filter p (range_with_len 0 (n + 1)) ≡ filter p (range_with_len 0 n) ++ cond (p n) (n ∷ []) []
marked_more p n =
    ap (filter p) (below_more n)
    ∙ filter-append p (range_with_len 0 n) (n ∷ [])

-- ---- marks without unknowns are a sum

filtered_within : (p : ℕ → Bool) (a n m : ℕ) → a + n ≤ m → AllByRecursion (λ i. i < m) (filter p (range_with_len a n))
filtered_within p a zero m fits = tt
filtered_within p a (suc n) m fits =
    elim (p a) as (λ b. AllByRecursion (λ i. i < m) (cond b (a ∷ filter p (range_with_len (a + 1) n)) (filter p (range_with_len (a + 1) n)))) [
      | true ↦ (omega arith, filtered_within p (a + 1) n m (omega arith))
      | false ↦ filtered_within p (a + 1) n m (omega arith)
    ]

all_even : (equations : List Equation) (xs : List ℕ) → ((v : ℕ) → count_of v (all_unknowns equations) % 2 ≡ 0) → AllByRecursion (λ v. count_of v (all_unknowns equations) % 2 ≡ 0) xs
all_even equations [] even = tt
all_even equations (x ∷ xs) even = (even x, all_even equations xs even)

-- marked equations in which each unknown stands an even number of times, and whose values come to something
pub marked_sum : (equations : List Equation) (marks : ℕ → ℕ) → ((j : ℕ) → marks j < 2)
    → ((v : ℕ) → times_by marks 0 equations v % 2 ≡ 0) → xor_by marks 0 (values equations) ≢ 0
    → IsSum equations (filter (λ i. marks i == 1) (range_with_len 0 (length equations)))
marked_sum equations marks small even differs =
    let numbers = filter (λ i. marks i == 1) (range_with_len 0 (length equations)) in
    let those : chosen equations numbers ≡ picked marks 0 equations = chosen_behind marks [] equations 0 refl in
    let value : xor_all (map (λ q. q.value) (chosen equations numbers)) ≡ xor_by marks 0 (values equations) =
    ap (λ (qs : List Equation). xor_all (map (λ q. q.value) qs)) those ∙ picked_xor marks small 0 equations in
    record {
      set = record {
        rising = IsStrictlyIncreasing-filter (λ i. marks i == 1) (range_with_len 0 (length equations)) (range_rising 0 (length equations));
        within = filtered_within (λ i. marks i == 1) 0 (length equations) (length equations) (omega arith);
        nonempty = some_number numbers value;
      };
      sum = record {
        even = all_even (chosen equations numbers) (all_unknowns (chosen equations numbers)) (λ v.
            let times : count_of v (all_unknowns (chosen equations numbers)) ≡ times_by marks 0 equations v = ap (λ (qs : List Equation). count_of v (all_unknowns qs)) those ∙ picked_times marks small 0 equations v in
            ap (λ n. n % 2) times ∙ even v);
        value = λ zero_value. differs (sym value ∙ zero_value);
      };
    }
  where
    some_number : (numbers : List ℕ) → xor_all (map (λ q. q.value) (chosen equations numbers)) ≡ xor_by marks 0 (values equations) → 0 < length numbers
    some_number [] value = absurd (differs (sym value))
    some_number (n ∷ numbers) value = omega arith

-- marked equations that are a sum
pub sum_marked : (equations : List Equation) (marks : ℕ → ℕ) → ((j : ℕ) → marks j < 2)
    → IsSum equations (filter (λ i. marks i == 1) (range_with_len 0 (length equations)))
    → ((v : ℕ) → times_by marks 0 equations v % 2 ≡ 0) × (xor_by marks 0 (values equations) ≢ 0)
sum_marked equations marks small is =
    let numbers = filter (λ i. marks i == 1) (range_with_len 0 (length equations)) in
    let those : chosen equations numbers ≡ picked marks 0 equations = chosen_behind marks [] equations 0 refl in
    let value : xor_all (map (λ q. q.value) (chosen equations numbers)) ≡ xor_by marks 0 (values equations) =
    ap (λ (qs : List Equation). xor_all (map (λ q. q.value) qs)) those ∙ picked_xor marks small 0 equations in (
      λ v.
          let times : count_of v (all_unknowns (chosen equations numbers)) ≡ times_by marks 0 equations v = ap (λ (qs : List Equation). count_of v (all_unknowns qs)) those ∙ picked_times marks small 0 equations v in
          elim (cases_lt 0 (count_of v (all_unknowns (chosen equations numbers)))) [
            | inl some ↦
                let even = all_counted (λ u. count_of u (all_unknowns (chosen equations numbers)) % 2 ≡ 0) (all_unknowns (chosen equations numbers)) v is.sum.even some in
                ap (λ n. n % 2) (sym times) ∙ even
            | inr none ↦ omega arith
          ],
      λ zero_value. is.sum.value (value ∙ zero_value),
    )

-- a row without unknowns
pub contradictory_sum : (equations : List Equation) (r : Row) → IsContradictory equations r
    → IsSum equations (filter (λ i. bit r.set.items i == 1) (range_with_len 0 (length equations)))
contradictory_sum equations r is =
    marked_sum equations (bit r.set.items) (bit_small r.set.items) (λ v. sym (is.sum.unknowns v) ∙ is.none v) (λ zero_value. is.value (is.sum.value ∙ zero_value))

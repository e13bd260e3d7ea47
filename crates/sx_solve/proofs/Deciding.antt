-- Equations are solved by some cells or have a sum: sums of them are cleared of one unknown after another, from the last to the first. In the end a sum has no unknown and a value, or cells are set from the first unknown to the last.
use Rattle.std.proofs.Common.{◌≡◌, ◌≢◌, ℕ, zero, suc, ◌+◌, ◌*◌, ◌%◌, ◌<◌, ◌≤◌, List, [], ◌∷◌, length, get_or, set, refl, sym, ap, subst, ◌∙◌, arith, inl, inr, ◌⊎◌, zero-add}
use Rattle.std.specs.Prelude.{bit_xor, replicate}
use Rattle.std.specs.List.{AllByRecursion}
use Rattle.std.specs.Int.Bits.{xor_assoc, xor_self, xor_zero_r}
use Rattle.std.proofs.lemmas.Bool.{cases_eq}
use Rattle.std.proofs.lemmas.List.{get_or-map, length-map, length-set, length-replicate}
use Rattle.std.proofs.lemmas.List.Elements.{recursion_from_All}
use Rattle.std.proofs.lemmas.Nat.{xor_comm}
use Rattle.sx_spec.specs.declared.Equation.{Equation}
use Rattle.sx_spec.specs.Systems.{unknowns, vertices, count_of, cells_at, IsSolvable}
use Rattle.sx_spec.proofs.Counts.{front_cases, count_of-cons}
use Rattle.sx_spec.proofs.Sums.{sums_refute_solutions}
use Rattle.sx_solve.specs.Law.{HasSum, SystemsSolveOrHaveSum}
use Rattle.sx_solve.specs.Rows.{xor_by, times_by, values}
use Rattle.sx_solve.proofs.Marks.{mark_cases, past_three, times_none, times_by_sum, times_by_one, xor_by_sum, xor_by_none, xor_by_one, xor_by_change}
use Rattle.sx_solve.proofs.Sums.{cancel}
use Rattle.sx_solve.proofs.Chosen.{marked_sum}

-- a set of places, each marked by 1 or not, by 0
record Marks : Type 0 where
  at : ℕ → ℕ
  small : (j : ℕ) → at j < 2

-- the places that one of the two sets has and the other hasn't
abbrev sum : Marks → Marks → Marks
sum r s = record { at = λ j. (r.at j + s.at j) % 2; small = λ j. omega arith }

-- ---- one place

one_same : (n : ℕ) → count_of n (n ∷ []) ≡ 1
one_same n = elim (front_cases n n []) [ inl here ↦ here.1 | inr later ↦ absurd (later.0 refl) ]

one_other : (n j : ℕ) → j ≢ n → count_of j (n ∷ []) ≡ 0
one_other n j differ = elim (front_cases j n []) [ inl here ↦ absurd (differ (sym here.0)) | inr later ↦ later.1 ]

one_small : (n j : ℕ) → count_of j (n ∷ []) < 2
one_small n j = elim (front_cases j n []) [ inl here ↦ (let e = here.1 in omega arith) | inr later ↦ (let e = later.1 in omega arith) ]

abbrev one : ℕ → Marks
one n = record { at = λ j. count_of j (n ∷ []); small = one_small n }

one_xor : (n : ℕ) (xs : List ℕ) → n < length xs → xor_by (one n).at 0 xs ≡ get_or xs n 0
one_xor n xs within =
    xor_by_one (one n).at 0 n xs (ap (one n).at (zero-add n) ∙ one_same n) (λ j differ. one_other n j (λ same. differ (same ∙ sym (zero-add n)))) within

-- the xor of the cells of three unknowns, of which those that stand twice cancel
three_xor : (a b c : ℕ) (cells : List ℕ) → a < length cells → b < length cells → c < length cells
    → xor_by (λ v. count_of v (a ∷ b ∷ c ∷ []) % 2) 0 cells ≡ bit_xor (bit_xor (get_or cells a 0) (get_or cells b 0)) (get_or cells c 0)
three_xor a b c cells in_a in_b in_c =
    xor_by_sum (sum (one a) (one b)).at (one c).at (λ v. count_of v (a ∷ b ∷ c ∷ []) % 2) (sum (one a) (one b)).small (one c).small (λ v. counted v) 0 cells
    ∙ ap (λ z. bit_xor z (xor_by (one c).at 0 cells)) (xor_by_sum (one a).at (one b).at (sum (one a) (one b)).at (one a).small (one b).small (λ v. refl) 0 cells)
    ∙ ap (bit_xor (bit_xor (xor_by (one a).at 0 cells) (xor_by (one b).at 0 cells))) (one_xor c cells in_c)
    ∙ ap (λ z. bit_xor (bit_xor (xor_by (one a).at 0 cells) z) (get_or cells c 0)) (one_xor b cells in_b)
    ∙ ap (λ z. bit_xor (bit_xor z (get_or cells b 0)) (get_or cells c 0)) (one_xor a cells in_a)
  where
    counted : (v : ℕ) → count_of v (a ∷ b ∷ c ∷ []) % 2 ≡ ((count_of v (a ∷ []) + count_of v (b ∷ [])) % 2 + count_of v (c ∷ [])) % 2
    counted v =
        let all = count_of-cons v a (b ∷ c ∷ []) in
        let rest = count_of-cons v b (c ∷ []) in
        let of_a = count_of-cons v a [] in
        let of_b = count_of-cons v b [] in
        omega arith

-- ---- a bound of the unknowns

room : List Equation → ℕ
room [] = 0
room (q ∷ qs) = q.a + q.b + q.c + 1 + room qs

room_at : (qs : List Equation) (i : ℕ) (d : Equation) → i < length qs → ((get_or qs i d).a < room qs) × ((get_or qs i d).b < room qs) × ((get_or qs i d).c < room qs)
unfolding room
room_at [] i d within = absurd (omega arith)
room_at (q ∷ qs) zero d within = (omega arith, omega arith, omega arith)
room_at (q ∷ qs) (suc i) d within = let rest = room_at qs i d (omega arith) in let a = rest.0 in let b = rest.1 in let c = rest.2 in (omega arith, omega arith, omega arith)

times_by_room : (f : ℕ → ℕ) (i : ℕ) (qs : List Equation) (v : ℕ) → room qs ≤ v → times_by f i qs v ≡ 0
unfolding room
times_by_room f i [] v past = refl
times_by_room f i (q ∷ qs) v past =
    let here = times_none (f i) q v (past_three v q.a q.b q.c (omega arith) (omega arith) (omega arith)) in
    let rest = times_by_room f (i + 1) qs v (omega arith) in
    omega arith

module _ (equations : List Equation) where
  -- ---- sums of equations

  -- whether the unknown stands in the sum of the marked equations
  abbrev parity : Marks → ℕ → ℕ
  parity r v = times_by r.at 0 equations v % 2

  -- the xor of their values
  abbrev total : Marks → ℕ
  total r = xor_by r.at 0 (values equations)

  abbrev IsMet : List ℕ → Marks → Type 0
  IsMet cells r = xor_by (parity r) 0 cells ≡ total r

  -- the unknowns of the sum are below n
  abbrev IsBelow : ℕ → Marks → Type 0
  IsBelow n r = (v : ℕ) → n ≤ v → parity r v ≡ 0

  parity_small : (r : Marks) (v : ℕ) → parity r v < 2
  parity_small r v = omega arith

  sum_parity : (r s : Marks) (v : ℕ) → parity (sum r s) v ≡ (parity r v + parity s v) % 2
  sum_parity r s v = times_by_sum r.at s.at (sum r s).at r.small s.small (λ j. refl) 0 equations v

  sum_met : (cells : List ℕ) (r s : Marks) → IsMet cells s → IsMet cells (sum r s) → IsMet cells r
  sum_met cells r s met_s met =
      cancel (xor_by (parity r) 0 cells) (total r) (total s)
      (ap (bit_xor (xor_by (parity r) 0 cells)) (sym met_s)
      ∙ sym (xor_by_sum (parity r) (parity s) (parity (sum r s)) (parity_small r) (parity_small s) (sum_parity r s) 0 cells)
      ∙ met ∙ xor_by_sum r.at s.at (sum r s).at r.small s.small (λ j. refl) 0 (values equations))

  -- ---- an unknown is cleared

  less : (n : ℕ) (r : Marks) → IsBelow (suc n) r → parity r n ≡ 0 → IsBelow n r
  less n r below none v low = elim (cases_eq v n) [ inl same ↦ ap (parity r) same ∙ none | inr differ ↦ below v (omega arith) ]

  -- sums without the unknown n, from which, and from p, the others follow
  record Cleared (p : Marks) (n : ℕ) (rows : List Marks) : Type 0 where
    left : List Marks
    below : AllByRecursion (IsBelow n) left
    back : (cells : List ℕ) → IsMet cells p → AllByRecursion (IsMet cells) left → AllByRecursion (IsMet cells) rows

  clear : (p : Marks) (n : ℕ) → IsBelow (suc n) p → parity p n ≡ 1 → (rows : List Marks) → AllByRecursion (IsBelow (suc n)) rows → Cleared p n rows
  clear p n below_p here [] below = record { left = []; below = tt; back = λ cells met all. tt }
  clear p n below_p here (r ∷ rows) below =
      let rest = clear p n below_p here rows below.1 in
      elim (mark_cases (parity r n) (parity_small r n)) [
        | inl none ↦ record {
          left = r ∷ rest.left;
          below = (less n r below.0 none, rest.below);
          back = λ cells met all. (all.0, rest.back cells met all.1);
        }
        | inr stands ↦ record {
          left = sum r p ∷ rest.left;
          below = (
            less n (sum r p)
                (λ v low. let e = sum_parity r p v in let a = below.0 v low in let b = below_p v low in omega arith)
                (let e = sum_parity r p n in omega arith),
            rest.below,
          );
          back = λ cells met all. (sum_met cells r p met all.0, rest.back cells met all.1);
        }
      ]

  -- a sum with the unknown n
  record Pivot (n : ℕ) : Type 0 where
    row : Marks
    below : IsBelow (suc n) row
    stands : parity row n ≡ 1

  find_pivot : (n : ℕ) (rows : List Marks) → AllByRecursion (IsBelow (suc n)) rows → Pivot n ⊎ AllByRecursion (IsBelow n) rows
  find_pivot n [] below = inr tt
  find_pivot n (r ∷ rows) below =
      elim (mark_cases (parity r n) (parity_small r n)) [
        | inl none ↦ elim (find_pivot n rows below.1) [
          | inl pivot ↦ inl pivot
          | inr rest ↦ inr (less n r below.0 none, rest)
        ]
        | inr stands ↦ inl (record { row = r; below = below.0; stands = stands })
      ]

  -- ---- a cell is set

  module _ (cells : List ℕ) (n : ℕ) (within : n < length cells) where
    pivot_met : (p : Marks) → parity p n ≡ 1 → (delta : ℕ) → delta ≡ bit_xor (total p) (xor_by (parity p) 0 cells) → IsMet (set cells n (bit_xor (get_or cells n 0) delta)) p
    pivot_met p stands delta is =
        let x = xor_by (parity p) 0 cells in
        let scale : parity p (0 + n) * delta ≡ delta = rw (zero-add n, stands) (let e : 1 * delta ≡ delta = omega arith in e) in
        xor_by_change (parity p) (parity_small p) 0 cells n delta within
        ∙ ap (bit_xor x) (scale ∙ is ∙ xor_comm (total p) x) ∙ sym (xor_assoc x x (total p)) ∙ ap (λ z. bit_xor z (total p)) (xor_self x)

    others_met : (delta : ℕ) (rows : List Marks) → AllByRecursion (IsBelow n) rows → AllByRecursion (IsMet cells) rows → AllByRecursion (IsMet (set cells n (bit_xor (get_or cells n 0) delta))) rows
    others_met delta [] below met = tt
    others_met delta (r ∷ rows) below met =
        let none = below.0 n (omega arith) in
        let scale : parity r (0 + n) * delta ≡ 0 = rw (zero-add n, none) (let e : 0 * delta ≡ 0 = omega arith in e) in (
          xor_by_change (parity r) (parity_small r) 0 cells n delta within
              ∙ ap (bit_xor (xor_by (parity r) 0 cells)) scale ∙ xor_zero_r (xor_by (parity r) 0 cells) ∙ met.0,
          others_met delta rows below.1 met.1,
        )

  -- ---- cells or a sum

  -- so many cells meet the rows
  record Met (bound : ℕ) (rows : List Marks) : Type 0 where
    cells : List ℕ
    size : length cells ≡ bound
    met : AllByRecursion (IsMet cells) rows

  -- rows without unknowns
  in_the_end : (cells : List ℕ) (rows : List Marks) → AllByRecursion (IsBelow 0) rows → AllByRecursion (IsMet cells) rows ⊎ HasSum equations
  in_the_end cells [] below = inl tt
  in_the_end cells (r ∷ rows) below =
      elim (cases_eq (total r) 0) [
        | inl none ↦ elim (in_the_end cells rows below.1) [
          | inl met ↦ inl (xor_by_none (parity r) 0 cells (λ j h. below.0 j h) ∙ sym none, met)
          | inr has ↦ inr has
        ]
        | inr some ↦ let is = marked_sum equations r.at r.small (λ v. below.0 v (omega arith)) some in inr (_, is)
      ]

  decided : (bound n : ℕ) → n ≤ bound → (rows : List Marks) → AllByRecursion (IsBelow n) rows → Met bound rows ⊎ HasSum equations
  decided bound zero fits rows below =
      elim (in_the_end (replicate bound 0) rows below) [
        | inl met ↦ inl (record { cells = replicate bound 0; size = length-replicate bound 0; met = met })
        | inr has ↦ inr has
      ]
  decided bound (suc n) fits rows below =
      elim (find_pivot n rows below) [
        | inl pivot ↦
            let p = pivot.row in
            let cleared = clear p n pivot.below pivot.stands rows below in
            elim (decided bound n (omega arith) cleared.left cleared.below) [
              | inl is ↦
                  let cells = is.cells in
                  let delta = bit_xor (total p) (xor_by (parity p) 0 cells) in
                  let within : n < length cells = (let e = is.size in omega arith) in
                  let new = set cells n (bit_xor (get_or cells n 0) delta) in
                  inl (record {
                    cells = new;
                    size = length-set cells n (bit_xor (get_or cells n 0) delta) ∙ is.size;
                    met = cleared.back new (pivot_met cells n within p pivot.stands delta refl) (others_met cells n within delta cleared.left cleared.below is.met);
                  })
              | inr has ↦ inr has
            ]
        | inr rest ↦ decided bound n (omega arith) rows rest
      ]

  -- ---- the equations themselves

  -- the sums of one equation each
  singles : ℕ → ℕ → List Marks
  singles a zero = []
  singles a (suc n) = one a ∷ singles (a + 1) n

  singles_below : (a n : ℕ) → AllByRecursion (IsBelow (room equations)) (singles a n)
  unfolding singles
  singles_below a zero = tt
  singles_below a (suc n) = (λ v past. ap (λ k. k % 2) (times_by_room (one a).at 0 equations v past), singles_below (a + 1) n)

  singles_met : (cells : List ℕ) (a n : ℕ) → AllByRecursion (IsMet cells) (singles a n) → (i : ℕ) → a ≤ i → i < a + n → IsMet cells (one i)
  unfolding singles
  singles_met cells a zero met i from within = absurd (omega arith)
  singles_met cells a (suc n) met i from within =
      elim (cases_eq i a) [
        | inl same ↦ subst (λ k. IsMet cells (one k)) (sym same) met.0
        | inr differ ↦ singles_met cells (a + 1) n met.1 i (omega arith) (omega arith)
      ]

  -- a sum of one equation is met where the equation is
  single_met : (cells : List ℕ) → length cells ≡ room equations → (i : ℕ) (d : Equation) → i < length equations → IsMet cells (one i)
      → cells_at cells (unknowns (get_or equations i d)) ≡ (get_or equations i d).value
  single_met cells size i d within met =
      let q = get_or equations i d in
      let fits = room_at equations i d within in
      let in_a = fits.0 in
      let in_b = fits.1 in
      let in_c = fits.2 in
      let at : (one i).at (0 + i) ≡ 1 = ap (one i).at (zero-add i) ∙ one_same i in
      let off : (j : ℕ) → j ≢ 0 + i → (one i).at j ≡ 0 = λ j differ. one_other i j (λ same. differ (same ∙ sym (zero-add i))) in
      let same : (v : ℕ) → parity (one i) v ≡ count_of v (vertices (unknowns q)) % 2 = λ v. ap (λ k. k % 2) (times_by_one (one i).at 0 i equations v d at off within) in
      sym (three_xor q.a q.b q.c cells (omega arith) (omega arith) (omega arith))
      ∙ sym (ap (λ f. xor_by f 0 cells) (λ k v. same v k))
      ∙ met
      ∙ one_xor i (values equations) (let e = length-map equations (λ (p : Equation). p.value) in omega arith)
      ∙ get_or-map (λ (p : Equation). p.value) equations i d 0 within

  solvable_or_sum : IsSolvable equations ⊎ HasSum equations
  solvable_or_sum =
      elim (decided (room equations) (room equations) (omega arith) (singles 0 (length equations)) (singles_below 0 (length equations))) [
        | inl is ↦ inl (
          is.cells,
          recursion_from_All (λ q. cells_at is.cells (unknowns q) ≡ q.value) equations
              (λ i d within. single_met is.cells is.size i d within (singles_met is.cells 0 (length equations) is.met i (omega arith) (omega arith))),
        )
        | inr has ↦ inr has
      ]

pub systems_solve_or_have_sum : SystemsSolveOrHaveSum
systems_solve_or_have_sum equations = (solvable_or_sum equations, λ solvable (numbers, is). sums_refute_solutions equations numbers is solvable)

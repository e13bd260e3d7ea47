-- The numbers of the edges that are not taken yet.
use Rattle.std.proofs.Common.{◌≡◌, ℕ, ◌+◌, ◌<◌, Bool, true, false, cond, List, [], ◌∷◌, ◌++◌, length, refl, sym, ap, subst, ◌∙◌, arith, inl, inr, Option, Some, None}
use Rattle.std.specs.Prelude.{◌==◌, ◌&&◌, not, filter, is_some, All, Contains}
use Rattle.std.specs.List.{range_with_len}
use Rattle.std.proofs.lemmas.List.{append-nil, map_push}
use Rattle.std.proofs.lemmas.List.Elements.{filter-append, recursion_from_All}
use Rattle.sx_spec_strings.proofs.Lists.{below_more}
use Rattle.sx_links.specs.Seats.{Lists, IsListOf}
use Rattle.sx_spec.specs.declared.Edge.{Edge}
use Rattle.sx_spec.specs.Systems.{count_of}
use Rattle.sx_spec.proofs.Counts.{front_cases, all_at, at_index}
use Rattle.sx_peel.specs.declared.Taken.{Taken}
use Rattle.sx_peel.specs.Peeling.{IsEdgeWithin, taken_edges}
use Rattle.sx_peel.specs.UnderWay.{IsLinked, left_after}
use Rattle.sx_peel.proofs.Numbers.{count_of-append, range_once}
use Rattle.sx_peel.proofs.Seats.{equal_test, differ_test, seats_sound, seats_complete}

all_pass : (p : ℕ → Bool) (numbers : List ℕ) → ((i : ℕ) → p i ≡ true) → filter p numbers ≡ numbers
all_pass p [] pass = refl
all_pass p (i ∷ rest) pass = ap (λ b. cond b (i ∷ filter p rest) (filter p rest)) (pass i) ∙ ap (λ ns. i ∷ ns) (all_pass p rest pass)

-- at first all are left
pub left_first : (edges : List Edge) → left_after edges [] ≡ range_with_len 0 (length edges)
left_first edges = all_pass (λ i. count_of i (taken_edges []) == 0) (range_with_len 0 (length edges)) (λ i. refl)

-- two tests in one
filter_both : (p q r : ℕ → Bool) (numbers : List ℕ) → ((i : ℕ) → r i ≡ (p i && q i)) → filter r numbers ≡ filter q (filter p numbers)
filter_both p q r [] both = refl
filter_both p q r (i ∷ rest) both =
    ap (λ b. cond b (i ∷ filter r rest) (filter r rest)) (both i)
    ∙ elim (p i) as (λ b. cond (b && q i) (i ∷ filter r rest) (filter r rest) ≡ filter q (cond b (i ∷ filter p rest) (filter p rest))) [
      | true ↦ ap (λ ns. cond (q i) (i ∷ ns) ns) (filter_both p q r rest both)
      | false ↦ filter_both p q r rest both
    ]

-- it isn't among the numbers and one more where it isn't among them, nor the one
not_pushed : (i x : ℕ) (numbers : List ℕ) → (count_of i (numbers ++ x ∷ []) == 0) ≡ ((count_of i numbers == 0) && not (i == x))
not_pushed i x numbers =
    let split = count_of-append i numbers (x ∷ []) in
    elim (front_cases i x []) [
      | inl here ↦
          let one = here.1 in
          differ_test (count_of i (numbers ++ x ∷ [])) 0 (omega arith)
          ∙ sym (ap (λ b. (count_of i numbers == 0) && not b) (equal_test i x (sym here.0)) ∙ and_false (count_of i numbers == 0))
      | inr other ↦
          let none = other.1 in
          let same : count_of i (numbers ++ x ∷ []) ≡ count_of i numbers = omega arith in
          ap (λ n. n == 0) same
          ∙ sym (ap (λ b. (count_of i numbers == 0) && not b) (differ_test i x (λ e. other.0 (sym e))) ∙ and_true (count_of i numbers == 0))
    ]
  where
    and_false : (b : Bool) → (b && false) ≡ false
    and_false true = refl
    and_false false = refl

    and_true : (b : Bool) → (b && true) ≡ b
    and_true true = refl
    and_true false = refl

-- an edge more is taken
pub left_next : (edges : List Edge) (order : List Taken) (t : Taken) → left_after edges (order ++ t ∷ []) ≡ filter (λ i. not (i == t.edge)) (left_after edges order)
left_next edges order t =
    filter_both (λ i. count_of i (taken_edges order) == 0) (λ i. not (i == t.edge)) (λ i. count_of i (taken_edges (order ++ t ∷ [])) == 0) (range_with_len 0 (length edges))
    (λ i. ap (λ ns. count_of i ns == 0) (map_push (λ (w : Taken). w.edge) order t) ∙ not_pushed i t.edge (taken_edges order))

-- ---- one taken out of the middle

none_out : (i : ℕ) (numbers : List ℕ) → count_of i numbers ≡ 0 → filter (λ j. not (j == i)) numbers ≡ numbers
none_out i [] none = refl
none_out i (x ∷ rest) none =
    elim (front_cases i x rest) [
      | inl here ↦ let one = here.1 in absurd (omega arith)
      | inr other ↦
          let same = other.1 in
          ap (λ b. cond (not b) (x ∷ filter (λ j. not (j == i)) rest) (filter (λ j. not (j == i)) rest)) (differ_test x i other.0)
          ∙ ap (λ ns. x ∷ ns) (none_out i rest (omega arith))
    ]

-- a number that is there once stands between others, which are left without it
pub record Parted (i : ℕ) (numbers : List ℕ) : Type 0 where
  pub xs : List ℕ
  pub ys : List ℕ
  pub whole : numbers ≡ xs ++ i ∷ ys
  pub without : filter (λ j. not (j == i)) numbers ≡ xs ++ ys

pub parted : (i : ℕ) (numbers : List ℕ) → count_of i numbers ≡ 1 → Parted i numbers
parted i [] once = absurd (omega arith)
parted i (x ∷ rest) once =
    elim (front_cases i x rest) [
      | inl here ↦
          let one = here.1 in
          record {
            xs = [];
            ys = rest;
            whole = ap (λ j. j ∷ rest) here.0;
            without =
                ap (λ b. cond (not b) (x ∷ filter (λ j. not (j == i)) rest) (filter (λ j. not (j == i)) rest)) (equal_test x i here.0)
                ∙ none_out i rest (omega arith);
          }
      | inr other ↦
          let same = other.1 in
          let more = parted i rest (omega arith) in
          record {
            xs = x ∷ more.xs;
            ys = more.ys;
            whole = ap (λ ns. x ∷ ns) more.whole;
            without =
                ap (λ b. cond (not b) (x ∷ filter (λ j. not (j == i)) rest) (filter (λ j. not (j == i)) rest)) (differ_test x i other.0)
                ∙ ap (λ ns. x ∷ ns) more.without;
          }
    ]

-- ---- numbers that are found one by one

-- one that is left
pub found_more : (p : ℕ → Bool) (n : ℕ) → p n ≡ true → filter p (range_with_len 0 (n + 1)) ≡ filter p (range_with_len 0 n) ++ n ∷ []
found_more p n pass =
    ap (filter p) (below_more n)
    ∙ filter-append p (range_with_len 0 n) (n ∷ [])
    ∙ ap (λ b. filter p (range_with_len 0 n) ++ cond b (n ∷ []) []) pass

-- one that is not
pub passed_over : (p : ℕ → Bool) (n : ℕ) → p n ≡ false → filter p (range_with_len 0 (n + 1)) ≡ filter p (range_with_len 0 n)
passed_over p n fail =
    ap (filter p) (below_more n)
    ∙ filter-append p (range_with_len 0 n) (n ∷ [])
    ∙ ap (λ b. filter p (range_with_len 0 n) ++ cond b (n ∷ []) []) fail
    ∙ append-nil (filter p (range_with_len 0 n))

filter_passes : (p : ℕ → Bool) (i : ℕ) (numbers : List ℕ) → 0 < count_of i (filter p numbers) → p i ≡ true
filter_passes p i [] some = absurd (omega arith)
filter_passes p i (x ∷ rest) some =
    elim (p x) as (λ b. p x ≡ b → 0 < count_of i (cond b (x ∷ filter p rest) (filter p rest)) → p i ≡ true) [
      | true ↦ λ pass some. elim (front_cases i x (filter p rest)) [
        | inl here ↦ ap p (sym here.0) ∙ pass
        | inr other ↦ let same = other.1 in filter_passes p i rest (omega arith)
      ]
      | false ↦ λ fail some. filter_passes p i rest some
    ] refl some

filter_counts : (p : ℕ → Bool) (i : ℕ) (numbers : List ℕ) → p i ≡ true → 0 < count_of i numbers → 0 < count_of i (filter p numbers)
filter_counts p i [] pass some = absurd (omega arith)
filter_counts p i (x ∷ rest) pass some =
    elim (p x) as (λ b. p x ≡ b → 0 < count_of i (cond b (x ∷ filter p rest) (filter p rest))) [
      | true ↦ λ keeps. elim (front_cases i x rest) [
        | inl here ↦ elim (front_cases i x (filter p rest)) [ inl front ↦ let one = front.1 in omega arith | inr other ↦ absurd (other.0 here.0) ]
        | inr other ↦
            let same = other.1 in
            let more = filter_counts p i rest pass (omega arith) in
            elim (front_cases i x (filter p rest)) [ inl front ↦ let one = front.1 in omega arith | inr beside ↦ let alike = beside.1 in omega arith ]
      ]
      | false ↦ λ drops. elim (front_cases i x rest) [
        | inl here ↦ let both : true ≡ false = sym pass ∙ ap p (sym here.0) ∙ drops in absurd cc
        | inr other ↦ let same = other.1 in filter_counts p i rest pass (omega arith)
      ]
    ] refl

-- an edge is left where the list of its first hook is known
pub is_left : (edges : List Edge) (links : Lists) (order : List Taken) (i : ℕ) → All (IsEdgeWithin (length links.lists)) edges → IsLinked edges (left_after edges order) links → i < length edges
    → (list : Option ℕ) → IsListOf links (record { item = i; hook = 0 }) list → is_some list ≡ (count_of i (taken_edges order) == 0)
is_left edges links order i within linked inside None free =
    elim (count_of i (taken_edges order) == 0) as (λ b. (count_of i (taken_edges order) == 0) ≡ b → false ≡ b) [
      | true ↦ λ pass. absurd (
          let (e, at) = at_index edges i inside in
          let fits = all_at (IsEdgeWithin (length links.lists)) edges (recursion_from_All (IsEdgeWithin (length links.lists)) edges within) i e at in
          let once = range_once 0 (length edges) i (omega arith) (omega arith) in
          let counts = filter_counts (λ j. count_of j (taken_edges order) == 0) i (range_with_len 0 (length edges)) pass (omega arith) in
          let has = seats_complete (length links.lists) edges (left_after edges order) i 0 e fits (omega arith) at counts in
          free (e.a, (fits.a, subst (λ ts. Contains ts (record { item = i; hook = 0 })) (sym (linked.seats e.a fits.a)) has)))
      | false ↦ λ fail. refl
    ] refl
is_left edges links order i within linked inside (Some v) lies =
    let seat = seats_sound edges v (left_after edges order) (record { item = i; hook = 0 }) (subst (λ ts. Contains ts (record { item = i; hook = 0 })) (linked.seats v lies.0.0) lies.0.1) in
    sym (filter_passes (λ j. count_of j (taken_edges order) == 0) i (range_with_len 0 (length edges)) seat.counts)

-- Lists of seats, of which each is a seat of an item: what is read from them, and how they change.
use Rattle.std.proofs.Common.{◌≡◌, ℕ, zero, suc, ◌<◌, Bool, true, false, not, cond, List, [], ◌∷◌, length, map, get_or, set, refl, sym, ap, subst, ◌∙◌, arith, inl, inr, ◌⊎◌, Some}
use Rattle.std.specs.Prelude.{◌==◌, Contains, filter, replicate, slice_get}
use Rattle.std.proofs.lemmas.Bool.{cases_eq, cases_lt}
use Rattle.std.proofs.lemmas.Bool.Decides.{Decides-eqb}
use Rattle.std.proofs.lemmas.List.{get_or-set_same, get_or-set_other, length-set, length-map, length-replicate, get_or-replicate, get_or_past}
use Rattle.std.proofs.lemmas.Option.{slice_get_within, get_or_from_slice_get}
use Rattle.sx_links.specs.declared.Seat.{Seat}
use Rattle.sx_links.specs.Seats.{Lists, seats_of, LiesOn, IsTaken, IsSeat, put_first, same_seat, without, taken_out, after}
use Rattle.sx_solve.specs.Lazy.{AreSeats}

-- ---- elements of lists

-- an element of a longer list is the first or one of the others
first_or_other : {X : Type 0} (x y : X) (xs : List X) → Contains (x ∷ xs) y → (x ≡ y) ⊎ Contains xs y
first_or_other x y xs (zero, within, at) = inl at
first_or_other x y xs (suc k, within, at) = inr (k, omega arith, at)

other : {X : Type 0} (x y : X) (xs : List X) → Contains xs y → Contains (x ∷ xs) y
other x y xs (k, within, at) = (suc k, omega arith, at)

no_element : {X : Type 0} (y : X) → Contains [] y → ⊥
no_element y (k, within, at) = omega arith

-- an element that passed a test was there
filtered : {X : Type 0} (p : X → Bool) (y : X) (xs : List X) → Contains (filter p xs) y → Contains xs y
filtered p y [] is = absurd (no_element y is)
filtered {X} p y (x ∷ xs) is =
    let by_test : (b : Bool) → Contains (cond b (x ∷ filter p xs) (filter p xs)) y → Contains (x ∷ xs) y = λ b. elim b as (λ b. Contains (cond b (x ∷ filter p xs) (filter p xs)) y → Contains (x ∷ xs) y) [
      | true ↦ λ at. elim (first_or_other x y (filter p xs) at) [
        | inl here ↦ (zero, omega arith, here)
        | inr later ↦ other x y xs (filtered p y xs later)
      ]
      | false ↦ λ at. other x y xs (filtered p y xs at)
    ] in
    by_test (p x) is

-- an element that passed a test passes it
passes : {X : Type 0} (p : X → Bool) (y : X) (xs : List X) → Contains (filter p xs) y → p y ≡ true
passes p y [] is = absurd (no_element y is)
passes {X} p y (x ∷ xs) is =
    let by_test : (b : Bool) → p x ≡ b → Contains (cond b (x ∷ filter p xs) (filter p xs)) y → p y ≡ true = λ b. elim b as (λ b. p x ≡ b → Contains (cond b (x ∷ filter p xs) (filter p xs)) y → p y ≡ true) [
      | true ↦ λ e at. elim (first_or_other x y (filter p xs) at) [
        | inl here ↦ ap p (sym here) ∙ e
        | inr later ↦ passes p y xs later
      ]
      | false ↦ λ e at. passes p y xs at
    ] in
    by_test (p x) refl is

-- ---- seats

same_itself : (s : Seat) → same_seat s s ≡ true
same_itself s =
    let item : (s.item == s.item) ≡ true = (Decides-eqb s.item s.item).1 refl in
    let hook : (s.hook == s.hook) ≡ true = (Decides-eqb s.hook s.hook).1 refl in
    rw (item, hook) refl

-- what stands after a seat stands on the list
after_contains : (s t : Seat) (seats : List Seat) → after s seats ≡ Some t → Contains seats t
after_contains s t [] is = absurd cc
after_contains s t (r ∷ seats) is =
    let by_test : (b : Bool) → cond b (slice_get seats 0) (after s seats) ≡ Some t → Contains (r ∷ seats) t = λ b. elim b as (λ b. cond b (slice_get seats 0) (after s seats) ≡ Some t → Contains (r ∷ seats) t) [
      | true ↦ λ at. other r t seats (0, slice_get_within seats 0 t at, get_or_from_slice_get seats 0 t t at)
      | false ↦ λ at. other r t seats (after_contains s t seats at)
    ] in
    by_test (same_seat r s) is

pub first_lies : (l : Lists) (list : ℕ) (s : Seat) → list < length l.lists → slice_get (seats_of l list) 0 ≡ Some s → LiesOn l list s
first_lies l list s within is = (within, (0, slice_get_within (seats_of l list) 0 s is, get_or_from_slice_get (seats_of l list) 0 s s is))

pub next_lies : (l : Lists) (list : ℕ) (s t : Seat) → list < length l.lists → after s (seats_of l list) ≡ Some t → LiesOn l list t
next_lies l list s t within is = (within, after_contains s t (seats_of l list) is)

-- ---- lists that change

pub seats_new : (items hooks lists : ℕ) → AreSeats items hooks lists (record { items = items; hooks = hooks; lists = replicate lists [] })
seats_new items hooks lists = record {
  of_items = refl;
  of_hooks = refl;
  of_lists = length-replicate {A = List Seat} lists [];
  seats = λ list s lies. absurd (no_element s (subst (λ (seats : List Seat). Contains seats s) (none list) lies.1));
}
  where
    none : (list : ℕ) → seats_of (record { items = items; hooks = hooks; lists = replicate lists [] }) list ≡ []
    none list = elim (cases_lt list lists) [
      | inl within ↦ get_or-replicate lists list [] [] within
      | inr past ↦ get_or_past (replicate lists []) list [] (let e = length-replicate {A = List Seat} lists [] in omega arith)
    ]

pub seats_push : (l : Lists) (list : ℕ) (s : Seat) → list < length l.lists → IsSeat l s → (items hooks lists : ℕ) → AreSeats items hooks lists l → AreSeats items hooks lists (put_first list s l)
seats_push l list s within is items hooks lists are = record {
  of_items = are.of_items;
  of_hooks = are.of_hooks;
  of_lists = length-set {A = List Seat} l.lists list (s ∷ seats_of l list) ∙ are.of_lists;
  seats = λ j t lies.
      let size = length-set {A = List Seat} l.lists list (s ∷ seats_of l list) in
      elim (cases_eq j list) [
        | inl same ↦
            let here : get_or (set l.lists list (s ∷ seats_of l list)) j [] ≡ s ∷ seats_of l list =
            ap (λ k. get_or (set l.lists list (s ∷ seats_of l list)) k []) same ∙ get_or-set_same l.lists list (s ∷ seats_of l list) [] within in
            elim (first_or_other s t (seats_of l list) (subst (λ (seats : List Seat). Contains seats t) here lies.1)) [
              | inl first ↦ subst (IsSeat l) first is
              | inr later ↦ are.seats list t (within, later)
            ]
        | inr differ ↦
            let there : get_or (set l.lists list (s ∷ seats_of l list)) j [] ≡ seats_of l j = get_or-set_other l.lists list j (s ∷ seats_of l list) [] differ in
            are.seats j t (omega arith, subst (λ (seats : List Seat). Contains seats t) there lies.1)
      ];
}

-- a list without a seat
without_at : (lists : List (List Seat)) (s : Seat) (j : ℕ) → get_or (map (without s) lists) j [] ≡ without s (get_or lists j [])
without_at [] s j = refl
without_at (seats ∷ lists) s zero = refl
without_at (seats ∷ lists) s (suc j) = without_at lists s j

pub seats_unlink : (l : Lists) (s : Seat) (items hooks lists : ℕ) → AreSeats items hooks lists l → AreSeats items hooks lists (taken_out s l)
seats_unlink l s items hooks lists are = record {
  of_items = are.of_items;
  of_hooks = are.of_hooks;
  of_lists = length-map l.lists (without s) ∙ are.of_lists;
  seats = λ j t lies.
      let size = length-map l.lists (without s) in
      are.seats j t (omega arith, filtered (λ r. not (same_seat r s)) t (seats_of l j) (subst (λ (seats : List Seat). Contains seats t) (without_at l.lists s j) lies.1));
}

-- a seat that was taken out lies on no list
pub unlinked_free : (l : Lists) (s : Seat) → ¬ IsTaken (taken_out s l) s
unlinked_free l s (j, lies) =
    let passed : not (same_seat s s) ≡ true = passes (λ r. not (same_seat r s)) s (seats_of l j) (subst (λ (seats : List Seat). Contains seats s) (without_at l.lists s j) lies.1) in
    let same = same_itself s in
    absurd (let e : not true ≡ true = ap not (sym same) ∙ passed in cc)

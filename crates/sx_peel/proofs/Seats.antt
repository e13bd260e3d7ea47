-- The seats of a vertex on edges: how many there are, which they are, and what is left without an edge.
use Rattle.std.proofs.Common.{◌≡◌, ◌≢◌, ℕ, zero, suc, ◌+◌, ◌<◌, Bool, true, false, cond, List, [], ◌∷◌, length, refl, sym, ap, subst, ◌∙◌, arith, inl, inr, ◌⊎◌, Some, None, Option}
use Rattle.std.specs.Prelude.{◌==◌, ◌||◌, ◌&&◌, not, filter, slice_get, Contains, if◌then◌else◌}
use Rattle.std.specs.List.{cons_option}
use Rattle.std.proofs.lemmas.Bool.Decides.{Decides-eqb}
use Rattle.std.proofs.lemmas.List.Sums.{sum_by-cons}
use Rattle.sx_links.specs.declared.Seat.{Seat}
use Rattle.sx_links.specs.Seats.{same_seat, without}
use Rattle.sx_spec.specs.declared.Edge.{Edge}
use Rattle.sx_spec.specs.Systems.{count_of, chosen, degree, has_vertex}
use Rattle.sx_spec.proofs.Counts.{front_cases}
use Rattle.sx_peel.specs.Peeling.{IsEdgeWithin, vertex_in}
use Rattle.sx_peel.specs.UnderWay.{degree_among, seat_in, seat_if, seat_on, seats_on}

pub equal_test : (m n : ℕ) → m ≡ n → (m == n) ≡ true
equal_test m n same = (Decides-eqb m n).1 same

pub differ_test : (m n : ℕ) → m ≢ n → (m == n) ≡ false
differ_test m n differ = elim (m == n) as (λ b. (m == n) ≡ b → b ≡ false) [
  | true ↦ λ e. absurd (differ ((Decides-eqb m n).0 e))
  | false ↦ λ e. refl
] refl

-- ---- how many there are

-- a vertex has a seat on an edge where it lies on it
one_seat : (p q r : Bool) (x y z : Seat) (rest : List Seat)
    → length (cons_option (if p then Some x else (if q then Some y else (if r then Some z else None))) rest) ≡ cond (p || (q || r)) 1 0 + length rest
one_seat true q r x y z rest = omega arith
one_seat false true r x y z rest = omega arith
one_seat false false true x y z rest = omega arith
one_seat false false false x y z rest = omega arith

-- the list of a vertex is as long as its degree
pub length-seats_on : (edges : List Edge) (v : ℕ) (numbers : List ℕ) → length (seats_on edges v numbers) ≡ degree_among edges v numbers
length-seats_on edges v [] = refl
length-seats_on edges v (i ∷ rest) =
    elim (slice_get edges i) as (λ o. length (cons_option (seat_if v i o) (seats_on edges v rest)) ≡ degree v (cons_option o (chosen edges rest))) [
      | None ↦ length-seats_on edges v rest
      | Some e ↦
          one_seat (e.a == v) (e.b == v) (e.c == v) (record { item = i; hook = 0 }) (record { item = i; hook = 1 }) (record { item = i; hook = 2 }) (seats_on edges v rest)
          ∙ ap (λ n. cond (has_vertex v e) 1 0 + n) (length-seats_on edges v rest)
          ∙ sym (sum_by-cons (λ d. cond (has_vertex v d) 1 0) e (chosen edges rest))
    ]

-- ---- which they are

-- the seat is that of an edge of these numbers, in the slot in which the vertex stands
pub record IsSeatOf (edges : List Edge) (v : ℕ) (numbers : List ℕ) (s : Seat) : Type 0 where
  pub e : Edge
  pub at : slice_get edges s.item ≡ Some e
  pub vertex : vertex_in e s.hook ≡ v
  pub fits : s.hook < 3
  pub counts : 0 < count_of s.item numbers

-- the seat in a slot of an edge
seat_in_slot : (v i h : ℕ) (e : Edge) (s : Seat) → h < 3 → vertex_in e h ≡ v → Some (record { item = i; hook = h }) ≡ Some s → (s.item ≡ i) × (s.hook < 3) × (vertex_in e s.hook ≡ v)
seat_in_slot v i h e s fits vertex some =
    let same : record { item = i; hook = h } ≡ s = cc in
    subst (λ (t : Seat). (t.item ≡ i) × (t.hook < 3) × (vertex_in e t.hook ≡ v)) same (refl, fits, vertex)

pub seat_in_is : (v i : ℕ) (e : Edge) (s : Seat) → seat_in v i e ≡ Some s → (s.item ≡ i) × (s.hook < 3) × (vertex_in e s.hook ≡ v)
seat_in_is v i e s =
    elim (e.a == v) as (λ p. (e.a == v) ≡ p
    → (if p then Some (record { item = i; hook = 0 }) else (if e.b == v then Some (record { item = i; hook = 1 }) else (if e.c == v then Some (record { item = i; hook = 2 }) else None))) ≡ Some s
    → (s.item ≡ i) × (s.hook < 3) × (vertex_in e s.hook ≡ v)) [
      | true ↦ λ here some. seat_in_slot v i 0 e s (omega arith) ((Decides-eqb e.a v).0 here) some
      | false ↦ λ not_a. elim (e.b == v) as (λ q. (e.b == v) ≡ q
          → (if q then Some (record { item = i; hook = 1 }) else (if e.c == v then Some (record { item = i; hook = 2 }) else None)) ≡ Some s
          → (s.item ≡ i) × (s.hook < 3) × (vertex_in e s.hook ≡ v)) [
            | true ↦ λ here some. seat_in_slot v i 1 e s (omega arith) ((Decides-eqb e.b v).0 here) some
            | false ↦ λ not_b. elim (e.c == v) as (λ r. (e.c == v) ≡ r → (if r then Some (record { item = i; hook = 2 }) else None) ≡ Some s → (s.item ≡ i) × (s.hook < 3) × (vertex_in e s.hook ≡ v)) [
              | true ↦ λ here some. seat_in_slot v i 2 e s (omega arith) ((Decides-eqb e.c v).0 here) some
              | false ↦ λ not_c some. absurd cc
            ] refl
          ] refl
    ] refl

-- the seat on the edge of a number is one of this item
seat_on_is : (edges : List Edge) (v i : ℕ) (s : Seat) → seat_on edges v i ≡ Some s → (s.item ≡ i) × (s.hook < 3)
seat_on_is edges v i s = elim (slice_get edges i) as (λ o. seat_if v i o ≡ Some s → (s.item ≡ i) × (s.hook < 3)) [
  | None ↦ λ some. absurd cc
  | Some e ↦ λ some. let is = seat_in_is v i e s some in (is.0, is.1)
]

pub contains_front : {X : Type 0} (o : Option X) (xs : List X) (x : X) → Contains (cons_option o xs) x → (o ≡ Some x) ⊎ Contains xs x
contains_front None xs x has = inr has
contains_front (Some y) xs x (zero, within, at) = inl (ap Some at)
contains_front (Some y) xs x (suc k, within, at) = inr (k, omega arith, at)

pub contains_behind : {X : Type 0} (o : Option X) (xs : List X) (x : X) → Contains xs x → Contains (cons_option o xs) x
contains_behind None xs x has = has
contains_behind (Some y) xs x (k, within, at) = (suc k, omega arith, at)

is_seat_behind : (edges : List Edge) (v i : ℕ) (rest : List ℕ) (s : Seat) → IsSeatOf edges v rest s → IsSeatOf edges v (i ∷ rest) s
is_seat_behind edges v i rest s is = record {
  e = is.e;
  at = is.at;
  vertex = is.vertex;
  fits = is.fits;
  counts = let some = is.counts in elim (front_cases s.item i rest) [ inl here ↦ omega arith | inr later ↦ omega arith ];
}

pub seats_sound : (edges : List Edge) (v : ℕ) (numbers : List ℕ) (s : Seat) → Contains (seats_on edges v numbers) s → IsSeatOf edges v numbers s
seats_sound edges v [] s has = absurd (let within = has.1 in omega arith)
seats_sound edges v (i ∷ rest) s has =
    elim (slice_get edges i) as (λ o. slice_get edges i ≡ o → Contains (cons_option (seat_if v i o) (seats_on edges v rest)) s → IsSeatOf edges v (i ∷ rest) s) [
      | None ↦ λ at has. is_seat_behind edges v i rest s (seats_sound edges v rest s has)
      | Some e ↦ λ at has. elim (contains_front (seat_in v i e) (seats_on edges v rest) s has) [
        | inl here ↦
            let is = seat_in_is v i e s here in
            record {
              e = e;
              at = subst (λ j. slice_get edges j ≡ Some e) (sym is.0) at;
              vertex = is.2;
              fits = is.1;
              counts = let same = is.0 in elim (front_cases s.item i rest) [ inl front ↦ omega arith | inr later ↦ absurd (later.0 (sym same)) ];
            }
        | inr there ↦ is_seat_behind edges v i rest s (seats_sound edges v rest s there)
      ]
    ] refl has

-- the seat of the vertex in a slot
pub seat_of_slot : (bound i h : ℕ) (e : Edge) → IsEdgeWithin bound e → h < 3 → seat_in (vertex_in e h) i e ≡ Some (record { item = i; hook = h })
seat_of_slot bound i zero e within fits = rw (equal_test e.a e.a refl) refl
seat_of_slot bound i (suc zero) e within fits = rw (differ_test e.a e.b within.ab, equal_test e.b e.b refl) refl
seat_of_slot bound i (suc (suc zero)) e within fits = rw (differ_test e.a e.c within.ac, differ_test e.b e.c within.bc, equal_test e.c e.c refl) refl
seat_of_slot bound i (suc (suc (suc h))) e within fits = absurd (omega arith)

pub seats_complete : (bound : ℕ) (edges : List Edge) (numbers : List ℕ) (i h : ℕ) (e : Edge) → IsEdgeWithin bound e → h < 3 → slice_get edges i ≡ Some e → 0 < count_of i numbers
    → Contains (seats_on edges (vertex_in e h) numbers) (record { item = i; hook = h })
seats_complete bound edges [] i h e within fits at some = absurd (omega arith)
seats_complete bound edges (j ∷ rest) i h e within fits at some =
    elim (front_cases i j rest) [
      | inl here ↦
          let same : j ≡ i = here.0 in
          let seat : seat_on edges (vertex_in e h) j ≡ Some (record { item = i; hook = h }) =
          ap (seat_on edges (vertex_in e h)) same ∙ ap (seat_if (vertex_in e h) i) at ∙ seat_of_slot bound i h e within fits in
          subst (λ o. Contains (cons_option o (seats_on edges (vertex_in e h) rest)) (record { item = i; hook = h })) (sym seat) (0, omega arith, refl)
      | inr later ↦ contains_behind (seat_on edges (vertex_in e h) j) (seats_on edges (vertex_in e h) rest) (record { item = i; hook = h })
          (seats_complete bound edges rest i h e within fits at (omega arith))
    ]

-- ---- an edge is taken off

-- seats without those of an item
abbrev pub without_item : ℕ → List Seat → List Seat
without_item i seats = without (record { item = i; hook = 2 }) (without (record { item = i; hook = 1 }) (without (record { item = i; hook = 0 }) seats))

pub without_other : (s t : Seat) (seats : List Seat) → same_seat t s ≡ false → without s (t ∷ seats) ≡ t ∷ without s seats
without_other s t seats other = ap (λ b. cond (not b) (t ∷ without s seats) (without s seats)) other

without_same : (s t : Seat) (seats : List Seat) → same_seat t s ≡ true → without s (t ∷ seats) ≡ without s seats
without_same s t seats same = ap (λ b. cond (not b) (t ∷ without s seats) (without s seats)) same

other_item : (s t : Seat) → t.item ≢ s.item → same_seat t s ≡ false
other_item s t differ = ap (λ b. b && t.hook == s.hook) (differ_test t.item s.item differ)

pub same_item : (i h k : ℕ) → same_seat (record { item = i; hook = h }) (record { item = i; hook = k }) ≡ (h == k)
same_item i h k = ap (λ b. b && h == k) (equal_test i i refl)

kept_front : (i : ℕ) (t : Seat) (seats : List Seat) → t.item ≢ i → without_item i (t ∷ seats) ≡ t ∷ without_item i seats
kept_front i t seats differ =
    ap (λ ts. without (record { item = i; hook = 2 }) (without (record { item = i; hook = 1 }) ts)) (without_other (record { item = i; hook = 0 }) t seats (other_item (record { item = i; hook = 0 }) t differ))
    ∙ ap (without (record { item = i; hook = 2 })) (without_other (record { item = i; hook = 1 }) t _ (other_item (record { item = i; hook = 1 }) t differ))
    ∙ without_other (record { item = i; hook = 2 }) t _ (other_item (record { item = i; hook = 2 }) t differ)

dropped_hook : (i h : ℕ) (seats : List Seat) → h < 3 → without_item i (record { item = i; hook = h } ∷ seats) ≡ without_item i seats
dropped_hook i zero seats fits =
    ap (λ ts. without (record { item = i; hook = 2 }) (without (record { item = i; hook = 1 }) ts)) (without_same (record { item = i; hook = 0 }) (record { item = i; hook = 0 }) seats (same_item i 0 0))
dropped_hook i (suc zero) seats fits =
    ap (λ ts. without (record { item = i; hook = 2 }) (without (record { item = i; hook = 1 }) ts)) (without_other (record { item = i; hook = 0 }) (record { item = i; hook = 1 }) seats (same_item i 1 0))
    ∙ ap (without (record { item = i; hook = 2 })) (without_same (record { item = i; hook = 1 }) (record { item = i; hook = 1 }) _ (same_item i 1 1))
dropped_hook i (suc (suc zero)) seats fits =
    ap (λ ts. without (record { item = i; hook = 2 }) (without (record { item = i; hook = 1 }) ts)) (without_other (record { item = i; hook = 0 }) (record { item = i; hook = 2 }) seats (same_item i 2 0))
    ∙ ap (without (record { item = i; hook = 2 })) (without_other (record { item = i; hook = 1 }) (record { item = i; hook = 2 }) _ (same_item i 2 1))
    ∙ without_same (record { item = i; hook = 2 }) (record { item = i; hook = 2 }) _ (same_item i 2 2)
dropped_hook i (suc (suc (suc h))) seats fits = absurd (omega arith)

dropped_front : (i : ℕ) (t : Seat) (seats : List Seat) → t.item ≡ i → t.hook < 3 → without_item i (t ∷ seats) ≡ without_item i seats
dropped_front i t seats same fits =
    subst (λ j. without_item i (record { item = j; hook = t.hook } ∷ seats) ≡ without_item i seats) (sym same) (dropped_hook i t.hook seats fits)

kept_option : (i : ℕ) (o : Option Seat) (seats : List Seat) → ((t : Seat) → o ≡ Some t → t.item ≢ i) → without_item i (cons_option o seats) ≡ cons_option o (without_item i seats)
kept_option i None seats differ = refl
kept_option i (Some t) seats differ = kept_front i t seats (differ t refl)

dropped_option : (i : ℕ) (o : Option Seat) (seats : List Seat) → ((t : Seat) → o ≡ Some t → (t.item ≡ i) × (t.hook < 3)) → without_item i (cons_option o seats) ≡ without_item i seats
dropped_option i None seats same = refl
dropped_option i (Some t) seats same = let is = same t refl in dropped_front i t seats is.0 is.1

-- the seats of a vertex without an edge are those on the other edges
pub seats_without : (edges : List Edge) (v i : ℕ) (numbers : List ℕ) → without_item i (seats_on edges v numbers) ≡ seats_on edges v (filter (λ j. not (j == i)) numbers)
seats_without edges v i [] = refl
seats_without edges v i (j ∷ rest) =
    elim (j == i) as (λ b. (j == i) ≡ b → without_item i (seats_on edges v (j ∷ rest)) ≡ seats_on edges v (cond (not b) (j ∷ filter (λ k. not (k == i)) rest) (filter (λ k. not (k == i)) rest))) [
      | true ↦ λ e.
          dropped_option i (seat_on edges v j) (seats_on edges v rest)
          (λ t some. let is = seat_on_is edges v j t some in (is.0 ∙ (Decides-eqb j i).0 e, is.1))
          ∙ seats_without edges v i rest
      | false ↦ λ e.
          kept_option i (seat_on edges v j) (seats_on edges v rest)
          (λ t some same. let is = seat_on_is edges v j t some in
          let both : true ≡ false = sym (equal_test j i (sym is.0 ∙ same)) ∙ e in absurd cc)
          ∙ ap (cons_option (seat_on edges v j)) (seats_without edges v i rest)
    ] refl

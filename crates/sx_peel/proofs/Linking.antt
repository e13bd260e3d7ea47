-- Links of edges: an edge that is put on the lists of its vertices, or taken off them.
use Rattle.std.proofs.Common.{◌≡◌, ◌≢◌, ℕ, zero, suc, ◌+◌, ◌<◌, Bool, true, false, cond, List, [], ◌∷◌, length, map, get_or, set, refl, sym, ap, subst, ◌∙◌, arith, inl, inr, Some, None}
use Rattle.std.specs.Prelude.{◌==◌, not, replicate, filter, slice_get, Contains, MatchOption, if◌then◌else◌}
use Rattle.std.specs.List.{cons_option, range_with_len}
use Rattle.std.proofs.lemmas.Bool.Decides.{Decides-eqb}
use Rattle.std.proofs.lemmas.List.{get_or-set_same, get_or-set_other, get_or-replicate, length-set, length-map, length-replicate}
use Rattle.sx_links.specs.declared.Seat.{Seat}
use Rattle.sx_links.specs.Seats.{Lists, IsTaken, same_seat, without, put_first, taken_out}
use Rattle.sx_spec.specs.declared.Edge.{Edge}
use Rattle.sx_peel.specs.Peeling.{IsEdgeWithin}
use Rattle.sx_peel.specs.UnderWay.{seat_in, seat_if, seats_on, IsLinked, edge_put, edge_out}
use Rattle.sx_peel.proofs.Numbers.{range_counted}
use Rattle.sx_peel.proofs.Seats.{equal_test, differ_test, same_item, seats_sound, contains_front, contains_behind, without_item, without_other, seats_without}

-- ---- no edge is put on yet

pub none_linked : (edges : List Edge) (count bound n : ℕ) → count ≡ length edges → count + n ≡ length edges
    → IsLinked edges (range_with_len count n) (record { items = count; hooks = 3; lists = replicate bound [] })
none_linked edges count bound zero whole rest = record {
  items = whole;
  hooks = refl;
  seats = λ v inside. get_or-replicate bound v [] [] (let e = length-replicate {A = List Seat} bound [] in omega arith);
}
none_linked edges count bound (suc n) whole rest = absurd (omega arith)

-- the lists of which a seat was taken out
pub get_or-without : (s : Seat) (lists : List (List Seat)) (v : ℕ) → get_or (map (without s) lists) v [] ≡ without s (get_or lists v [])
get_or-without s [] v = refl
get_or-without s (l ∷ lists) zero = refl
get_or-without s (l ∷ lists) (suc v) = get_or-without s lists v

contains_without : (s t : Seat) (seats : List Seat) → same_seat t s ≡ false → Contains seats t → Contains (without s seats) t
contains_without s t [] other (k, within, at) = absurd (omega arith)
contains_without s t (x ∷ seats) other (zero, within, at) =
    subst (λ ts. Contains ts t) (sym (without_other s x seats (subst (λ y. same_seat y s ≡ false) (sym at) other))) (0, omega arith, at)
contains_without s t (x ∷ seats) other (suc k, within, at) =
    let rest = contains_without s t seats other (k, omega arith, at) in
    elim (same_seat x s) as (λ b. Contains (cond (not b) (x ∷ without s seats) (without s seats)) t) [
      | true ↦ rest
      | false ↦ contains_behind (Some x) (without s seats) t rest
    ]

-- another seat stays taken
pub taken_without : (s t : Seat) (links : Lists) → same_seat t s ≡ false → IsTaken links t → IsTaken (taken_out s links) t
taken_without s t links other (v, lies) = (
  v,
  (
    let e = length-map links.lists (without s) in omega arith,
    subst (λ ts. Contains ts t) (sym (get_or-without s links.lists v)) (contains_without s t (get_or links.lists v []) other lies.1),
  ),
)

-- ---- an edge is put on

-- the list of a vertex after a seat was put on one
get_or-put : (v j : ℕ) (s : Seat) (lists : List (List Seat)) → j < length lists
    → get_or (set lists j (s ∷ get_or lists j [])) v [] ≡ (if j == v then s ∷ get_or lists v [] else get_or lists v [])
get_or-put v j s lists within =
    elim (j == v) as (λ b. (j == v) ≡ b → get_or (set lists j (s ∷ get_or lists j [])) v [] ≡ (if b then s ∷ get_or lists v [] else get_or lists v [])) [
      | true ↦ λ e.
          let same : j ≡ v = (Decides-eqb j v).0 e in
          subst (λ k. get_or (set lists j (s ∷ get_or lists j [])) k [] ≡ s ∷ get_or lists k []) same (get_or-set_same lists j (s ∷ get_or lists j []) [] within)
      | false ↦ λ e.
          get_or-set_other lists j v (s ∷ get_or lists j []) []
          (λ same. let both : true ≡ false = sym (equal_test j v (sym same)) ∙ e in absurd cc)
    ] refl

-- another seat stays free
pub free_beside : (j : ℕ) (s t : Seat) (links : Lists) → j < length links.lists → s ≢ t → ¬ IsTaken links t → ¬ IsTaken (put_first j s links) t
free_beside j s t links within differ free (v, lies) =
    let inside : v < length links.lists = let e = length-set links.lists j (s ∷ get_or links.lists j []) in omega (arith, lies.0) in
    elim (j == v) as (λ b. Contains (if b then s ∷ get_or links.lists v [] else get_or links.lists v []) t → ⊥) [
      | true ↦ λ has. elim (contains_front (Some s) (get_or links.lists v []) t has) [
        | inl here ↦ differ (let same : s ≡ t = cc in same)
        | inr there ↦ free (v, (inside, there))
      ]
      | false ↦ λ has. free (v, (inside, has))
    ] (subst (λ ts. Contains ts t) (get_or-put v j s links.lists within) lies.1)

-- of three tests one at most holds
one_test : (p q r : Bool) (x y z : Seat) (seats : List Seat) → (p ≡ true → q ≡ true → ⊥) → (p ≡ true → r ≡ true → ⊥) → (q ≡ true → r ≡ true → ⊥)
    → (if r then z ∷ (if q then y ∷ (if p then x ∷ seats else seats) else (if p then x ∷ seats else seats)) else (if q then y ∷ (if p then x ∷ seats else seats) else (if p then x ∷ seats else seats)))
    ≡ cons_option (if p then Some x else (if q then Some y else (if r then Some z else None))) seats
one_test true true r x y z seats pq pr qr = absurd (pq refl refl)
one_test true false true x y z seats pq pr qr = absurd (pr refl refl)
one_test true false false x y z seats pq pr qr = refl
one_test false true true x y z seats pq pr qr = absurd (qr refl refl)
one_test false true false x y z seats pq pr qr = refl
one_test false false true x y z seats pq pr qr = refl
one_test false false false x y z seats pq pr qr = refl

both_equal : (m n v : ℕ) → m ≢ n → (m == v) ≡ true → (n == v) ≡ true → ⊥
both_equal m n v differ m_v n_v = differ ((Decides-eqb m v).0 m_v ∙ sym ((Decides-eqb n v).0 n_v))

pub put_is_linked : (edges : List Edge) (numbers : List ℕ) (links : Lists) (i : ℕ) (e : Edge) → slice_get edges i ≡ Some e → IsEdgeWithin (length links.lists) e
    → IsLinked edges numbers links → IsLinked edges (i ∷ numbers) (edge_put i e links)
put_is_linked edges numbers links i e at within linked = record {
  items = linked.items;
  hooks = linked.hooks;
  seats = λ v inside.
      let x : Seat = record { item = i; hook = 0 } in
      let y : Seat = record { item = i; hook = 1 } in
      let z : Seat = record { item = i; hook = 2 } in
      let first = set links.lists e.a (x ∷ get_or links.lists e.a []) in
      let second = set first e.b (y ∷ get_or first e.b []) in
      let first_size = length-set links.lists e.a (x ∷ get_or links.lists e.a []) in
      let second_size = length-set first e.b (y ∷ get_or first e.b []) in
      let third_size = length-set second e.c (z ∷ get_or second e.c []) in
      let below = within.b in let below_c = within.c in
      get_or-put v e.c z second (omega arith)
      ∙ ap (λ ts. if e.c == v then z ∷ ts else ts) (get_or-put v e.b y first (omega arith)
      ∙ ap (λ ts. if e.b == v then y ∷ ts else ts) (get_or-put v e.a x links.lists within.a))
      ∙ one_test (e.a == v) (e.b == v) (e.c == v) x y z (get_or links.lists v [])
      (both_equal e.a e.b v within.ab) (both_equal e.a e.c v within.ac) (both_equal e.b e.c v within.bc)
      ∙ ap (cons_option (seat_in v i e)) (linked.seats v (omega arith))
      ∙ ap (λ o. cons_option (seat_if v i o) (seats_on edges v numbers)) (sym at);
}

pub hooks_differ : (i h k : ℕ) → h ≢ k → ◌≢◌ {A = Seat} (record { item = i; hook = h }) (record { item = i; hook = k })
hooks_differ i h k differ same = differ (ap (λ (s : Seat). s.hook) same)

pub length-edge_put : (i : ℕ) (e : Edge) (links : Lists) → length (edge_put i e links).lists ≡ length links.lists
length-edge_put i e links =
    let first = set links.lists e.a (record { item = i; hook = 0 } ∷ get_or links.lists e.a []) in
    let second = set first e.b (record { item = i; hook = 1 } ∷ get_or first e.b []) in
    length-set second e.c (record { item = i; hook = 2 } ∷ get_or second e.c [])
    ∙ length-set first e.b (record { item = i; hook = 1 } ∷ get_or first e.b [])
    ∙ length-set links.lists e.a (record { item = i; hook = 0 } ∷ get_or links.lists e.a [])

-- an edge of which no seat is taken
pub edge_free : (edges : List Edge) (i n : ℕ) (links : Lists) → IsLinked edges (range_with_len (i + 1) n) links → (h : ℕ) → ¬ IsTaken links (record { item = i; hook = h })
edge_free edges i n links linked h (v, lies) =
    let seat = seats_sound edges v (range_with_len (i + 1) n) (record { item = i; hook = h }) (subst (λ ts. Contains ts (record { item = i; hook = h })) (linked.seats v lies.0) lies.1) in
    let counted = range_counted (i + 1) n i seat.counts in
    absurd (omega arith)

-- one edge more, from the end
pub next_linked : (edges : List Edge) (links : Lists) (i : ℕ) (e : Edge) → slice_get edges i ≡ Some e → IsEdgeWithin (length links.lists) e
    → ((n : ℕ) → i + 1 + n ≡ length edges → IsLinked edges (range_with_len (i + 1) n) links)
    → i < length edges → (n : ℕ) → i + n ≡ length edges → IsLinked edges (range_with_len i n) (edge_put i e links)
next_linked edges links i e at within linked below zero whole = absurd (omega arith)
next_linked edges links i e at within linked below (suc n) whole =
    put_is_linked edges (range_with_len (i + 1) n) links i e at within (linked n (omega arith))

-- ---- an edge is taken off

-- another hook of the item stays on its list
pub beside_taken : (i h k : ℕ) (links : Lists) → k ≢ h → IsTaken links (record { item = i; hook = k }) → IsTaken (taken_out (record { item = i; hook = h }) links) (record { item = i; hook = k })
beside_taken i h k links differ taken =
    taken_without (record { item = i; hook = h }) (record { item = i; hook = k }) links (same_item i k h ∙ differ_test k h differ) taken

-- the first of a list that has one seat
pub first_only : (seats : List Seat) → length seats ≡ 1 → MatchOption (slice_get seats 0) (length seats ≢ 1) (λ s. seats ≡ s ∷ [])
first_only [] one = absurd (omega arith)
first_only (s ∷ []) one = refl
first_only (s ∷ t ∷ seats) one = absurd (omega arith)

-- the list of a vertex without the seats of an edge
pub get_or-edge_out : (i : ℕ) (links : Lists) (v : ℕ) → get_or (edge_out i links).lists v [] ≡ without_item i (get_or links.lists v [])
get_or-edge_out i links v =
    let first = map (without (record { item = i; hook = 0 })) links.lists in
    let second = map (without (record { item = i; hook = 1 })) first in
    get_or-without (record { item = i; hook = 2 }) second v
    ∙ ap (without (record { item = i; hook = 2 })) (get_or-without (record { item = i; hook = 1 }) first v
    ∙ ap (without (record { item = i; hook = 1 })) (get_or-without (record { item = i; hook = 0 }) links.lists v))

pub length-edge_out : (i : ℕ) (links : Lists) → length (edge_out i links).lists ≡ length links.lists
length-edge_out i links =
    let first = map (without (record { item = i; hook = 0 })) links.lists in
    let second = map (without (record { item = i; hook = 1 })) first in
    length-map second (without (record { item = i; hook = 2 }))
    ∙ length-map first (without (record { item = i; hook = 1 }))
    ∙ length-map links.lists (without (record { item = i; hook = 0 }))

pub out_is_linked : (edges : List Edge) (numbers : List ℕ) (links : Lists) (i : ℕ) → IsLinked edges numbers links → IsLinked edges (filter (λ j. not (j == i)) numbers) (edge_out i links)
out_is_linked edges numbers links i linked = record {
  items = linked.items;
  hooks = linked.hooks;
  seats = λ v inside.
      get_or-edge_out i links v
      ∙ ap (without_item i) (linked.seats v (let e = length-edge_out i links in omega arith))
      ∙ seats_without edges v i numbers;
}

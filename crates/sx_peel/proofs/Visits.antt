-- What a visit of a vertex leaves: one edge less, or all as it was.
use Rattle.std.proofs.Common.{◌≡◌, ◌≢◌, ℕ, zero, suc, ◌+◌, ◌<◌, ◌≤◌, Bool, true, false, cond, List, [], ◌∷◌, ◌++◌, length, refl, sym, ap, subst, ◌∙◌, arith, inl, inr, ◌⊎◌, Some, Result, Ok, Err}
use Rattle.std.specs.Prelude.{◌==◌, slice_get, Contains, All, OnOk, if◌then◌else◌}
use Rattle.std.specs.List.{range_with_len}
use Rattle.std.proofs.lemmas.Bool.{cases_eq}
use Rattle.std.proofs.lemmas.List.{length-append, length_push}
use Rattle.std.proofs.lemmas.List.Elements.{recursion_from_All}
use Rattle.sx_links.specs.declared.Seat.{Seat}
use Rattle.sx_links.specs.Seats.{Lists, IsTaken, seats_of}
use Rattle.sx_spec.specs.declared.Edge.{Edge}
use Rattle.sx_spec.specs.Systems.{count_of, has_vertex, IsCore}
use Rattle.sx_spec.proofs.Counts.{front_cases, all_at, all_counted}
use Rattle.sx_peel.specs.declared.Taken.{Taken}
use Rattle.sx_peel.specs.Peeling.{IsEdgeWithin, vertex_in, IsTakenOrder}
use Rattle.sx_peel.specs.UnderWay.{degree_among, IsBetween, IsLinked, IsUnderWay, edge_out, joined_by, left_after, work_left}
use Rattle.sx_peel.proofs.Numbers.{count_of-append}
use Rattle.sx_peel.proofs.Between.{degree_among_middle, vertex_lies_on, between_take}
use Rattle.sx_peel.proofs.Ends.{all_left, taken_whole, core_left}
use Rattle.sx_peel.proofs.Seats.{equal_test, differ_test, length-seats_on, IsSeatOf, seats_sound, seats_complete}
use Rattle.sx_peel.proofs.Linking.{length-edge_out, out_is_linked}
use Rattle.sx_peel.proofs.Left.{left_first, left_next, Parted, parted}

-- a vertex in a slot is in range
pub vertex_within : (bound : ℕ) (e : Edge) (slot : ℕ) → IsEdgeWithin bound e → vertex_in e slot < bound
vertex_within bound e zero within = within.a
vertex_within bound e (suc zero) within = within.b
vertex_within bound e (suc (suc n)) within = within.c

-- what is false doesn't count
none_where : (b : Bool) → b ≡ false → ◌≡◌ {A = ℕ} (cond b 1 0) 0
none_where true h = absurd cc
none_where false h = refl

-- a vertex is one of the edge's, or not on it
vertex_cases : (v : ℕ) (e : Edge) → ((v ≡ e.a) ⊎ ((v ≡ e.b) ⊎ (v ≡ e.c))) ⊎ (has_vertex v e ≡ false)
vertex_cases v e =
    elim (cases_eq e.a v) [
      | inl a ↦ inl (inl (sym a))
      | inr not_a ↦ elim (cases_eq e.b v) [
        | inl b ↦ inl (inr (inl (sym b)))
        | inr not_b ↦ elim (cases_eq e.c v) [
          | inl c ↦ inl (inr (inr (sym c)))
          | inr not_c ↦ inr (rw (differ_test e.a v not_a, differ_test e.b v not_b, differ_test e.c v not_c) refl)
        ]
      ]
    ]

-- ---- the vertices that wait

-- a number at the end
at_end : (v : ℕ) (waiting : List ℕ) → count_of v (waiting ++ v ∷ []) ≡ count_of v waiting + 1
at_end v waiting =
    let split = count_of-append v waiting (v ∷ []) in
    elim (front_cases v v []) [ inl here ↦ let one = here.1 in omega arith | inr other ↦ absurd (other.0 refl) ]

not_at_end : (v w : ℕ) (waiting : List ℕ) → w ≢ v → count_of v (waiting ++ w ∷ []) ≡ count_of v waiting
not_at_end v w waiting differ =
    let split = count_of-append v waiting (w ∷ []) in
    elim (front_cases v w []) [ inl here ↦ absurd (differ here.0) | inr other ↦ let none = other.1 in omega arith ]

module _ (links : Lists) (w : ℕ) (waiting : List ℕ) where
  -- those that waited wait
  pub joined_keeps : (v : ℕ) → count_of v waiting ≤ count_of v (joined_by links w waiting)
  joined_keeps v = elim (length (seats_of links w) == 1) as (λ b. count_of v waiting ≤ count_of v (if b then waiting ++ w ∷ [] else waiting)) [
    | true ↦ let split = count_of-append v waiting (w ∷ []) in omega arith
    | false ↦ omega arith
  ]

  -- the vertex waits if its list has one seat
  pub joined_waits : length (seats_of links w) ≡ 1 → 0 < count_of w (joined_by links w waiting)
  joined_waits one =
      let last = at_end w waiting in
      let more : 0 < count_of w (waiting ++ w ∷ []) = omega arith in
      subst (λ b. 0 < count_of w (if b then waiting ++ w ∷ [] else waiting)) (sym (equal_test (length (seats_of links w)) 1 one)) more

  -- no other vertex comes to wait
  pub joined_from : (v : ℕ) → 0 < count_of v (joined_by links w waiting) → (v ≡ w) ⊎ (0 < count_of v waiting)
  joined_from v = elim (length (seats_of links w) == 1) as (λ b. 0 < count_of v (if b then waiting ++ w ∷ [] else waiting) → (v ≡ w) ⊎ (0 < count_of v waiting)) [
    | true ↦ λ some. elim (cases_eq w v) [
      | inl same ↦ inl (sym same)
      | inr differ ↦ let e = not_at_end v w waiting differ in inr (omega arith)
    ]
    | false ↦ λ some. inr some
  ]

  pub joined_length : length (joined_by links w waiting) ≤ length waiting + 1
  joined_length = elim (length (seats_of links w) == 1) as (λ b. length (if b then waiting ++ w ∷ [] else waiting) ≤ length waiting + 1) [
    | true ↦ let e = length_push waiting w in omega arith
    | false ↦ omega arith
  ]

-- ---- the beginning

module _ (links : Lists) (w : ℕ) (waiting : List ℕ) where
  pub next_single : ((v : ℕ) → v < w → length (seats_of links v) ≡ 1 → 0 < count_of v waiting)
      → (v : ℕ) → v < w + 1 → length (seats_of links v) ≡ 1 → 0 < count_of v (joined_by links w waiting)
  next_single single v below one = elim (cases_eq w v) [
    | inl same ↦ subst (λ u. 0 < count_of u (joined_by links w waiting)) same (joined_waits links w waiting (ap (λ u. length (seats_of links u)) same ∙ one))
    | inr differ ↦ let keeps = joined_keeps links w waiting v in let before = single v (omega arith) one in omega arith
  ]

  pub next_within : ((v : ℕ) → 0 < count_of v waiting → v < w) → (v : ℕ) → 0 < count_of v (joined_by links w waiting) → v < w + 1
  next_within within v some = elim (joined_from links w waiting v some) [
    | inl same ↦ omega arith
    | inr before ↦ let below = within v before in omega arith
  ]

pub first_under_way : (edges : List Edge) (links : Lists) (waiting : List ℕ)
    → IsLinked edges (range_with_len 0 (length edges)) links
    → ((v : ℕ) → v < length links.lists → length (seats_of links v) ≡ 1 → 0 < count_of v waiting)
    → ((v : ℕ) → 0 < count_of v waiting → v < length links.lists)
    → IsUnderWay edges links [] waiting
first_under_way edges links waiting linked single within = record {
  linked = subst (λ ns. IsLinked edges ns links) (sym (left_first edges)) linked;
  between = subst (IsBetween edges []) (sym (left_first edges)) (all_left edges);
  single = single;
  within = within;
}

-- ---- a vertex that has ceased to wait

module _ (edges : List Edge) (links : Lists) (order : List Taken) (waiting : List ℕ) (vertex : ℕ)
    (under_way : IsUnderWay edges links order (waiting ++ vertex ∷ [])) where
  pub vertex_below : vertex < length links.lists
  vertex_below = under_way.within vertex (let last = at_end vertex waiting in omega arith)

  still_within : (v : ℕ) → 0 < count_of v waiting → v < length links.lists
  still_within v some = under_way.within v (let split = count_of-append v waiting (vertex ∷ []) in omega arith)

  still_single : (v : ℕ) → v < length links.lists → length (seats_of links v) ≡ 1 → vertex ≢ v → 0 < count_of v waiting
  still_single v inside one differ =
      let some = under_way.single v inside one in
      let e = not_at_end v vertex waiting differ in
      omega arith

  -- it isn't on one edge alone
  pub passed : length (seats_of links vertex) ≢ 1 → IsUnderWay edges links order waiting
  passed several = record {
    linked = under_way.linked;
    between = under_way.between;
    single = λ v inside one. still_single v inside one (λ same. several (ap (λ w. length (seats_of links w)) same ∙ one));
    within = still_within;
  }

  -- it is on one edge alone
  module _ (within : All (IsEdgeWithin (length links.lists)) edges) (s : Seat) (only : seats_of links vertex ≡ s ∷ []) where
    pub seat : IsSeatOf edges vertex (left_after edges order) s
    seat = seats_sound edges vertex (left_after edges order) s
        (subst (λ ts. Contains ts s) (sym only ∙ under_way.linked.seats vertex vertex_below) (0, omega arith, refl))

    edge_within : IsEdgeWithin (length links.lists) seat.e
    edge_within = all_at (IsEdgeWithin (length links.lists)) edges (recursion_from_All (IsEdgeWithin (length links.lists)) edges within) s.item seat.e seat.at

    -- each of its seats is taken
    pub seats_taken : (h : ℕ) → h < 3 → IsTaken links (record { item = s.item; hook = h })
    seats_taken h fits =
        let v = vertex_in seat.e h in
        let inside = vertex_within (length links.lists) seat.e h edge_within in (
          v,
          (
            inside,
            subst (λ ts. Contains ts (record { item = s.item; hook = h })) (sym (under_way.linked.seats v inside))
                (seats_complete (length links.lists) edges (left_after edges order) s.item h seat.e edge_within fits seat.at seat.counts),
          ),
        )

    pub number_below : s.item < length edges
    number_below = all_counted (λ i. i < length edges) (left_after edges order) s.item under_way.between.within seat.counts

    module _ (e : Edge) (at : slice_get edges s.item ≡ Some e) where
      same_edge : seat.e ≡ e
      same_edge = let both : Some seat.e ≡ Some e = sym seat.at ∙ at in let same : seat.e ≡ e = cc in same

      pub within_edge : IsEdgeWithin (length links.lists) e
      within_edge = subst (IsEdgeWithin (length links.lists)) same_edge edge_within

      vertex_here : vertex_in e s.hook ≡ vertex
      vertex_here = subst (λ d. vertex_in d s.hook ≡ vertex) same_edge seat.vertex

      parts : Parted s.item (left_after edges order)
      parts = parted s.item (left_after edges order) (let each = under_way.between.each s.item number_below in let some = seat.counts in omega arith)

      less_left : left_after edges (order ++ record { edge = s.item; slot = s.hook } ∷ []) ≡ parts.xs ++ parts.ys
      less_left = left_next edges order (record { edge = s.item; slot = s.hook }) ∙ parts.without

      between_now : IsBetween edges (order ++ record { edge = s.item; slot = s.hook } ∷ []) (left_after edges (order ++ record { edge = s.item; slot = s.hook } ∷ []))
      between_now =
          let alone : degree_among edges (vertex_in e s.hook) (left_after edges order) ≡ 1 =
          ap (λ v. degree_among edges v (left_after edges order)) vertex_here
          ∙ sym (length-seats_on edges vertex (left_after edges order))
          ∙ ap length (sym (under_way.linked.seats vertex vertex_below) ∙ only) in
          subst (IsBetween edges (order ++ record { edge = s.item; slot = s.hook } ∷ [])) (sym less_left)
          (between_take edges order (record { edge = s.item; slot = s.hook }) e parts.xs parts.ys at seat.fits
          (subst (λ ns. degree_among edges (vertex_in e s.hook) ns ≡ 1) parts.whole alone)
          (subst (IsBetween edges order) parts.whole under_way.between))

      linked_now : IsLinked edges (left_after edges (order ++ record { edge = s.item; slot = s.hook } ∷ [])) (edge_out s.item links)
      linked_now = subst (λ ns. IsLinked edges ns (edge_out s.item links)) (sym (left_next edges order (record { edge = s.item; slot = s.hook })))
          (out_is_linked edges (left_after edges order) links s.item under_way.linked)

      -- the lists of its vertices have a seat less, and no others
      seat_less : (v : ℕ) → v < length links.lists → length (seats_of links v) ≡ cond (has_vertex v e) 1 0 + length (seats_of (edge_out s.item links) v)
      seat_less v inside =
          let before : length (seats_of links v) ≡ degree_among edges v (parts.xs ++ s.item ∷ parts.ys) =
          ap length (under_way.linked.seats v inside) ∙ length-seats_on edges v (left_after edges order) ∙ ap (degree_among edges v) parts.whole in
          let after : length (seats_of (edge_out s.item links) v) ≡ degree_among edges v (parts.xs ++ parts.ys) =
          ap length (linked_now.seats v (let size = length-edge_out s.item links in omega arith))
          ∙ length-seats_on edges v (left_after edges (order ++ record { edge = s.item; slot = s.hook } ∷ [])) ∙ ap (degree_among edges v) less_left in
          let middle = degree_among_middle edges v s.item e parts.xs parts.ys at in
          omega arith

      -- a vertex beside the edge waits as before
      beside_waits : (v : ℕ) → v < length links.lists → has_vertex v e ≡ false → length (seats_of (edge_out s.item links) v) ≡ 1 → 0 < count_of v waiting
      beside_waits v inside beside one =
          let less = seat_less v inside in
          let none = none_where (has_vertex v e) beside in
          still_single v inside (omega arith)
          (λ same.
          let on : has_vertex v e ≡ true = subst (λ w. has_vertex w e ≡ true) (vertex_here ∙ same) (vertex_lies_on e s.hook) in
          let both : true ≡ false = sym on ∙ beside in absurd cc)

      pub taken_under_way : IsUnderWay edges (edge_out s.item links) (order ++ record { edge = s.item; slot = s.hook } ∷ [])
          (joined_by (edge_out s.item links) e.c (joined_by (edge_out s.item links) e.b (joined_by (edge_out s.item links) e.a waiting)))
      taken_under_way =
          let links_now = edge_out s.item links in
          let first = joined_by links_now e.a waiting in
          let second = joined_by links_now e.b first in
          let size = length-edge_out s.item links in
          record {
            linked = linked_now;
            between = between_now;
            single = λ v inside one.
                let keeps_a = joined_keeps links_now e.a waiting v in
                let keeps_b = joined_keeps links_now e.b first v in
                let keeps_c = joined_keeps links_now e.c second v in
                elim (vertex_cases v e) [
                  | inl on ↦ elim on [
                    | inl a ↦ let waits : 0 < count_of v first = subst (λ w. length (seats_of links_now w) ≡ 1 → 0 < count_of w first) (sym a) (joined_waits links_now e.a waiting) one in omega arith
                    | inr bc ↦ elim bc [
                      | inl b ↦ let waits : 0 < count_of v second = subst (λ w. length (seats_of links_now w) ≡ 1 → 0 < count_of w second) (sym b) (joined_waits links_now e.b first) one in omega arith
                      | inr c ↦ subst (λ w. length (seats_of links_now w) ≡ 1 → 0 < count_of w (joined_by links_now e.c second)) (sym c) (joined_waits links_now e.c second) one
                    ]
                  ]
                  | inr beside ↦ let waits = beside_waits v (omega arith) beside one in omega arith
                ];
            within = λ v some.
                let a = within_edge.a in let b = within_edge.b in let c = within_edge.c in
                elim (joined_from links_now e.c second v some) [
                  | inl is_c ↦ omega arith
                  | inr some_b ↦ elim (joined_from links_now e.b first v some_b) [
                    | inl is_b ↦ omega arith
                    | inr some_a ↦ elim (joined_from links_now e.a waiting v some_a) [
                      | inl is_a ↦ omega arith
                      | inr before ↦ let inside = still_within v before in omega arith
                    ]
                  ]
                ];
          }

      pub taken_work : work_left edges (order ++ record { edge = s.item; slot = s.hook } ∷ [])
          (joined_by (edge_out s.item links) e.c (joined_by (edge_out s.item links) e.b (joined_by (edge_out s.item links) e.a waiting)))
          ≤ work_left edges order waiting
      taken_work =
          let links_now = edge_out s.item links in
          let first = joined_by links_now e.a waiting in
          let second = joined_by links_now e.b first in
          let by_a = joined_length links_now e.a waiting in
          let by_b = joined_length links_now e.b first in
          let by_c = joined_length links_now e.c second in
          let before = ap length parts.whole in
          let after = ap length less_left in
          let whole = length-append parts.xs (s.item ∷ parts.ys) in
          let without = length-append parts.xs parts.ys in
          omega arith

-- ---- the end

-- no vertex waits, so no vertex is on one edge alone
pub ended_core : (edges : List Edge) (links : Lists) (order : List Taken) → All (IsEdgeWithin (length links.lists)) edges → IsUnderWay edges links order []
    → length order ≢ length edges → IsCore edges (left_after edges order)
ended_core edges links order within ended fewer =
    let left = left_after edges order in
    let none : (v : ℕ) → v < length links.lists → degree_among edges v left ≢ 1 = λ v inside one.
    let list : length (seats_of links v) ≡ 1 = ap length (ended.linked.seats v inside) ∙ length-seats_on edges v left ∙ one in
    absurd (let waits = ended.single v inside list in omega arith) in
    core_left edges order left ended.between (let many = ended.between.many in omega arith)
    (λ i e counted at.
    let inside = all_at (IsEdgeWithin (length links.lists)) edges (recursion_from_All (IsEdgeWithin (length links.lists)) edges within) i e at in
    (none e.a inside.a, (none e.b inside.b, (none e.c inside.c, tt))))

pub ended_order : (edges : List Edge) (links : Lists) (order : List Taken) → IsUnderWay edges links order []
    → length order ≡ length edges → IsTakenOrder edges order
ended_order edges links order ended all =
    taken_whole edges order (left_after edges order) (let many = ended.between.many in omega arith) ended.between

-- what holds of two values holds of equal ones, where the call was Ok
pub on_ok_both : {X Y T E : Type 0} (F : X → Y → Type 0) (x now_x : X) (y now_y : Y) (r : Result T E) → F now_x now_y → OnOk r (x ≡ now_x) → OnOk r (y ≡ now_y) → OnOk r (F x y)
on_ok_both F x now_x y now_y (Ok t) holds same_x same_y = rw (same_x, same_y) holds
on_ok_both F x now_x y now_y (Err e) holds same_x same_y = tt

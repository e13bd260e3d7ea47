-- What stands while edges are taken: the lists of vertices have the edges that are left, and each vertex on one edge waits.
use Rattle.std.specs.Prelude.{◌≡◌, ℕ, ◌+◌, ◌*◌, ◌<◌, ◌==◌, List, [], ◌∷◌, ◌++◌, Option, Some, None, length, filter, filter_map, slice_get, IsSomeAnd, if◌then◌else◌, ⊤}
use Rattle.std.specs.List.{AllByRecursion, range_with_len}
use Rattle.std.specs.List.Sorted.{IsStrictlyIncreasing}
use Rattle.sx_links.specs.declared.Seat.{Seat}
use Rattle.sx_links.specs.Seats.{Lists, seats_of, put_first, taken_out}
use Rattle.sx_spec.specs.declared.Edge.{Edge}
use Rattle.sx_spec.specs.Systems.{chosen, degree, count_of}
use Rattle.sx_peel.specs.declared.Taken.{Taken}
use Rattle.sx_peel.specs.Peeling.{vertex_in, taken_edges}

-- on how many of the edges of these numbers the vertex lies
abbrev pub degree_among : List Edge → ℕ → List ℕ → ℕ
degree_among edges v numbers = degree v (chosen edges numbers)

-- each has a slot, and the vertex in it lies neither on a later edge of the list nor on one that is left
abbrev pub AreFreeBefore : List Edge → List Taken → List ℕ → Type 0
AreFreeBefore edges [] left = ⊤
AreFreeBefore edges (t ∷ later) left =
    (t.slot < 3)
    × IsSomeAnd (slice_get edges t.edge) (λ e. degree_among edges (vertex_in e t.slot) (taken_edges later) + degree_among edges (vertex_in e t.slot) left ≡ 0)
    × AreFreeBefore edges later left

-- the edges are those taken and those left
pub record IsBetween (edges : List Edge) (order : List Taken) (left : List ℕ) : Type 0 where
  pub each : (i : ℕ) → i < length edges → count_of i (taken_edges order) + count_of i left ≡ 1
  pub many : length order + length left ≡ length edges
  pub within : AllByRecursion (λ i. i < length edges) left
  pub rising : IsStrictlyIncreasing left
  pub free : AreFreeBefore edges order left

-- ---- the lists of the vertices

-- the seat of an edge on the list of a vertex: its hook is the slot that the vertex has in the edge
abbrev pub seat_in : ℕ → ℕ → Edge → Option Seat
seat_in v i e =
    (if e.a == v then Some (record { item = i; hook = 0 }) else
    (if e.b == v then Some (record { item = i; hook = 1 }) else
    (if e.c == v then Some (record { item = i; hook = 2 }) else None)))

-- the same where there is an edge
abbrev pub seat_if : ℕ → ℕ → Option Edge → Option Seat
seat_if v i None = None
seat_if v i (Some e) = seat_in v i e

-- the same of the edge of this number
abbrev pub seat_on : List Edge → ℕ → ℕ → Option Seat
seat_on edges v i = seat_if v i (slice_get edges i)

-- the list of a vertex: its seats on the edges of these numbers
abbrev pub seats_on : List Edge → ℕ → List ℕ → List Seat
seats_on edges v numbers = filter_map (seat_on edges v) numbers

-- each vertex has the list of its seats on the edges of these numbers
pub record IsLinked (edges : List Edge) (numbers : List ℕ) (links : Lists) : Type 0 where
  pub items : links.items ≡ length edges
  pub hooks : links.hooks ≡ 3
  pub seats : (v : ℕ) → v < length links.lists → seats_of links v ≡ seats_on edges v numbers

-- an edge put on the lists of its vertices
abbrev pub edge_put : ℕ → Edge → Lists → Lists
edge_put i e links =
    put_first e.c (record { item = i; hook = 2 })
    (put_first e.b (record { item = i; hook = 1 })
    (put_first e.a (record { item = i; hook = 0 }) links))

-- an edge taken off its lists
abbrev pub edge_out : ℕ → Lists → Lists
edge_out i links =
    taken_out (record { item = i; hook = 2 })
    (taken_out (record { item = i; hook = 1 })
    (taken_out (record { item = i; hook = 0 }) links))

-- ---- the vertices that wait

-- the vertex waits too if its list has one seat
abbrev pub joined_by : Lists → ℕ → List ℕ → List ℕ
joined_by links v waiting = (if length (seats_of links v) == 1 then waiting ++ v ∷ [] else waiting)

-- the numbers of the edges that are not taken yet
abbrev pub left_after : List Edge → List Taken → List ℕ
left_after edges order = filter (λ i. count_of i (taken_edges order) == 0) (range_with_len 0 (length edges))

-- what stands before and after each visit of a vertex
pub record IsUnderWay (edges : List Edge) (links : Lists) (order : List Taken) (waiting : List ℕ) : Type 0 where
  pub linked : IsLinked edges (left_after edges order) links
  pub between : IsBetween edges order (left_after edges order)
  pub single : (v : ℕ) → v < length links.lists → length (seats_of links v) ≡ 1 → 0 < count_of v waiting
  pub within : (v : ℕ) → 0 < count_of v waiting → v < length links.lists

-- at most so many visits are still to come
abbrev pub work_left : List Edge → List Taken → List ℕ → ℕ
work_left edges order waiting = 4 * length (left_after edges order) + length waiting

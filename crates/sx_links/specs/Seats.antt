-- Lists of seats: an item has so many hooks, and each hook lies on at most one list.
use Rattle.std.specs.Prelude.{◌≡◌, ◌<◌, ℕ, Bool, ◌&&◌, ◌==◌, not, List, [], ◌∷◌, length, map, filter, Option, None, Contains, MatchOption, slice_get, slice_index_or, slice_set, if◌then◌else◌}
use Rattle.sx_links.specs.declared.Seat.{Seat}

-- how many items there are and how many hooks each has, and for each list number its seats in order
pub record Lists : Type 0 where
  pub items : ℕ
  pub hooks : ℕ
  pub lists : List (List Seat)

-- the seats of a list
abbrev pub seats_of : Lists → ℕ → List Seat
seats_of l list = slice_index_or l.lists list []

-- the seat lies on the list
abbrev pub LiesOn : Lists → ℕ → Seat → Type 0
LiesOn l list s = (list < length l.lists) × Contains (seats_of l list) s

-- the seat lies on some list
abbrev pub IsTaken : Lists → Seat → Type 0
IsTaken l s = (list : ℕ) × LiesOn l list s

-- the seat is one of an item below the number of items
abbrev pub IsSeat : Lists → Seat → Type 0
IsSeat l s = (s.item < l.items) × (s.hook < l.hooks)

-- the one list on which the seat lies, or None where it lies on none
abbrev pub IsListOf : Lists → Seat → Option ℕ → Type 0
IsListOf l s list = MatchOption list (¬ IsTaken l s) (λ j. LiesOn l j s × ((k : ℕ) → LiesOn l k s → k ≡ j))

-- the seat put first on a list
abbrev pub put_first : ℕ → Seat → Lists → Lists
put_first list s l = record l { lists = slice_set l.lists list (s ∷ seats_of l list) }

-- whether the seats are one
abbrev pub same_seat : Seat → Seat → Bool
same_seat s t = s.item == t.item && s.hook == t.hook

-- the seats without one
abbrev pub without : Seat → List Seat → List Seat
without s seats = filter (λ t. not (same_seat t s)) seats

-- the seat taken out of the list on which it lies
abbrev pub taken_out : Seat → Lists → Lists
taken_out s l = record l { lists = map (without s) l.lists }

-- the seat after one, or None where that is the last
abbrev pub after : Seat → List Seat → Option Seat
after s [] = None
after s (t ∷ seats) = if same_seat t s then slice_get seats 0 else after s seats

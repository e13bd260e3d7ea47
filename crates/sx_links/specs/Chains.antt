-- Lists of seats as links: for each list its first seat and its length, for each seat its list and the seats before and after it.
use Rattle.std.specs.Prelude.{◌≡◌, ◌≢◌, ◌+◌, ◌*◌, ◌^◌, ◌<◌, ℕ, zero, suc, List, [], ◌∷◌, length, sum, count_by, Option, Some, None, is_some, ◌⊎◌, slice_index, slice_index_or, slice_set}
use Rattle.std.specs.List.{AllByRecursion}
use Rattle.sx_links.specs.declared.Seat.{Seat}

-- the place of a seat in the lists of links
abbrev pub place_of : ℕ → Seat → ℕ
place_of hooks s = s.item * hooks + s.hook

-- the links
pub record Net : Type 0 where
  pub hooks : ℕ
  pub firsts : List (Option Seat)
  pub lens : List ℕ
  pub owners : List (Option ℕ)
  pub befores : List (Option Seat)
  pub afters : List (Option Seat)

-- so many seats from one on
abbrev pub walk : ℕ → List (Option Seat) → ℕ → Option Seat → List Seat
walk hooks afters zero seat = []
walk hooks afters (suc n) None = []
walk hooks afters (suc n) (Some s) = s ∷ walk hooks afters n (slice_index_or afters (place_of hooks s) None)

-- the seats of each list
abbrev pub walks : ℕ → List (Option Seat) → List (Option Seat) → List ℕ → List (List Seat)
walks hooks afters [] lens = []
walks hooks afters (first ∷ firsts) [] = []
walks hooks afters (first ∷ firsts) (n ∷ lens) = walk hooks afters n first ∷ walks hooks afters firsts lens

-- the seats of a list
abbrev pub list_at : Net → ℕ → List Seat
list_at net list = walk net.hooks net.afters (slice_index net.lens list) (slice_index_or net.firsts list None)

-- a link set to a seat, or no link
abbrev pub linked : ℕ → Option Seat → Option Seat → List (Option Seat) → List (Option Seat)
linked hooks None to links = links
linked hooks (Some s) to links = slice_set links (place_of hooks s) to

-- the first seat of a list after the one between these two was taken out
abbrev pub first_without : Option Seat → Option Seat → Option Seat → Option Seat
first_without None after first = after
first_without (Some before) after first = first

-- a seat of the list is linked to the one before it, and no later seat has its place
pub record IsNext (items hooks : ℕ) (owners : List (Option ℕ)) (befores : List (Option Seat)) (list : ℕ) (previous : Option Seat) (s : Seat) (later : List Seat) : Type 0 where
  pub item : s.item < items
  pub hook : s.hook < hooks
  pub owner : slice_index_or owners (place_of hooks s) None ≡ Some list
  pub before : slice_index_or befores (place_of hooks s) None ≡ previous
  pub differ : AllByRecursion (λ t. place_of hooks t ≢ place_of hooks s) later

-- from a pointer on stand these seats of the list, each linked to the one before it and the one after it
abbrev pub IsChain : ℕ → ℕ → List (Option ℕ) → List (Option Seat) → List (Option Seat) → ℕ → Option Seat → Option Seat → List Seat → Type 0
IsChain items hooks owners befores afters list previous pointer [] = pointer ≡ None
IsChain items hooks owners befores afters list previous pointer (s ∷ later) =
    (pointer ≡ Some s) × IsNext items hooks owners befores list previous s later
    × IsChain items hooks owners befores afters list (Some s) (slice_index_or afters (place_of hooks s) None) later

-- one of the seats has the place
abbrev pub HasPlace : ℕ → ℕ → List Seat → Type 0
HasPlace hooks place [] = ⊥
HasPlace hooks place (s ∷ later) = (place_of hooks s ≡ place) ⊎ HasPlace hooks place later

-- the links are those of lists
pub record IsNet (items : ℕ) (net : Net) : Type 0 where
  pub small : items * net.hooks < 2 ^ 32
  pub lens : length net.lens ≡ length net.firsts
  pub owners : length net.owners ≡ items * net.hooks
  pub befores : length net.befores ≡ items * net.hooks
  pub afters : length net.afters ≡ items * net.hooks
  pub chain : (j : ℕ) → j < length net.firsts → IsChain items net.hooks net.owners net.befores net.afters j None (slice_index_or net.firsts j None) (list_at net j)
  pub len : (j : ℕ) → j < length net.firsts → length (list_at net j) ≡ slice_index net.lens j
  pub owned : (place j : ℕ) → slice_index_or net.owners place None ≡ Some j → (j < length net.firsts) × HasPlace net.hooks place (list_at net j)
  pub total : sum net.lens ≡ count_by is_some net.owners

-- What lazy elimination keeps of its lists, rows and steps: that all places are within bounds.
use Rattle.std.specs.Prelude.{◌≡◌, ◌+◌, ◌*◌, ◌/◌, ◌<◌, ◌≤◌, ℕ, List, length, All}
use Rattle.sx_spec.specs.declared.Equation.{Equation}
use Rattle.sx_links.specs.declared.Seat.{Seat}
use Rattle.sx_links.specs.Seats.{Lists, LiesOn, IsSeat}
use Rattle.sx_solve.specs.declared.lazy.Pivot.{Pivot}
use Rattle.sx_solve.specs.declared.lazy.Order.{Order}
use Rattle.sx_solve.specs.declared.dense.Step.{Step}
use Rattle.sx_solve.specs.declared.dense.System.{System}
use Rattle.sx_solve.specs.declared.propose.Proposed.{Proposed}
use Rattle.sx_solve.specs.declared.propose.Proposed.TheVariants.{Cells, Sum}

-- lists of seats, of so many items with so many hooks each
pub record AreSeats (items hooks lists : ℕ) (l : Lists) : Type 0 where
  pub of_items : l.items ≡ items
  pub of_hooks : l.hooks ≡ hooks
  pub of_lists : length l.lists ≡ lists
  pub seats : (list : ℕ) (s : Seat) → LiesOn l list s → IsSeat l s

-- an equation and an unknown below the bounds
pub record IsPivotWithin (bound count : ℕ) (p : Pivot) : Type 0 where
  pub equation : p.equation < count
  pub unknown : p.unknown < bound

-- equations that give unknowns, and unknowns set aside, in so many turns
pub record AreTurns (bound count turns : ℕ) (pivots : List Pivot) (aside : List ℕ) : Type 0 where
  pub of_pivots : All (IsPivotWithin bound count) pivots
  pub of_aside : All (λ unknown. unknown < bound) aside
  pub few : length aside ≤ turns

-- equations and unknowns below the bounds
pub record IsOrder (bound count : ℕ) (o : Order) : Type 0 where
  pub turns : AreTurns bound count (count + bound) o.pivots.items o.aside.items
  pub of_dense : All (λ equation. equation < count) o.dense.items
  pub few_dense : length o.dense.items ≤ count

-- so many rows, with a bit for each of the unknowns set aside and for each row
pub record IsSystem (aside count : ℕ) (s : System) : Type 0 where
  pub words : s.words ≡ aside / 64 + 1
  pub width : s.width ≡ s.words + count / 64 + 1
  pub rows : length s.rows.items ≡ count * s.width
  pub values : length s.values.items ≡ count

-- a row below the bound, and a bit of its words of unknowns
pub record IsStepWithin (words count : ℕ) (s : Step) : Type 0 where
  pub row : s.row < count
  pub column : s.column / 64 < words

-- bits for equations are there for each
abbrev pub IsProposed : List Equation → Proposed → Type 0
IsProposed equations (Cells cells) = Unit {0}
IsProposed equations (Sum marks) = length equations / 64 < length marks.items

-- Rows of bits: a sum of equations, with the set of those that it was made of.
use Rattle.std.specs.Prelude.{◌≡◌, ◌≢◌, ◌+◌, ◌*◌, ◌/◌, ◌%◌, ◌<◌, ◌≤◌, ◌==◌, ℕ, List, [], ◌∷◌, length, map, filter, take, All, AllPairs, bit_xor, slice_index}
use Rattle.std.specs.List.{range_with_len}
use Rattle.std.specs.Int.{bit_at}
use Rattle.sx_spec.specs.declared.Equation.{Equation}
use Rattle.sx_spec.specs.Systems.{unknowns, vertices, count_of, Solves, IsSum}
use Rattle.sx_solve.specs.declared.rows.Eliminated.{Eliminated}
use Rattle.sx_solve.specs.declared.rows.Eliminated.TheVariants.{Steps, Sum}
use Rattle.sx_solve.specs.declared.rows.Row.{Row}

-- the bit of a number in a list of words of 64 bits
abbrev pub bit : List ℕ → ℕ → ℕ
bit words i = bit_at (slice_index words (i / 64)) (i % 64)

-- the xor of those of the numbers, from a place on, whose place is marked
abbrev pub xor_by : (ℕ → ℕ) → ℕ → List ℕ → ℕ
xor_by marks i [] = 0
xor_by marks i (x ∷ later) = bit_xor (marks i * x) (xor_by marks (i + 1) later)

-- how often an unknown stands in those of the equations, from a place on, whose place is marked
abbrev pub times_by : (ℕ → ℕ) → ℕ → List Equation → ℕ → ℕ
times_by marks i [] v = 0
times_by marks i (q ∷ later) v = marks i * count_of v (vertices (unknowns q)) + times_by marks (i + 1) later v

-- the numbers below the count whose bits are set, rising
abbrev pub marked : List ℕ → ℕ → List ℕ
marked words count = filter (λ i. bit words i == 1) (range_with_len 0 count)

-- the values of the equations
abbrev pub values : List Equation → List ℕ
values equations = map (λ q. q.value) equations

-- the row is the sum of the equations of its set
pub record IsRow (equations : List Equation) (r : Row) : Type 0 where
  pub unknowns : (v : ℕ) → bit r.unknowns.items v ≡ times_by (bit r.set.items) 0 equations v % 2
  pub value : r.value ≡ xor_by (bit r.set.items) 0 (values equations)

-- the row has so many words of unknowns, and so many of its set
pub record HasWords (unknown_words set_words : ℕ) (r : Row) : Type 0 where
  pub unknowns : length r.unknowns.items ≡ unknown_words
  pub set : length r.set.items ≡ set_words

-- the cells meet the row
abbrev pub Meets : List ℕ → Row → Type 0
Meets cells r = xor_by (bit r.unknowns.items) 0 cells ≡ r.value

-- each row has its pivot, which no later row has
pub record AreSteps (rows : List Row) : Type 0 where
  pub own : All (λ r. bit r.unknowns.items r.pivot ≡ 1) rows
  pub later : AllPairs (λ r s. bit s.unknowns.items r.pivot ≡ 0) rows

-- rows of so many unknowns that are sums of the equations, and the first so many equations follow from them
pub record AreRows (bound : ℕ) (equations : List Equation) (done : ℕ) (rows : List Row) : Type 0 where
  pub steps : AreSteps rows
  pub pivots : All (λ r. r.pivot < bound) rows
  pub words : All (HasWords (bound / 64 + 1) (length equations / 64 + 1)) rows
  pub sums : All (IsRow equations) rows
  pub follow : (cells : List ℕ) → bound ≤ length cells → All (Meets cells) rows → Solves cells (take done equations)

-- the row has no unknown and a value that isn't 0
pub record IsContradictory (equations : List Equation) (r : Row) : Type 0 where
  pub sum : IsRow equations r
  pub words : length equations / 64 < length r.set.items
  pub none : (v : ℕ) → bit r.unknowns.items v ≡ 0
  pub value : r.value ≢ 0

-- what elimination comes to: rows that all equations follow from, or a sum
abbrev pub IsEliminated : ℕ → List Equation → Eliminated → Type 0
IsEliminated bound equations (Steps rows) = AreRows bound equations (length equations) rows.items
IsEliminated bound equations (Sum numbers) = IsSum equations numbers.items

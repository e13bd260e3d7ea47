-- Which edges cells meet.
use Rattle.std.specs.Prelude.{◌≡◌, ℕ, List, slice_get, slice_index, IsSomeAnd}
use Rattle.std.specs.List.{AllByRecursion}
use Rattle.sx_spec.specs.declared.Edge.{Edge}
use Rattle.sx_spec.specs.Systems.{cells_at}
use Rattle.sx_peel.specs.declared.Taken.{Taken}

-- the xor of the cells at the edge of this number is its value
abbrev pub IsMet : List Edge → List ℕ → List ℕ → ℕ → Type 0
IsMet edges values cells i = IsSomeAnd (slice_get edges i) (λ e. cells_at cells e ≡ slice_index values i)

-- the cells meet the edges that were taken
abbrev pub AreMet : List Edge → List ℕ → List ℕ → List Taken → Type 0
AreMet edges values cells taken = AllByRecursion (λ t. IsMet edges values cells t.edge) taken

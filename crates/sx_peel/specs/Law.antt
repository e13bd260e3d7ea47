-- Edges are peeled by some order or have a core, and never both.
use Rattle.std.specs.Prelude.{ℕ, List, All, ◌⊎◌}
use Rattle.sx_spec.specs.declared.Edge.{Edge}
use Rattle.sx_spec.specs.Systems.{IsPeelable, IsCore}
use Rattle.sx_peel.specs.Peeling.{IsEdgeWithin}

-- some numbers of the edges are a core
abbrev pub HasCore : List Edge → Type 0
HasCore edges = (numbers : List ℕ) × IsCore edges numbers

-- edges of three different vertices are peeled by some order or have a core, and never both
abbrev pub EdgesPeelOrHaveCore : Type 0
EdgesPeelOrHaveCore = (bound : ℕ) (edges : List Edge) → All (IsEdgeWithin bound) edges
    → (IsPeelable edges ⊎ HasCore edges) × (IsPeelable edges → ¬ HasCore edges)

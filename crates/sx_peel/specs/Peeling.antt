-- Orders in which the edges of a hypergraph are taken, each by a vertex that no later edge has; or a core.
use Rattle.std.specs.Prelude.{◌≡◌, ◌≢◌, ℕ, zero, suc, ◌<◌, List, [], ◌∷◌, map, slice_get, IsSomeAnd, ⊤}
use Rattle.sx_spec.specs.declared.Edge.{Edge}
use Rattle.sx_spec.specs.Systems.{chosen, degree, IsPeelingOrder, IsCore}
use Rattle.sx_peel.specs.declared.Taken.{Taken}
use Rattle.sx_peel.specs.declared.Peeled.{Peeled}
use Rattle.sx_peel.specs.declared.Peeled.TheVariants.{Order, Core}

-- an edge of three different vertices below the bound
pub record IsEdgeWithin (bound : ℕ) (e : Edge) : Type 0 where
  pub a : e.a < bound
  pub b : e.b < bound
  pub c : e.c < bound
  pub ab : e.a ≢ e.b
  pub ac : e.a ≢ e.c
  pub bc : e.b ≢ e.c

-- the vertex in a slot of an edge: slot 0 is a, slot 1 is b, and slot 2 is c
abbrev pub vertex_in : Edge → ℕ → ℕ
vertex_in e zero = e.a
vertex_in e (suc zero) = e.b
vertex_in e (suc (suc _)) = e.c

-- the numbers of the edges that were taken
abbrev pub taken_edges : List Taken → List ℕ
taken_edges taken = map (λ t. t.edge) taken

-- each has a slot, and the vertex in that slot lies on no later edge of the list
abbrev pub AreFree : List Edge → List Taken → Type 0
AreFree edges [] = ⊤
AreFree edges (t ∷ later) =
    (t.slot < 3)
    × IsSomeAnd (slice_get edges t.edge) (λ e. degree (vertex_in e t.slot) (chosen edges (taken_edges later)) ≡ 0)
    × AreFree edges later

-- every edge is taken once, each by the vertex in its slot
pub record IsTakenOrder (edges : List Edge) (taken : List Taken) : Type 0 where
  pub order : IsPeelingOrder edges (taken_edges taken)
  pub free : AreFree edges taken

-- an order of all edges, or a core
abbrev pub IsPeeled : List Edge → Peeled → Type 0
IsPeeled edges (Order taken) = IsTakenOrder edges taken.items
IsPeeled edges (Core numbers) = IsCore edges numbers.items

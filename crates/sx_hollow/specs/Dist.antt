-- Where a walk that asks a function is after a step.
use Rattle.std.specs.Prelude.{⊤, ℕ, ◌+◌, ◌<◌, ◌≤◌, ◌==◌, if◌then◌else◌}
use Rattle.sx_spec_kinds.specs.Hollow.{Walk as SpecWalk, goes, ends, lost}
use Rattle.sx_hollow.specs.Walks.{stand_of}
use Rattle.sx_hollow.specs.declared.walk.Stand.{Stand}
use Rattle.sx_hollow.specs.declared.turning.Walk.{Walk}
use Rattle.sx_hollow.specs.declared.turning.Walk.TheVariants.{Goes, Ends, Lost}

-- a walk as the definitions have it
abbrev pub walk_as : Walk → SpecWalk
walk_as (Goes s) = goes (stand_of s)
walk_as (Ends j) = ends j
walk_as Lost = lost

-- what holds of the stand to which a walk goes on, if it does
abbrev pub IfGoes : Walk → (Stand → Type 0) → Type 0
IfGoes (Goes s) P = P s
IfGoes (Ends j) P = ⊤
IfGoes Lost P = ⊤

-- a stand of a walk and a later one: it has some of the leaves, and more bits of the string, which has so many, led there
pub record IsLater (len : ℕ) (at s : Stand) : Type 0 where
  pub some : 0 < s.leaves
  pub fewer : s.leaves < at.leaves
  pub node : s.node + s.leaves ≤ at.node + at.leaves
  pub first : s.first + s.leaves ≤ at.first + at.leaves
  pub farther : at.pos < s.pos
  pub within : s.pos ≤ len

-- the read that it may cost to see that a node isn't kept at the place that is told
abbrev pub reserve : (place : ℕ) → ℕ
reserve place = if place == 4294967295 then 0 else 1

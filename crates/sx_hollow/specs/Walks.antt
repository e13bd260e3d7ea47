-- Where a walk stands, and what a step of it leads to.
use Rattle.std.specs.Prelude.{◌≡◌, ◌<◌, ℕ, List, Option, Some, None}
use Rattle.sx_spec_strings.specs.Numbers.{iterate}
use Rattle.sx_spec_strings.specs.Bits.{Bits}
use Rattle.sx_spec_kinds.specs.Hollow.{Walk, goes, lost, step, end_of, walk_of, Stand as SpecStand}
use Rattle.sx_hollow.specs.declared.walk.Stand.{Stand}

-- a stand as the definitions have it
abbrev pub stand_of : Stand → SpecStand
stand_of s = record { node = s.node; leaves = s.leaves; first = s.first; pos = s.pos }

-- a walk goes on from a stand, or is lost
abbrev pub walk_on : Option Stand → Walk
walk_on None = lost
walk_on (Some s) = goes (stand_of s)

-- more steps than leaves from here lead to the end of the whole walk
pub record RestOf (left skip : List ℕ) (n : ℕ) (x : Bits) (w : Walk) (leaves : ℕ) : Type 0 where
  pub turns : ℕ
  pub enough : leaves < turns
  pub same : end_of (iterate turns (step left skip x) w) ≡ walk_of left skip n x

use Rattle.std.proofs.Common.{◌≡◌, ℕ, nat_eq, take}
use Rattle.std.specs.HashMap.{get}
use Rattle.sx_lcp.specs.Rankings.{place_in}
use Rattle.sx_lcp.proofs.codes.coding.places.Given as goal

abbrev pub invariant-loop-place : goal.invariant-loop-place
invariant-loop-place l = (q : ℕ) → get nat_eq l.places q ≡ place_in (take l.place l.table) q

use Rattle.std.proofs.Common.{◌≡◌, map, take}
use Rattle.sx_parts.specs.Ranking.{signature_at}
use Rattle.sx_parts.proofs.signatures.signatures_at.Given as goal

abbrev pub invariant-loop-place : goal.invariant-loop-place
invariant-loop-place l = l.chosen.items ≡ map (signature_at l.sigs) (take l.place-index l.places)

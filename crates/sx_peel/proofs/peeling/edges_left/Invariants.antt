use Rattle.std.proofs.Common.{◌≡◌, List}
use Rattle.std.specs.Prelude.{◌==◌, filter}
use Rattle.std.specs.List.{range_with_len}
use Rattle.sx_spec.specs.Systems.{count_of}
use Rattle.sx_peel.specs.declared.Taken.{Taken}
use Rattle.sx_peel.specs.Peeling.{taken_edges}
use Rattle.sx_peel.specs.UnderWay.{IsLinked, left_after}
use Rattle.sx_peel.proofs.peeling.edges_left.Given as goal

abbrev pub invariant-loop-number : goal.invariant-loop-number
invariant-loop-number l = (order : List Taken) → IsLinked l.edges (left_after l.edges order) l.links
    → l.left.items ≡ filter (λ i. count_of i (taken_edges order) == 0) (range_with_len 0 l.number)

use Rattle.std.proofs.Common.{◌≡◌, drop}
use Rattle.std.specs.List.{list_all}
use Rattle.sx_spec.specs.Layout.{is_chunk, neighbours}
use Rattle.sx_static.proofs.section.are_chunks.Given as goal

abbrev pub invariant-loop-i : goal.invariant-loop-i
invariant-loop-i l = list_all is_chunk (neighbours l.table) ≡ list_all is_chunk (neighbours (drop l.i l.table))

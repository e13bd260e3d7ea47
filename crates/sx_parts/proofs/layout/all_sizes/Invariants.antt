use Rattle.std.proofs.Common.{◌≡◌, length, take}
use Rattle.std.specs.Prelude.{flat_map}
use Rattle.sx_parts.specs.Sectioning.{held_words}
use Rattle.sx_parts.proofs.layout.all_sizes.Given as goal

abbrev pub invariant-loop-section : goal.invariant-loop-section
invariant-loop-section l = l.count ≡ length (flat_map held_words (take l.section-index l.sections))

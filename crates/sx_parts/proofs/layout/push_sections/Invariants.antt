use Rattle.std.proofs.Common.{◌≡◌, ◌++◌, take}
use Rattle.std.specs.Prelude.{flat_map}
use Rattle.sx_parts.specs.Sectioning.{held_words}
use Rattle.sx_parts.proofs.layout.push_sections.Given as goal

abbrev pub invariant-loop-section : goal.invariant-loop-section
invariant-loop-section l = l.words.items ≡ l.initial.words.items ++ flat_map held_words (take l.section-index l.sections)

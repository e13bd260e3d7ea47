use Rattle.std.proofs.Common.{◌≡◌, ◌∙◌, ◌+◌, ◌++◌, ◌∷◌, ℕ, List, ap, arith}
use Rattle.std.specs.Prelude.{flat_map}
use Rattle.sx_spec.specs.Layout.{header_words, magic}
use Rattle.sx_sections.specs.Headers.{header_as}
use Rattle.sx_parts.specs.Sectioning.{held_words}
use Rattle.sx_parts.proofs.Layouts.{laid_out}
use Rattle.sx_parts.proofs.layout.dump_words.Goals as goal

pub returns : goal.returns
returns c =
    let h = header_as c.args.header.now in
    let sections = c.args.sections.now in
    let count = 10 + c.all_sizes-count.result in
    let front : c.extend_from_slice.new.self.items ≡ magic ∷ count ∷ header_words h =
    c.in_ok-extend_from_slice.ensures.items ∙ (λ i. c.in_ok-words.ensures.items i ++ c.front_words.ensures i) in
    laid_out h sections count c.push_sections.new.words.items c.requires.whole (omega (arith, c.all_sizes-count.ensures))
    (c.in_ok-push_sections.ensures ∙ ap (λ (ws : List ℕ). ws ++ flat_map held_words sections) front)

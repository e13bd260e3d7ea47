use Rattle.std.proofs.Common.{◌≡◌, ℕ, ◌+◌, min, [], ◌∷◌, ap, ◌∙◌, arith}
use Rattle.sx_spec.specs.Kinds.{delimiter_count}
use Rattle.sx_spec.specs.Layout.{u32_max}
use Rattle.sx_sections.specs.declared.name.SectionName.TheVariants.{Offsets, Left, Skip, Turns}
use Rattle.sx_sections.specs.Rules.{function_slot, short_slot, sums_slot, slot_as}
use Rattle.sx_sections.proofs.slots.hollow_dist_slots.Goals as goal

pub returns-clause-table : goal.returns-clause-table
returns-clause-table c =
    let h = c.args.header.now in
    let nodes = c.inner_count-numbers.ensures.value in
    let most : c.min-turns.result ≡ min (h.keys + delimiter_count h.plan h.keys) u32_max = omega arith in
    let offsets = c.function.ensures ∙ ap (λ (n : ℕ). function_slot Offsets n) c.from-keys.ensures in
    let left = c.sums.ensures ∙ ap (λ (n : ℕ). sums_slot Left (n + 1)) nodes in
    let skip = c.sums-2.ensures ∙ ap (λ (n : ℕ). sums_slot Skip (n + 1)) nodes in
    let turns = c.short_function.ensures ∙ ap (λ (n : ℕ). short_slot Turns n) most in
    λ i. slot_as (offsets i) ∷ slot_as (left i) ∷ slot_as (skip i) ∷ slot_as (turns i) ∷ []

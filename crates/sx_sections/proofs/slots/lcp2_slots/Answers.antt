use Rattle.std.proofs.Common.{ℕ, [], ◌∷◌, ap, ◌∙◌}
use Rattle.sx_sections.specs.declared.name.SectionName.TheVariants.{Offsets, Codes, Table, Escaped, Prefixes}
use Rattle.sx_sections.specs.declared.rule.SlotRule.TheVariants.{Coded}
use Rattle.sx_sections.specs.Rules.{function_slot, short_slot, slot_as}
use Rattle.sx_sections.proofs.slots.lcp2_slots.Goals as goal

pub returns-clause-table : goal.returns-clause-table
returns-clause-table c =
    let keys = c.from-keys.ensures in
    let offsets = c.function.ensures ∙ ap (λ (n : ℕ). function_slot Offsets n) keys in
    let codes = c.function-2.ensures ∙ ap (λ (n : ℕ). function_slot Codes n) keys in
    let escaped = c.short_function.ensures ∙ ap (λ (n : ℕ). short_slot Escaped n) keys in
    let prefixes = c.function-3.ensures ∙ ap (λ (n : ℕ). function_slot Prefixes n) c.bucket_count-buckets.ensures.value in
    λ i.
    slot_as (offsets i)
    ∷ slot_as (codes i)
    ∷ slot_as (record { name = Table; rule = Coded })
    ∷ slot_as (escaped i)
    ∷ slot_as (prefixes i)
    ∷ []

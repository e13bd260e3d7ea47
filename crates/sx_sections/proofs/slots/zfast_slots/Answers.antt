use Rattle.std.proofs.Common.{ℕ, [], ◌∷◌, ap, ◌∙◌}
use Rattle.sx_sections.specs.declared.name.SectionName.TheVariants.{Offsets, Extents, Firsts, Middles, Afters, Handles, Marks, Codes, Corrections as CorrectionsName, Blocks}
use Rattle.sx_sections.specs.declared.rule.SectionRule.TheVariants.{Corrections}
use Rattle.sx_sections.specs.declared.rule.SlotRule.TheVariants.{Matching}
use Rattle.sx_sections.specs.Rules.{function_slot, list_slot, slot_of, slot_as}
use Rattle.sx_sections.proofs.slots.zfast_slots.Goals as goal

pub returns-clause-table : goal.returns-clause-table
returns-clause-table c =
    let bits = c.args.header.now.plan.handle_bits in
    let keys = c.from-keys.ensures in
    let nodes = c.inner_count-nodes.ensures.value in
    let count = c.handle_count-handles.ensures.value in
    let offsets = c.function.ensures ∙ ap (λ (n : ℕ). function_slot Offsets n) keys in
    let extents = c.list.ensures ∙ ap (λ (n : ℕ). list_slot Extents n 0 32) nodes in
    let firsts = c.list-2.ensures ∙ ap (λ (n : ℕ). list_slot Firsts n 0 32) nodes in
    let middles = c.list-3.ensures ∙ ap (λ (n : ℕ). list_slot Middles n 0 32) nodes in
    let afters = c.list-4.ensures ∙ ap (λ (n : ℕ). list_slot Afters n 0 32) nodes in
    let handles = c.function-2.ensures ∙ ap (λ (n : ℕ). function_slot Handles n) count in
    let marks = c.list-5.ensures ∙ ap (λ (n : ℕ). list_slot Marks n bits bits) count in
    let codes = c.function-3.ensures ∙ ap (λ (n : ℕ). function_slot Codes n) keys in
    let corrections = c.new.ensures ∙ ap (λ (n : ℕ). slot_of CorrectionsName (Corrections n)) keys in
    λ i.
    slot_as (offsets i)
    ∷ slot_as (extents i)
    ∷ slot_as (firsts i)
    ∷ slot_as (middles i)
    ∷ slot_as (afters i)
    ∷ slot_as (handles i)
    ∷ slot_as (marks i)
    ∷ slot_as (codes i)
    ∷ slot_as (corrections i)
    ∷ slot_as (record { name = Blocks; rule = Matching })
    ∷ []

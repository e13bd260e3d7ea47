use Rattle.std.proofs.Common.{ℕ, ◌≤◌, List, Err, refl, sym, ap, subst, ◌∙◌}
use Rattle.sx_spec_kinds.specs.declared.Kind.{Kind}
use Rattle.sx_spec_program.specs.Program.{sux_offer}
use Rattle.sx_sections.specs.Offers.{is_offered}
use Rattle.sx_dump.proofs.Openings.{is_opened, opens}
use Rattle.sux_c.proofs.opening.find.Goals as goal

pub returns-in-Ok-clause-opened : goal.returns-in-Ok-clause-opened
returns-in-Ok-clause-opened c =
    let here = c.in-Ok.ensures in
    let o = c.in-Ok.opened in
    let offered = ap (λ (kinds : List Kind). is_offered kinds o.header.plan.kind) (sym c.kinds.ensures) ∙ here.offered in
    let narrow = subst (λ (n : ℕ). o.header.plan.signed ≤ n) c.signed.ensures here.narrow in
    is_opened c.args.words.now o here.header here.places here.bounded offered narrow here.laid

pub returns-in-Ok-clause-passes : goal.returns-in-Ok-clause-passes
returns-in-Ok-clause-passes c =
    let here = c.in-Ok.ensures in
    let words = c.args.words.now in
    record {
      found = opens words c.in-Ok.opened here.header here.places words _ refl (here.found sux_offer (sym c.kinds.ensures) (sym c.signed.ensures));
      opened = λ file held. opens words c.in-Ok.opened here.header here.places words _ refl (here.opened sux_offer (sym c.kinds.ensures) (sym c.signed.ensures) file held);
    }

pub returns-in-Err-clause-fails : goal.returns-in-Err-clause-fails
returns-in-Err-clause-fails c = record {
  found = c.in-Err.ensures.found sux_offer (sym c.kinds.ensures) (sym c.signed.ensures) ∙ ap (λ (n : ℕ). Err n) (sym c.number.ensures);
  opened = λ file held. c.in-Err.ensures.opened sux_offer (sym c.kinds.ensures) (sym c.signed.ensures) file held ∙ ap (λ (n : ℕ). Err n) (sym c.number.ensures);
}

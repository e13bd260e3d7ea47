use Rattle.std.proofs.Common.{ℕ, ◌≤◌, List, Err, refl, sym, ap, subst, ◌∙◌}
use Rattle.sx_spec_kinds.specs.declared.Kind.{Kind}
use Rattle.sx_spec_program.specs.Program.{sux_offer}
use Rattle.sx_sections.specs.Offers.{is_offered}
use Rattle.sx_dump.specs.Opening.{IsOpened}
use Rattle.sx_dump.proofs.Openings.{is_opened, opens}
use Rattle.sx_dump.proofs.open.open_dump.Goals as goal

pub new-requires : goal.new-requires
new-requires g c =
    let here = c.in-Ok.ensures in
    let o = c.in-Ok.opened in
    let offered = ap (λ (kinds : List Kind). is_offered kinds o.header.plan.kind) (sym c.kinds.ensures) ∙ here.offered in
    let narrow = subst (λ (n : ℕ). o.header.plan.signed ≤ n) c.signed.ensures here.narrow in
    subst (λ (words : List ℕ). IsOpened words o.header o.places.items) (sym c.requires.bank)
    (is_opened c.args.words.now o here.header here.places here.bounded offered narrow here.laid)

pub returns-in-Ok-new-clause-found : goal.returns-in-Ok-new-clause-found
returns-in-Ok-new-clause-found g c =
    let here = c.in-Ok.ensures in
    opens c.args.words.now c.in-Ok.opened here.header here.places (g.B.WordBank.words_of c.in-Ok-new.dump.bank) _
    (ap g.B.WordBank.words_of c.in-Ok-new.ensures ∙ c.requires.bank) (here.found sux_offer (sym c.kinds.ensures) (sym c.signed.ensures))

pub returns-in-Ok-new-clause-opened : goal.returns-in-Ok-new-clause-opened
returns-in-Ok-new-clause-opened g c = λ file held.
    let here = c.in-Ok.ensures in
    opens c.args.words.now c.in-Ok.opened here.header here.places (g.B.WordBank.words_of c.in-Ok-new.dump.bank) _
    (ap g.B.WordBank.words_of c.in-Ok-new.ensures ∙ c.requires.bank) (here.opened sux_offer (sym c.kinds.ensures) (sym c.signed.ensures) file held)

pub returns-in-Err-new-clause-refused : goal.returns-in-Err-new-clause-refused
returns-in-Err-new-clause-refused g c =
    let here = c.in-Ok.ensures in
    opens c.args.words.now c.in-Ok.opened here.header here.places c.args.words.now _ refl (here.found sux_offer (sym c.kinds.ensures) (sym c.signed.ensures))

pub returns-in-Err-new-clause-fault : goal.returns-in-Err-new-clause-fault
returns-in-Err-new-clause-fault g c = λ file held.
    let here = c.in-Ok.ensures in
    opens c.args.words.now c.in-Ok.opened here.header here.places c.args.words.now _ refl (here.opened sux_offer (sym c.kinds.ensures) (sym c.signed.ensures) file held)

pub returns-in-Err-clause-refused : goal.returns-in-Err-clause-refused
returns-in-Err-clause-refused g c = c.in-Err.ensures.found sux_offer (sym c.kinds.ensures) (sym c.signed.ensures) ∙ ap (λ (n : ℕ). Err n) (sym c.number.ensures)

pub returns-in-Err-clause-fault : goal.returns-in-Err-clause-fault
returns-in-Err-clause-fault g c = λ file held. c.in-Err.ensures.opened sux_offer (sym c.kinds.ensures) (sym c.signed.ensures) file held ∙ ap (λ (n : ℕ). Err n) (sym c.number.ensures)

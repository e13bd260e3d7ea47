use Rattle.std.proofs.Common.{None, Some, Ok, Err, ◌∙◌}
use Rattle.sx_sections.specs.Checks.{check_number}
use Rattle.sx_sections.specs.Headers.{header_as}
use Rattle.sx_sections.specs.Openings.{dump_as}
use Rattle.sx_sections.proofs.Offered.{file_opened_by, kind_offered, offer_tells, signed_offered}
use Rattle.sx_sections.proofs.open.open_offered.Goals as goal

pub returns-in-Some-clause-found : goal.returns-in-Some-clause-found
returns-in-Some-clause-found c =
    offer_tells c.args.words.now c.args.bytes c.args.kinds.now c.args.signed (Some (check_number c.in-Some.check)) c.in-Some.ensures.first

pub returns-in-Some-clause-opened : goal.returns-in-Some-clause-opened
returns-in-Some-clause-opened c = λ offer kinds signed.
    file_opened_by c.args.words.now c.args.bytes offer (Err (check_number c.in-Some.check))
    (offer_tells c.args.words.now c.args.bytes c.args.kinds.now c.args.signed (Some (check_number c.in-Some.check)) c.in-Some.ensures.first offer kinds signed)

pub returns-in-Ok-clause-found : goal.returns-in-Ok-clause-found
returns-in-Ok-clause-found c = λ offer kinds signed.
    offer_tells c.args.words.now c.args.bytes c.args.kinds.now c.args.signed None c.in-None.ensures.first offer kinds signed ∙ c.in-Ok.ensures.found

pub returns-in-Ok-clause-opened : goal.returns-in-Ok-clause-opened
returns-in-Ok-clause-opened c = λ offer kinds signed.
    file_opened_by c.args.words.now c.args.bytes offer (dump_as c.args.words.now (Ok c.in-Ok.opened))
    (offer_tells c.args.words.now c.args.bytes c.args.kinds.now c.args.signed None c.in-None.ensures.first offer kinds signed ∙ c.in-Ok.ensures.found)

pub returns-in-Ok-clause-offered : goal.returns-in-Ok-clause-offered
returns-in-Ok-clause-offered c =
    kind_offered c.args.words.now c.args.bytes c.args.kinds.now c.args.signed (header_as c.in-Ok.opened.header) c.in-None.ensures.first c.in-Ok.ensures.header

pub returns-in-Ok-clause-narrow : goal.returns-in-Ok-clause-narrow
returns-in-Ok-clause-narrow c =
    signed_offered c.args.words.now c.args.bytes c.args.kinds.now c.args.signed (header_as c.in-Ok.opened.header) c.in-None.ensures.first c.in-Ok.ensures.header

pub returns-in-Err-clause-found : goal.returns-in-Err-clause-found
returns-in-Err-clause-found c = λ offer kinds signed.
    offer_tells c.args.words.now c.args.bytes c.args.kinds.now c.args.signed None c.in-None.ensures.first offer kinds signed ∙ c.in-Err.ensures.found

pub returns-in-Err-clause-opened : goal.returns-in-Err-clause-opened
returns-in-Err-clause-opened c = λ offer kinds signed.
    file_opened_by c.args.words.now c.args.bytes offer (dump_as c.args.words.now (Err c.in-Err.check))
    (offer_tells c.args.words.now c.args.bytes c.args.kinds.now c.args.signed None c.in-None.ensures.first offer kinds signed ∙ c.in-Err.ensures.found)

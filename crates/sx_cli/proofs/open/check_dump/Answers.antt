use Rattle.std.proofs.Common.{sym, ◌∙◌, inr}
use Rattle.sx_cli.proofs.Opens.{file_opened, file_refused, check_stops}
use Rattle.sx_cli.proofs.open.check_dump.Goals as goal

pub returns-in-Ok-clause-opened : goal.returns-in-Ok-clause-opened
returns-in-Ok-clause-opened g c = λ name files file.
    file_opened name files _ _ file _ (c.in-Ok.ensures.opened file.bytes (record { held = sym file.decoded.words_are ∙ sym c.deref.ensures.value; size = sym file.decoded.size_is }))

pub returns-in-Err-Malformed-clause-opened : goal.returns-in-Err-Malformed-clause-opened
returns-in-Err-Malformed-clause-opened g c = λ name files file.
    let fault = rw c.in-Err-Malformed.field-0-is at (c.in-Err-Malformed.ensures.fault file.bytes (record { held = sym file.decoded.words_are ∙ sym c.deref.ensures.value; size = sym file.decoded.size_is })) in
    check_stops name files c.in-Err-Malformed.check _ _ _ _ c.refuse_check.result (file_refused name files _ _ file c.in-Err-Malformed.check fault) c.refuse_check.ensures.told

pub returns-in-Err-Memory-clause-opened : goal.returns-in-Err-Memory-clause-opened
returns-in-Err-Memory-clause-opened g c = λ name files file. inr c.tell_memory.ensures.told

use Rattle.std.proofs.Common.{refl}
use Rattle.std.proofs.KnownBytes.{Keeps-refl}
use Rattle.sx_cli.proofs.Counts.{untouched, answered}
use Rattle.sx_cli.proofs.Shows.{file_stops, check_stops, shown_ends}
use Rattle.sx_cli.proofs.show.show.Goals as goal

pub returns-in-Err-clause-promise : goal.returns-in-Err-clause-promise
returns-in-Err-clause-promise g c = λ input input_faults ticks.
    file_stops c.args.wanted c.args.name.now _ _ ticks c.in-Err.status (record { shelf = c.in-Err.ensures.counts; input = untouched _ _; out = untouched _ _; err = c.in-Err.ensures.counts_err }) (record { bytes = Keeps-refl input; count = refl })
    c.in-Err.ensures.files (Keeps-refl _) c.in-Err.ensures.found

pub returns-in-Err-check_dump-clause-promise : goal.returns-in-Err-check_dump-clause-promise
returns-in-Err-check_dump-clause-promise g c = λ input input_faults ticks.
    let quiet = c.in-Ok.ensures.quiet in
    check_stops c.args.wanted c.args.name.now _ _ ticks c.in-Err-check_dump.status (record { shelf = answered _ _ _ c.in-Ok.ensures.counts; input = untouched _ _; out = untouched _ _; err = rw quiet.1 at c.in-Err-check_dump.ensures.counts_err }) (record { bytes = Keeps-refl input; count = refl })
    c.in-Ok.ensures.files (Keeps-refl _) (rw (quiet.0, quiet.1) at (c.in-Err-check_dump.ensures.opened c.args.name.now _ c.in-Ok.ensures.found))

pub returns-in-Line-clause-promise : goal.returns-in-Line-clause-promise
returns-in-Line-clause-promise g c = λ input input_faults ticks.
    let quiet = c.in-Ok.ensures.quiet in
    let quiet_check = c.in-Ok-check_dump.ensures.quiet in
    let opened = c.in-Ok-check_dump.ensures.opened c.args.name.now _ c.in-Ok.ensures.found in
    let shown = rw (quiet_check.0, quiet_check.1, quiet.0, quiet.1) at c.write_line.ensures.shown in
    shown_ends c.args.wanted c.args.name.now _ _ ticks c.write_line.result (record { shelf = answered _ _ _ c.in-Ok.ensures.counts; input = untouched _ _; out = c.write_line.ensures.counts; err = rw (quiet_check.1, quiet.1) at c.write_line.ensures.counts_err }) (record { bytes = Keeps-refl input; count = refl })
    c.in-Ok.ensures.files _ opened (rw c.in-Line.is shown)

pub returns-clause-promise : goal.returns-clause-promise
returns-clause-promise g c = λ input input_faults ticks.
    let quiet = c.in-Ok.ensures.quiet in
    let quiet_check = c.in-Ok-check_dump.ensures.quiet in
    let opened = c.in-Ok-check_dump.ensures.opened c.args.name.now _ c.in-Ok.ensures.found in
    let shown = rw (quiet_check.0, quiet_check.1, quiet.0, quiet.1) at c.write_whole.ensures.shown in
    shown_ends c.args.wanted c.args.name.now _ _ ticks c.write_whole.result (record { shelf = answered _ _ _ c.in-Ok.ensures.counts; input = untouched _ _; out = c.write_whole.ensures.counts; err = rw (quiet_check.1, quiet.1) at c.write_whole.ensures.counts_err }) (record { bytes = Keeps-refl input; count = refl })
    c.in-Ok.ensures.files _ opened (rw c.in-Whole.is shown)

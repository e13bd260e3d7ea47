use Rattle.std.proofs.Common.{refl, arith}
use Rattle.std.proofs.KnownBytes.{Keeps-refl}
use Rattle.sx_cli.proofs.Counts.{untouched, answered, input_counts, out_counts}
use Rattle.sx_cli.proofs.Asked.{file_stops, check_stops, stored_of, served_ends}
use Rattle.sx_cli.proofs.Queries.{query_memory}
use Rattle.sx_cli.proofs.query.query.Goals as goal

pub returns-in-Err-clause-promise : goal.returns-in-Err-clause-promise
returns-in-Err-clause-promise g c =
    file_stops c.args.name.now _ _ _ c.in-Err.status (record { shelf = c.in-Err.ensures.counts; input = untouched _ _; out = untouched _ _; err = c.in-Err.ensures.counts_err }) (omega arith)
    c.in-Err.ensures.files (record { bytes = Keeps-refl _; count = refl }) (Keeps-refl _) c.in-Err.ensures.found

pub returns-in-Err-check_dump-clause-promise : goal.returns-in-Err-check_dump-clause-promise
returns-in-Err-check_dump-clause-promise g c =
    let quiet = c.in-Ok.ensures.quiet in
    check_stops c.args.name.now _ _ _ c.in-Err-check_dump.status (record { shelf = answered _ _ _ c.in-Ok.ensures.counts; input = untouched _ _; out = untouched _ _; err = rw quiet.1 at c.in-Err-check_dump.ensures.counts_err }) (omega arith)
    c.in-Ok.ensures.files (record { bytes = Keeps-refl _; count = refl }) (Keeps-refl _) (rw (quiet.0, quiet.1) at (c.in-Err-check_dump.ensures.opened c.args.name.now _ c.in-Ok.ensures.found))

pub returns-in_default-clause-promise : goal.returns-in_default-clause-promise
returns-in_default-clause-promise g c =
    let quiet = c.in-Ok.ensures.quiet in
    let quiet_check = c.in-Ok-check_dump.ensures.quiet in
    query_memory c.args.name.now _ _ _ c.tell_memory.result (record { shelf = answered _ _ _ c.in-Ok.ensures.counts; input = untouched _ _; out = untouched _ _; err = rw (quiet_check.1, quiet.1) at c.tell_memory.ensures.counts }) (omega arith)
    c.in-Ok.ensures.files (record { bytes = Keeps-refl _; count = refl }) (Keeps-refl _) (rw (quiet_check.0, quiet_check.1, quiet.0, quiet.1) at c.tell_memory.ensures.told)

pub returns-in_default-new-clause-promise : goal.returns-in_default-new-clause-promise
returns-in_default-new-clause-promise g c =
    let quiet = c.in-Ok.ensures.quiet in
    let quiet_check = c.in-Ok-check_dump.ensures.quiet in
    query_memory c.args.name.now _ _ _ c.tell_memory-in_default-new.result (record { shelf = answered _ _ _ c.in-Ok.ensures.counts; input = untouched _ _; out = untouched _ _; err = rw (quiet_check.1, quiet.1) at c.tell_memory-in_default-new.ensures.counts }) (omega arith)
    c.in-Ok.ensures.files (record { bytes = Keeps-refl _; count = refl }) (Keeps-refl _) (rw (quiet_check.0, quiet_check.1, quiet.0, quiet.1) at c.tell_memory-in_default-new.ensures.told)

pub returns-clause-promise : goal.returns-clause-promise
returns-clause-promise g c =
    let quiet = c.in-Ok.ensures.quiet in
    let quiet_check = c.in-Ok-check_dump.ensures.quiet in
    let opened = c.in-Ok-check_dump.ensures.opened c.args.name.now _ c.in-Ok.ensures.found in
    let ends = rw (quiet_check.0, quiet_check.1, quiet.0, quiet.1) at c.end.ensures.ends in
    served_ends c.args.name.now _ _ _ c.end.result (record { shelf = answered _ _ _ c.in-Ok.ensures.counts; input = input_counts _ _ _ _ _ _ _ c.serve-served.result ends c.serve-served.ensures.counts; out = out_counts _ _ _ _ _ _ _ c.serve-served.result ends c.serve-served.ensures.counts_out; err = rw (quiet_check.1, quiet.1) at c.end.ensures.counts })
    _ (stored_of c.args.name.now _ _ opened) c.serve-served.result c.serve-served.ensures.served c.in-Ok.ensures.files ends

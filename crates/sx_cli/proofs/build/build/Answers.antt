use Rattle.std.proofs.Common.{refl}
use Rattle.std.proofs.KnownBytes.{Keeps-refl}
use Rattle.sx_cli.specs.Building.{build_of}
use Rattle.sx_text.specs.Reasons.{fault_of}
use Rattle.sx_cli.proofs.Builds.{keys_failed, build_memory}
use Rattle.sx_cli.proofs.Counts.{untouched, answered, faulted, chained}
use Rattle.sx_cli.proofs.Endings.{same_files}
use Rattle.sx_cli.proofs.GivenBuilds.{refuses_key, refuses_values, fails_values, given_ends, many, numbers}
use Rattle.sx_cli.proofs.build.build.Goals as goal

pub returns-in-Err-Refused-clause-promise : goal.returns-in-Err-Refused-clause-promise
returns-in-Err-Refused-clause-promise g c = λ ticks.
    refuses_key (build_of c.args.task.now) _ _ ticks c.refuse_key.result (record { shelf = untouched _ _; input = answered _ _ _ (rw c.in-Err-Refused.field-0-is at c.in-Err-Refused.ensures.counts); out = untouched _ _; err = c.refuse_key.ensures.counts })
    (fault_of c.in-Err-Refused.line c.in-Err-Refused.reason) (rw c.in-Err-Refused.field-0-is at c.in-Err-Refused.ensures.keys) (same_files _) (Keeps-refl _) c.refuse_key.ensures.told

pub returns-in-Err-Failed-clause-promise : goal.returns-in-Err-Failed-clause-promise
returns-in-Err-Failed-clause-promise g c = λ ticks.
    let fails = rw c.in-Err-Failed.field-0-is at c.in-Err-Failed.ensures.keys in
    keys_failed (build_of c.args.task.now) _ _ ticks c.fail.result (record { shelf = untouched _ _; input = faulted c.fail.result _ _ c.fail.ensures.told.is c.in-Err-Failed.ensures.counts.later; out = untouched _ _; err = c.fail.ensures.counts }) fails.keys fails.behind fails.valid fails.cause
    (same_files _) (Keeps-refl _) c.fail.ensures.told

pub returns-in-Err-Memory-clause-promise : goal.returns-in-Err-Memory-clause-promise
returns-in-Err-Memory-clause-promise g c = λ ticks.
    build_memory (build_of c.args.task.now) _ _ ticks c.tell_memory.result (record { shelf = untouched _ _; input = answered _ _ _ (rw c.in-Err-Memory.field-0-is at c.in-Err-Memory.ensures.counts); out = untouched _ _; err = c.tell_memory.ensures.counts })
    (same_files _) (Keeps-refl _) c.tell_memory.ensures.told

pub returns-in-Err-Refused-values_for-clause-promise : goal.returns-in-Err-Refused-values_for-clause-promise
returns-in-Err-Refused-values_for-clause-promise g c = λ ticks.
    let read = c.in-Ok.ensures.keys in
    let stops = rw (c.in-Err-Refused-values_for.field-0-is, c.len.ensures.value) at c.in-Err-Refused-values_for.ensures.values in
    let told = rw c.len-in-Err-Refused-values_for.ensures.value at c.refuse_values.ensures.told in
    refuses_values (build_of c.args.task.now) _ _ ticks c.refuse_values.result (record { shelf = answered _ _ _ (rw c.in-Err-Refused-values_for.field-0-is at c.in-Err-Refused-values_for.ensures.counts); input = answered _ _ _ c.in-Ok.ensures.counts; out = untouched _ _; err = c.refuse_values.ensures.counts })
    c.in-Ok.keys.lines read.all read.valid c.in-Err-Refused-values_for.ensures.files (Keeps-refl _) c.args.task.now.values refl c.in-Err-Refused-values_for.fault _ _ stops told

pub returns-in-Err-Failed-values_for-clause-promise : goal.returns-in-Err-Failed-values_for-clause-promise
returns-in-Err-Failed-values_for-clause-promise g c = λ ticks.
    let read = c.in-Ok.ensures.keys in
    let stops = rw (c.in-Err-Failed-values_for.field-0-is, c.len.ensures.value) at c.in-Err-Failed-values_for.ensures.values in
    fails_values (build_of c.args.task.now) _ _ ticks c.fail-in-Err-Failed-values_for.result (record { shelf = faulted c.fail-in-Err-Failed-values_for.result _ _ c.fail-in-Err-Failed-values_for.ensures.told.is c.in-Err-Failed-values_for.ensures.counts.later; input = answered _ _ _ c.in-Ok.ensures.counts; out = untouched _ _; err = c.fail-in-Err-Failed-values_for.ensures.counts })
    c.in-Ok.keys.lines read.all read.valid c.in-Err-Failed-values_for.ensures.files (Keeps-refl _) c.args.task.now.values refl stops c.fail-in-Err-Failed-values_for.ensures.told

pub returns-in-Err-Memory-values_for-clause-promise : goal.returns-in-Err-Memory-values_for-clause-promise
returns-in-Err-Memory-values_for-clause-promise g c = λ ticks.
    build_memory (build_of c.args.task.now) _ _ ticks c.tell_memory-in-Err-Memory-values_for.result (record { shelf = answered _ _ _ (rw c.in-Err-Memory-values_for.field-0-is at c.in-Err-Memory-values_for.ensures.counts); input = answered _ _ _ c.in-Ok.ensures.counts; out = untouched _ _; err = c.tell_memory-in-Err-Memory-values_for.ensures.counts })
    c.in-Err-Memory-values_for.ensures.files (Keeps-refl _) c.tell_memory-in-Err-Memory-values_for.ensures.told

pub build_given-requires-clause-values : goal.build_given-requires-clause-values
build_given-requires-clause-values g c =
    let given = c.in-Ok-values_for.ensures.values in
    rw (← c.len.ensures.value, c.deref.ensures.value) (many c.args.task.now.values c.len.result _ c.in-Ok-values_for.values.items given)

pub build_given-requires-clause-ranks : goal.build_given-requires-clause-ranks
build_given-requires-clause-ranks g c = λ width.
    let given = c.in-Ok-values_for.ensures.values in
    rw (← c.len.ensures.value, c.deref.ensures.value) (numbers (build_of c.args.task.now) c.len.result _ c.in-Ok-values_for.values.items c.requires.offered given width)

pub returns-clause-promise : goal.returns-clause-promise
returns-clause-promise g c = λ ticks.
    let read = c.in-Ok.ensures.keys in
    let given = rw c.len.ensures.value at c.in-Ok-values_for.ensures.values in
    let ends = rw c.deref.ensures.value at c.build_given.ensures.ends in
    given_ends (build_of c.args.task.now) _ _ ticks c.build_given.result (record { shelf = chained _ _ _ _ (answered _ _ _ c.in-Ok-values_for.ensures.counts) c.build_given.ensures.counts; input = answered _ _ _ c.in-Ok.ensures.counts; out = c.build_given.ensures.counts_out; err = c.build_given.ensures.counts_err })
    c.in-Ok.keys.lines read.all read.valid c.in-Ok-values_for.values.items given _ _ c.in-Ok-values_for.ensures.files c.in-Ok-values_for.ensures.counts.later ends

use Rattle.std.proofs.Common.{refl}
use Rattle.std.proofs.KnownBytes.{Keeps-refl}
use Rattle.sx_cli.proofs.Counts.{untouched, faulted}
use Rattle.sx_cli.proofs.Endings.{same_files}
use Rattle.sx_cli.proofs.Trials.{line_written, line_failed, seeds_fail, trial_memory}
use Rattle.sx_cli.proofs.trial.trial.Goals as goal

pub returns-in-Ok-clause-promise : goal.returns-in-Ok-clause-promise
returns-in-Ok-clause-promise g c = λ files input shelf_faults input_faults ticks.
    let cause = c.in-Ok.ensures.cause in
    line_written c.args.kind c.args.count _ _ ticks _ (record { shelf = untouched _ _; input = untouched _ _; out = record { later = cause.later; calm = λ _. cause.calm }; err = untouched _ _ })
    (record { files = same_files files; count = refl }) (record { bytes = Keeps-refl input; count = refl })
    c.in-Ok-Line.line.items (rw c.in-Ok-Line.field-0-is at c.in-Ok-Line.ensures.tried) (rw c.deref.ensures.value at c.in-Ok.ensures.ok) (Keeps-refl _) refl

pub returns-in-Ok-Line-clause-promise : goal.returns-in-Ok-Line-clause-promise
returns-in-Ok-Line-clause-promise g c = λ files input shelf_faults input_faults ticks.
    let cause = c.in-Err-write_all.ensures.cause in
    line_failed c.args.kind c.args.count _ _ ticks c.fail.result (record { shelf = untouched _ _; input = untouched _ _; out = faulted c.fail.result _ _ c.fail.ensures.told.is cause.later; err = c.fail.ensures.counts })
    (record { files = same_files files; count = refl }) (record { bytes = Keeps-refl input; count = refl })
    c.in-Ok-Line.line.items (rw c.in-Ok-Line.field-0-is at c.in-Ok-Line.ensures.tried) (rw c.deref.ensures.value at c.in-Err-write_all.ensures.failed) cause.failed c.fail.ensures.told

pub returns-in-Ok-Failed-clause-promise : goal.returns-in-Ok-Failed-clause-promise
returns-in-Ok-Failed-clause-promise g c = λ files input shelf_faults input_faults ticks.
    seeds_fail c.args.kind c.args.count _ _ ticks c.tell.result (record { shelf = untouched _ _; input = untouched _ _; out = untouched _ _; err = c.tell.ensures.counts })
    (record { files = same_files files; count = refl }) (record { bytes = Keeps-refl input; count = refl })
    c.in-Ok-Failed.message.items (rw c.in-Ok-Failed.field-0-is at c.in-Ok-Failed.ensures.tried) (Keeps-refl _) (rw c.deref-in-Ok-Failed.ensures.value at c.tell.ensures.told)

pub returns-clause-promise : goal.returns-clause-promise
returns-clause-promise g c = λ files input shelf_faults input_faults ticks.
    trial_memory c.args.kind c.args.count _ _ ticks c.tell_memory.result (record { shelf = untouched _ _; input = untouched _ _; out = untouched _ _; err = c.tell_memory.ensures.counts })
    (record { files = same_files files; count = refl }) (record { bytes = Keeps-refl input; count = refl }) (Keeps-refl _) c.tell_memory.ensures.told

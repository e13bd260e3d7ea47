use Rattle.sx_text.proofs.FailureLines.{stuck_failure, on_ok}
use Rattle.sx_text.proofs.failures.push_failure.Goals as goal

pub returns-in-Stuck : goal.returns-in-Stuck
returns-in-Stuck c = on_ok c.push_stuck.result _ _ _ _
    (stuck_failure c.args.plan.now c.args.seed c.in-Stuck.chunk c.part_name-part.result.now c.in-Stuck.witnesses c.args.fault.now c.in-Stuck.is c.part_name-part.ensures)
    (rw (c.witness_word.ensures, c.deref.ensures.value) at c.push_stuck.ensures)

use Rattle.sx_memory.proofs.calls.Calls.make.Goals as goal

pub returns-then-contains-clause-cause : goal.returns-then-contains-clause-cause
returns-then-contains-clause-cause c = record {
  later = c.fail.ensures.later;
  calm = tt;
  failed = c.fail.ensures.rose;
}

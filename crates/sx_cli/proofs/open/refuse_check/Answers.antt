use Rattle.std.proofs.Common.{inl}
use Rattle.sx_cli.proofs.open.refuse_check.Goals as goal

pub returns-in-Ok-clause-told : goal.returns-in-Ok-clause-told
returns-in-Ok-clause-told g c = inl (rw (c.deref.ensures.value, c.in-Ok.ensures) at c.tell.ensures.told)

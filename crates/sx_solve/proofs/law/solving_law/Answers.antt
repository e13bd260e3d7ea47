use Rattle.sx_solve.proofs.Deciding.{systems_solve_or_have_sum}
use Rattle.sx_solve.proofs.law.solving_law.Goals as goal

pub returns : goal.returns
returns c = systems_solve_or_have_sum

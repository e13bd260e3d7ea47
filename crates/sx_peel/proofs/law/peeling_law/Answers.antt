use Rattle.sx_peel.proofs.Deciding.{edges_peel_or_have_core}
use Rattle.sx_peel.proofs.law.peeling_law.Goals as goal

pub returns : goal.returns
returns c = edges_peel_or_have_core

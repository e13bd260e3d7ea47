use Rattle.std.proofs.Common.{arith}
use Rattle.sx_peel.proofs.Linking.{first_only}
use Rattle.sx_peel.proofs.peeling.only_seat.Goals as goal

pub returns : goal.returns
returns c = rw c.first.ensures (first_only _ (omega arith))

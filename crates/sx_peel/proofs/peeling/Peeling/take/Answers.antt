use Rattle.std.proofs.Common.{arith}
use Rattle.sx_peel.proofs.Linking.{beside_taken}
use Rattle.sx_peel.proofs.peeling.Peeling.take.Goals as goal

pub unlink-requires-2-clause-taken : goal.unlink-requires-2-clause-taken
unlink-requires-2-clause-taken c =
    let n = c.args.taken.edge in
    rw c.unlink.ensures (beside_taken n 0 1 c.args.links.now (omega arith) (c.requires.seats 1 (omega arith)))

pub unlink-requires-3-clause-taken : goal.unlink-requires-3-clause-taken
unlink-requires-3-clause-taken c =
    let n = c.args.taken.edge in
    rw c.unlink-2.ensures (beside_taken n 1 2 c.unlink.new.self (omega arith)
    (rw c.unlink.ensures (beside_taken n 0 2 c.args.links.now (omega arith) (c.requires.seats 2 (omega arith)))))

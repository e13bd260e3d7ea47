use Rattle.std.proofs.Common.{arith}
use Rattle.sx_text.proofs.FailureLines.{tries_step}
use Rattle.sx_text.proofs.failures.push_stuck.Goals as goal

pub tries-preserved : goal.tries-preserved
tries-preserved c =
    tries_step c.args.text.now.items c.tries.text.items c.push_front.new.text.items c.push_witness.new.text.items c.args.seed c.args.chunk c.tries.attempt c.args.part.now c.args.word.now c.args.witnesses.now c.index-witnesses-attempt.result
    (omega arith) c.index-witnesses-attempt.is c.tries.invariant c.in_ok-push_front.ensures c.in_ok-push_witness.ensures

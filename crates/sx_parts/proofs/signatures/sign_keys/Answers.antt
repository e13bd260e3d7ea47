use Rattle.sx_parts.proofs.Signing.{signed_push}
use Rattle.sx_parts.proofs.signatures.sign_keys.Goals as goal

pub loop-i-preserved : goal.loop-i-preserved
loop-i-preserved c = signed_push c.args.seed c.args.sig_bits c.args.keys.now.lines c.loop-i.sigs.items _ c.loop-i.i _ c.sign.result c.loop-i.invariant c.view.ensures c.sign.ensures c.in_ok-push.ensures.items

use Rattle.sx_zfast.proofs.MisledKeys.{neighbours}
use Rattle.sx_bits.specs.Views.{bits_of}
use Rattle.sx_zfast.proofs.correcting.shared_with_last.Goals as goal

pub returns-clause-front : goal.returns-clause-front
returns-clause-front c =
    (neighbours c.args.keys.now.lines c.args.key c.saturating_sub.result c.lcp.result (bits_of c.view.result) (bits_of c.view-2.result) c.requires c.saturating_sub.ensures c.view.ensures c.view-2.ensures c.lcp.ensures.value).0

pub returns-clause-within : goal.returns-clause-within
returns-clause-within c =
    (neighbours c.args.keys.now.lines c.args.key c.saturating_sub.result c.lcp.result (bits_of c.view.result) (bits_of c.view-2.result) c.requires c.saturating_sub.ensures c.view.ensures c.view-2.ensures c.lcp.ensures.value).1

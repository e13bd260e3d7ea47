use Rattle.sx_text.proofs.Texts.{counts_put}
use Rattle.sx_text.proofs.messages.push_counts.Goals as goal

pub returns : goal.returns
returns c = counts_put c.extend_from_slice-3.result _ _ _ _ _ _ c.args.values c.from.result c.args.keys
    c.in_ok-extend_from_slice.ensures.items c.in_ok-push_number.ensures c.in_ok-extend_from_slice-2.ensures.items c.from.ensures c.in_ok-push_number-2.ensures c.extend_from_slice-3.ensures.items

use Rattle.sx_sig.proofs.Groups.{put_is}
use Rattle.sx_sig.proofs.grouping.put.Goals as goal

pub returns : goal.returns
returns c = put_is c.args.lists.now.items c.args.place c.args.number c.index_mut.result.now c.push.new.self c.requires c.index_mut.ensures.value c.in_ok-push.ensures.items

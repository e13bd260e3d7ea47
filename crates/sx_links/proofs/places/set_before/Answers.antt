use Rattle.sx_links.proofs.Linked.{before_set, before_set_only}
use Rattle.sx_links.proofs.places.set_before.Goals as goal

pub returns-clause-befores : goal.returns-clause-befores
returns-clause-befores c = before_set c.args.neighbours.now.items c.args.place c.args.link c.index_mut.result.now c.index_mut.ensures.value

pub returns-clause-afters : goal.returns-clause-afters
returns-clause-afters c = before_set_only c.args.neighbours.now.items c.args.place c.args.link c.index_mut.result.now c.index_mut.ensures.value

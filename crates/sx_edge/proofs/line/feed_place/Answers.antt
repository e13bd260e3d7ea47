use Rattle.sx_edge.proofs.Feeds.{feed_found, feed_missing}
use Rattle.sx_edge.proofs.line.feed_place.Goals as goal

pub returns-in-Some : goal.returns-in-Some
returns-in-Some c = feed_found c.args.buf.now c.args.start c.args.end c.in-Some.at c.requires.order c.requires.within c.in-Some.ensures

pub returns-in-None : goal.returns-in-None
returns-in-None c = feed_missing c.args.buf.now c.args.start c.args.end c.requires.order c.requires.within c.in-None.ensures

use Rattle.sx_handles.proofs.OnWay.{deepest_on_way}
use Rattle.sx_handles.proofs.ways.way.Way.deepest.Goals as goal

pub returns : goal.returns
returns c = λ es x trie is.
    deepest_on_way es trie x c.args.self.now.shared c.args.self.now.nodes.now is c.last.result
    (record { inside = c.last.ensures.inside; short = c.last.ensures.short; beyond = c.last.ensures.beyond })

use Rattle.sx_zfast.proofs.Beyond.{leads_nowhere}
use Rattle.sx_zfast.proofs.probing.misleads.Goals as goal

pub returns-then-len-reach-clause-value : goal.returns-then-len-reach-clause-value
returns-then-len-reach-clause-value g c =
    leads_nowhere c.args.reach.now.trie.now.nodes c.args.len c.args.reach.now.longest _ c.args.reach.now.longest_extent c.if-len-reach.true

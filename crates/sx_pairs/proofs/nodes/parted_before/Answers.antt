use Rattle.sx_pairs.proofs.TrieNames.{before_by}
use Rattle.sx_pairs.proofs.nodes.parted_before.Goals as goal

pub returns : goal.returns
returns c =
    before_by c.args.keys.now.lines c.args.delimiters.now c.requires.rising c.args.leaf c.shared.result c.requires.inside c.if-leaf-eq0.false c.shared.ensures

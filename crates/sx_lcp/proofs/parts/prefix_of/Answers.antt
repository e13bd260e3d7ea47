use Rattle.sx_bits.specs.Views.{bits_of}
use Rattle.sx_lcp.proofs.BlockParts.{prefix_from_ends}
use Rattle.sx_lcp.proofs.parts.prefix_of.Goals as goal

pub returns : goal.returns
returns c =
    prefix_from_ends c.args.keys.now c.args.first c.args.after (bits_of c.view.result) (bits_of c.view-last.result) c.lcp.result c.requires.keys c.requires.some c.requires.within c.view.ensures c.view-last.ensures c.lcp.ensures.value

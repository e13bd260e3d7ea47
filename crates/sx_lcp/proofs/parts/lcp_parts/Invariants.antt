use Rattle.sx_lcp.proofs.BlockParts.{AreBlocks}
use Rattle.sx_lcp.proofs.parts.lcp_parts.Given as goal

abbrev pub invariant-loop-block : goal.invariant-loop-block
invariant-loop-block l = AreBlocks l.size l.keys.lines l.block l.lengths.items l.prefixes.items

use Rattle.std.proofs.Common.{◌≡◌, ◌*◌, ◌<◌, length, subst, refl, ap, ◌∙◌, arith}
use Rattle.std.specs.Int.{div_ceil}
use Rattle.sx_spec_kinds.specs.Blocks.{block_count}
use Rattle.sx_lcp.specs.Parts.{AreParts}
use Rattle.sx_lcp.specs.declared.parts.LcpParts.{LcpParts}
use Rattle.sx_lcp.proofs.BlockParts.{one_more_block, all_blocks, ceil_is_count}
use Rattle.sx_lcp.proofs.parts.lcp_parts.Goals as goal

pub loop-block-preserved : goal.loop-block-preserved
loop-block-preserved c =
    let b = c.full_size-size.result in
    let lines = c.args.keys.now.lines in
    let first = c.loop-block.block * b in
    let some = c.full_size-size.ensures.some in
    let number : c.div_ceil-blocks.result ≡ block_count b (length lines) = c.div_ceil-blocks.ensures ∙ ap (λ n. div_ceil n b) c.len-count.ensures.value ∙ ceil_is_count b (length lines) some in
    let inside : c.loop-block.block < block_count b (length lines) = omega arith in
    one_more_block b lines c.loop-block.block first c.min-after.result c.loop-block.lengths.items c.resize.new.self.items c.loop-block.lengths.len c.loop-block.prefixes.items c.push.new.self.items c.prefix_of-prefix.result
    some inside refl (omega arith) c.loop-block.invariant c.prefix_of-prefix.ensures (omega (arith, c.loop-block.lengths.ok.0)) c.in_ok-resize.ensures.items c.in_ok-push.ensures.items

pub returns : goal.returns
returns c =
    let b = c.full_size-size.result in
    let lines = c.args.keys.now.lines in
    let some = c.full_size-size.ensures.some in
    let number : c.div_ceil-blocks.result ≡ block_count b (length lines) = c.div_ceil-blocks.ensures ∙ ap (λ n. div_ceil n b) c.len-count.ensures.value ∙ ceil_is_count b (length lines) some in
    let parts : LcpParts = record { lengths = c.loop-block.lengths; prefixes = c.loop-block.prefixes } in
    let whole : c.loop-block.block ≡ block_count b (length lines) = omega arith in
    subst (λ n. AreParts n lines parts) c.full_size-size.ensures.value
    (all_blocks b c.args.keys.now c.loop-block.block parts some c.len-count.ensures.keys whole c.loop-block.invariant)

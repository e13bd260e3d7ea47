use Rattle.std.proofs.Common.{refl, ◌∙◌, arith}
use Rattle.sx_bytes.proofs.Pieces.{filled_more}
use Rattle.sx_bytes.proofs.words.fill.Goals as goal

pub loop-i-preserved : goal.loop-i-preserved
loop-i-preserved c = filled_more c.loop-i.buffer _ c.args.words.now c.copy_from_slice.new.self c.loop-i.i c.loop-i-test.true (omega arith) c.loop-i.invariant (c.copy_from_slice.ensures.after ∙ c.word_bytes.ensures) refl

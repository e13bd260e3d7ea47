use Rattle.std.proofs.Common.{◌^◌, ◌<◌, arith}
use Rattle.std.proofs.lemmas.List.Elements.{All-push, All-same}
use Rattle.sx_bytes.proofs.WordPieces.{pushed_word}
use Rattle.sx_bytes.proofs.words.push_words.Goals as goal

pub loop-i-preserved : goal.loop-i-preserved
loop-i-preserved c = record {
  words = pushed_word _ c.loop-i.words.items _ c.args.bytes.now c.loop-i.i c.word_at.result c.loop-i.invariant.words c.in_ok-push.ensures.items c.word_at.ensures;
  small = λ before. All-same (λ w. w < 2 ^ 64) _ _ c.in_ok-push.ensures.items (All-push (λ w. w < 2 ^ 64) c.loop-i.words.items c.word_at.result (c.loop-i.invariant.small before) (omega arith));
}

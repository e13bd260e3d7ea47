use Rattle.std.proofs.Common.{◌≡◌, ◌+◌, get_or, refl, arith}
use Rattle.std.specs.Int.Count.{ones}
use Rattle.std.proofs.lemmas.Nat.{ones-le}
use Rattle.sx_ranksel.proofs.Ranks.{rank_word}
use Rattle.sx_ranksel.proofs.counts.ones_between.Goals as goal

pub loop-word-preserved : goal.loop-word-preserved
loop-word-preserved g c =
    let bank = g.B.WordBank.words_of c.args.bank.now in
    let at = c.args.first + c.loop-word.word in
    let more = rank_word bank c.args.first c.requires.small c.loop-word.word (omega arith) in
    let is : ones (get_or bank at 0) ≡ ones c.word.result = rw c.word.ensures.word refl in
    let few = ones-le 64 c.word.result c.word.type_inv in
    let count = c.from-ones.ensures in
    record {
      ones = omega (arith, c.loop-word.invariant.ones);
      few = omega (arith, c.loop-word.invariant.few);
      cost = omega (arith, c.loop-word.invariant.cost, c.word.ensures.cost);
    }

use Rattle.std.proofs.Common.{◌≡◌, ◌^◌, ◌+◌, ◌%◌, get_or, refl, arith}
use Rattle.std.specs.Int.{bit_at}
use Rattle.std.specs.Int.Count.{ones}
use Rattle.sx_ranksel.specs.Directory.{number_at}
use Rattle.sx_ranksel.proofs.Ranks.{rank_word, word_one}
use Rattle.sx_ranksel.proofs.counts.select_between.Goals as goal

pub returns-then-k-before-clause-one : goal.returns-then-k-before-clause-one
returns-then-k-before-clause-one g c =
    let bank = g.B.WordBank.words_of c.args.bank.now in
    let w = get_or bank (c.args.first + c.loop-word.word) 0 in
    let q = c.select_in_word.result in
    let x = number_at c.args.first bank in
    let one : bit_at w q ≡ 1 = rw (← c.word-bits.ensures.word) c.select_in_word.ensures.one in
    let same : ones (w % 2 ^ q) ≡ ones (c.word-bits.result % 2 ^ q) = rw c.word-bits.ensures.word refl in
    let low = c.loop-word.invariant.low in
    let below = c.select_in_word.ensures.below in
    let found = word_one bank c.args.first c.requires.small c.loop-word.word q c.loop-word.before c.args.k c.select_in_word.ensures.within c.loop-word.invariant.before one (omega arith) in
    rw c.from.ensures found.0

pub returns-then-k-before-clause-below : goal.returns-then-k-before-clause-below
returns-then-k-before-clause-below g c =
    let bank = g.B.WordBank.words_of c.args.bank.now in
    let w = get_or bank (c.args.first + c.loop-word.word) 0 in
    let q = c.select_in_word.result in
    let x = number_at c.args.first bank in
    let one : bit_at w q ≡ 1 = rw (← c.word-bits.ensures.word) c.select_in_word.ensures.one in
    let same : ones (w % 2 ^ q) ≡ ones (c.word-bits.result % 2 ^ q) = rw c.word-bits.ensures.word refl in
    let low = c.loop-word.invariant.low in
    let below = c.select_in_word.ensures.below in
    let found = word_one bank c.args.first c.requires.small c.loop-word.word q c.loop-word.before c.args.k c.select_in_word.ensures.within c.loop-word.invariant.before one (omega arith) in
    rw c.from.ensures found.1

pub loop-word-preserved : goal.loop-word-preserved
loop-word-preserved g c =
    let bank = g.B.WordBank.words_of c.args.bank.now in
    let w = get_or bank (c.args.first + c.loop-word.word) 0 in
    let more = rank_word bank c.args.first c.requires.small c.loop-word.word (omega arith) in
    let is : ones w ≡ ones c.word-bits.result = rw c.word-bits.ensures.word refl in
    let count = c.from-ones.ensures in
    record {
      before = omega (arith, c.loop-word.invariant.before);
      low = omega (arith, c.loop-word.invariant.low);
      cost = omega (arith, c.loop-word.invariant.cost, c.word-bits.ensures.cost);
    }

use Rattle.std.proofs.Common.{◌≡◌, ◌^◌, ◌+◌, ◌*◌, ◌<◌, ◌∙◌, get_or, refl, ap, sym, subst, arith}
use Rattle.std.specs.Int.{trailing_zeros, w64}
use Rattle.std.specs.Int.Count.{ones}
use Rattle.sx_ranksel.specs.Directory.{number_at, rank_of}
use Rattle.sx_ranksel.proofs.Ranks.{rank_word, word_one, no_ones}
use Rattle.sx_ranksel.proofs.GroupWords.{lowest_one}
use Rattle.sx_ranksel.proofs.counts.next_between.Goals as goal

pub loop-word-preserved : goal.loop-word-preserved
loop-word-preserved g c =
    let bank = g.B.WordBank.words_of c.args.bank.now in
    let w = get_or bank (c.args.first + c.loop-word.word) 0 in
    let more = rank_word bank c.args.first c.requires.small c.loop-word.word (omega arith) in
    let none : ones w ≡ 0 = ap ones (sym c.word-bits.ensures.word ∙ c.if-bits-ne0.false) ∙ no_ones in
    record {
      none = omega (arith, c.loop-word.invariant.none);
      cost = omega (arith, c.loop-word.invariant.cost, c.word-bits.ensures.cost);
    }

pub returns-then-bits-ne0-clause-one : goal.returns-then-bits-ne0-clause-one
returns-then-bits-ne0-clause-one g c =
    let bank = g.B.WordBank.words_of c.args.bank.now in
    let x = number_at c.args.first bank in
    let k = c.loop-word.word in
    let w = get_or bank (c.args.first + k) 0 in
    let same : c.word-bits.result ≡ w = c.word-bits.ensures.word in
    let q = trailing_zeros w64 w in
    let low = lowest_one w (subst (λ m. 0 < m) same (omega arith)) (subst (λ m. m < 2 ^ 64) same c.word-bits.type_inv) in
    let found = word_one bank c.args.first c.requires.small k q (rank_of (64 * k) x) (rank_of (64 * k) x) low.0 refl low.1.0 (omega (arith, low.1.1)) in
    let place : c.from.result ≡ q = c.from.ensures ∙ ap (trailing_zeros w64) same in
    rw place found.0

pub returns-then-bits-ne0-clause-below : goal.returns-then-bits-ne0-clause-below
returns-then-bits-ne0-clause-below g c =
    let bank = g.B.WordBank.words_of c.args.bank.now in
    let x = number_at c.args.first bank in
    let k = c.loop-word.word in
    let w = get_or bank (c.args.first + k) 0 in
    let same : c.word-bits.result ≡ w = c.word-bits.ensures.word in
    let q = trailing_zeros w64 w in
    let low = lowest_one w (subst (λ m. 0 < m) same (omega arith)) (subst (λ m. m < 2 ^ 64) same c.word-bits.type_inv) in
    let found = word_one bank c.args.first c.requires.small k q (rank_of (64 * k) x) (rank_of (64 * k) x) low.0 refl low.1.0 (omega (arith, low.1.1)) in
    let place : c.from.result ≡ q = c.from.ensures ∙ ap (trailing_zeros w64) same in
    rw place (found.1 ∙ c.loop-word.invariant.none)

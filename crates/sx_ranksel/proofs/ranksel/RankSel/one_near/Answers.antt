use Rattle.std.proofs.Common.{◌≡◌, ◌-◌, ◌*◌, ◌/◌, ◌%◌, ◌^◌, ◌∙◌, ap, sym, arith}
use Rattle.std.specs.Int.Count.{ones}
use Rattle.std.specs.Prelude.{bit_and}
use Rattle.std.proofs.lemmas.Nat.{and_mask, one_shl}
use Rattle.sx_ranksel.specs.Directory.{number_at, rank_of}
use Rattle.sx_ranksel.proofs.Ranks.{select_at}
use Rattle.sx_ranksel.proofs.GroupWords.{one_stands, short_above, word_below}
use Rattle.sx_ranksel.proofs.ranksel.RankSel.one_near.Goals as goal

pub overflow_add-self : goal.overflow_add-self
overflow_add-self g c =
    let r = c.args.self.now in
    let stands = one_stands r.bits (number_at r.first (g.B.WordBank.words_of r.bank)) (64 * (c.args.k / 64)) (omega (arith, c.requires.some)) in
    omega (arith, r.within, r.long, c.requires.short.place, stands.0)

pub word-requires : goal.word-requires
word-requires g c =
    let r = c.args.self.now in
    let stands = one_stands r.bits (number_at r.first (g.B.WordBank.words_of r.bank)) (64 * (c.args.k / 64)) (omega (arith, c.requires.some)) in
    omega (arith, r.within, c.requires.short.place, stands.0)

pub overflow_sub-before : goal.overflow_sub-before
overflow_sub-before g c =
    let r = c.args.self.now in
    let bank = g.B.WordBank.words_of r.bank in
    let x = number_at r.first bank in
    let s = c.args.start % 64 in
    let w = c.word.result in
    let stands = one_stands r.bits x (64 * (c.args.k / 64)) (omega (arith, c.requires.some)) in
    let below : rank_of c.args.start x ≡ 64 * (c.args.k / 64) = ap (λ p. rank_of p x) c.requires.short.place ∙ stands.1.1 in
    let mask : bit_and w (1 * 2 ^ s % 2 ^ 64 - 1) ≡ w % 2 ^ s = ap (λ m. bit_and w (m - 1)) (one_shl s 64 (omega arith)) ∙ and_mask w s in
    let whole = word_below bank r.first r.small c.args.start (64 * (c.args.k / 64)) c.from.result w below c.word.ensures.word (c.from.ensures ∙ ap ones mask) in
    omega arith

pub select_between-requires-clause-order : goal.select_between-requires-clause-order
select_between-requires-clause-order g c =
    let r = c.args.self.now in
    let stands = one_stands r.bits (number_at r.first (g.B.WordBank.words_of r.bank)) (64 * (c.args.k / 64)) (omega (arith, c.requires.some)) in
    omega (arith, c.min-to.ensures, c.div_ceil.ensures, c.requires.short.place, stands.0)

pub select_between-requires-clause-before : goal.select_between-requires-clause-before
select_between-requires-clause-before g c =
    let r = c.args.self.now in
    let bank = g.B.WordBank.words_of r.bank in
    let x = number_at r.first bank in
    let s = c.args.start % 64 in
    let w = c.word.result in
    let stands = one_stands r.bits x (64 * (c.args.k / 64)) (omega (arith, c.requires.some)) in
    let below : rank_of c.args.start x ≡ 64 * (c.args.k / 64) = ap (λ p. rank_of p x) c.requires.short.place ∙ stands.1.1 in
    let mask : bit_and w (1 * 2 ^ s % 2 ^ 64 - 1) ≡ w % 2 ^ s = ap (λ m. bit_and w (m - 1)) (one_shl s 64 (omega arith)) ∙ and_mask w s in
    let whole = word_below bank r.first r.small c.args.start (64 * (c.args.k / 64)) c.from.result w below c.word.ensures.word (c.from.ensures ∙ ap ones mask) in
    omega arith

pub select_between-requires-clause-high : goal.select_between-requires-clause-high
select_between-requires-clause-high g c =
    let r = c.args.self.now in
    let x = number_at r.first (g.B.WordBank.words_of r.bank) in
    short_above r.bits x (c.args.k / 64) c.args.start c.args.k c.min-to.result c.requires.short (λ _. c.args.k / 64) c.requires.some (omega (arith, c.min-to.ensures, c.div_ceil.ensures))

pub returns-clause-place : goal.returns-clause-place
returns-clause-place g c =
    let r = c.args.self.now in
    let x = number_at r.first (g.B.WordBank.words_of r.bank) in
    sym (select_at x r.bits c.select_between.result.place c.args.k c.select_between.ensures.one c.select_between.ensures.below c.requires.some)

use Rattle.std.proofs.Common.{◌≡◌, ◌+◌, ◌*◌, ◌/◌, ◌%◌, ◌^◌, subst, arith}
use Rattle.std.specs.Prelude.{IfSome}
use Rattle.std.specs.Int.{trailing_zeros, w64}
use Rattle.std.proofs.Math.Nat.{div-le_self}
use Rattle.sx_ranksel.specs.Directory.{number_at, rank_of}
use Rattle.sx_ranksel.proofs.GroupWords.{lowest_one, next_in_word, none_in_word}
use Rattle.sx_ranksel.proofs.ranksel.RankSel.next_near.Goals as goal

pub returns-then-rest-ne0-clause-one : goal.returns-then-rest-ne0-clause-one
returns-then-rest-ne0-clause-one g c =
    let r = c.args.self.now in
    let bank = g.B.WordBank.words_of r.bank in
    let w = c.word.result in
    let rest = w / 2 ^ (c.args.place % 64) / 2 in
    let q = trailing_zeros w64 rest in
    let low = lowest_one rest (omega (arith, c.if-rest-ne0.true)) (let less = div-le_self w (2 ^ (c.args.place % 64)) in omega (arith, c.word.type_inv)) in
    let found = next_in_word bank r.first r.small c.args.place q rest w c.word.ensures.word c.word.type_inv (λ _. rest) low.1.0 low.1.1 in
    rw c.from.ensures found.0

pub returns-then-rest-ne0-clause-below : goal.returns-then-rest-ne0-clause-below
returns-then-rest-ne0-clause-below g c =
    let r = c.args.self.now in
    let bank = g.B.WordBank.words_of r.bank in
    let w = c.word.result in
    let rest = w / 2 ^ (c.args.place % 64) / 2 in
    let q = trailing_zeros w64 rest in
    let low = lowest_one rest (omega (arith, c.if-rest-ne0.true)) (let less = div-le_self w (2 ^ (c.args.place % 64)) in omega (arith, c.word.type_inv)) in
    let found = next_in_word bank r.first r.small c.args.place q rest w c.word.ensures.word c.word.type_inv (λ _. rest) low.1.0 low.1.1 in
    rw c.from.ensures found.1

pub returns-clause-below : goal.returns-clause-below
returns-clause-below g c =
    let r = c.args.self.now in
    let bank = g.B.WordBank.words_of r.bank in
    let x = number_at r.first bank in
    let w = c.word.result in
    let rest = w / 2 ^ (c.args.place % 64) / 2 in
    let done : rank_of (64 * (c.args.place / 64 + 1)) x ≡ rank_of (c.args.place + 1) x =
    none_in_word bank r.first r.small c.args.place rest w c.word.ensures.word (omega (arith, r.within, c.requires)) (λ _. rest) c.if-rest-ne0.false in
    subst (λ n. IfSome c.next_between.result (λ p. rank_of p x ≡ n)) done c.next_between.ensures.below

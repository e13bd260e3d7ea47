use Rattle.std.proofs.Common.{◌≡◌, ◌^◌, ◌+◌, ◌*◌, ◌/◌, ◌%◌, ◌-◌, get_or, ap, arith}
use Rattle.std.specs.Prelude.{bit_and}
use Rattle.std.specs.Int.Count.{ones}
use Rattle.sx_fields.proofs.WordFields.{masked}
use Rattle.sx_ranksel.specs.Directory.{number_at, rank_of}
use Rattle.sx_ranksel.proofs.Ranks.{rank_le, rank_part, rank_whole}
use Rattle.sx_ranksel.proofs.counts.ones_below.Goals as goal

pub overflow_add-ones : goal.overflow_add-ones
overflow_add-ones g c =
    let x = number_at c.args.first (g.B.WordBank.words_of c.args.bank.now) in
    let whole = rank_whole x c.args.pos c.args.before c.ones_between.result c.requires.before c.ones_between.ensures.ones in
    let few = rank_le (64 * (c.args.pos / 64)) x in
    omega arith

pub returns-clause-ones : goal.returns-clause-ones
returns-clause-ones g c =
    let bank = g.B.WordBank.words_of c.args.bank.now in
    let x = number_at c.args.first bank in
    let pos = c.args.pos in
    let w = get_or bank (c.args.first + pos / 64) 0 in
    let whole = rank_whole x pos c.args.before c.ones_between.result c.requires.before c.ones_between.ensures.ones in
    let part = rank_part bank c.args.first c.requires.small (pos / 64) (pos % 64) (omega arith) in
    let split : 64 * (pos / 64) + pos % 64 ≡ pos = omega arith in
    let all = ap (λ n. rank_of n x) split in
    let mask : ones (bit_and w ((2 ^ 64 - 1) / 2 ^ (64 - pos % 64))) ≡ ones (w % 2 ^ (pos % 64)) = ap ones (masked w (pos % 64) (omega arith)) in
    let last : c.from.result ≡ ones (bit_and w ((2 ^ 64 - 1) / 2 ^ (64 - pos % 64))) = rw (← c.word.ensures.word) c.from.ensures in
    omega arith

pub overflow_add-result : goal.overflow_add-result
overflow_add-result g c =
    let x = number_at c.args.first (g.B.WordBank.words_of c.args.bank.now) in
    let all = returns-clause-ones g c in
    let few = rank_le c.args.pos x in
    omega arith

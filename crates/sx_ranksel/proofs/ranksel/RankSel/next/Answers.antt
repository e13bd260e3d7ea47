use Rattle.std.proofs.Common.{◌≡◌, suc, ◌+◌, ◌<◌, ◌∙◌, ap, sym, arith}
use Rattle.sx_ranksel.specs.Directory.{number_at, rank_of}
use Rattle.sx_ranksel.specs.Groups.{place_of}
use Rattle.sx_ranksel.proofs.Ranks.{rank_more, select_at}
use Rattle.sx_ranksel.proofs.GroupWords.{one_stands}
use Rattle.sx_ranksel.proofs.ranksel.RankSel.next.Goals as goal

pub next_near-requires : goal.next_near-requires
next_near-requires g c =
    let r = c.args.self.now in
    let x = number_at r.first (g.B.WordBank.words_of r.bank) in
    let some : c.args.k < rank_of r.bits x = omega (arith, c.requires.some) in
    let stands = one_stands r.bits x c.args.k some in
    omega (arith, c.requires.place, stands.0)

pub returns-in-Some-clause-place : goal.returns-in-Some-clause-place
returns-in-Some-clause-place g c =
    let r = c.args.self.now in
    let x = number_at r.first (g.B.WordBank.words_of r.bank) in
    let p = place_of r.bits x c.args.k in
    let some : c.args.k < rank_of r.bits x = omega (arith, c.requires.some) in
    let stands = one_stands r.bits x c.args.k some in
    let more = rank_more x p in
    let e : c.args.place + 1 ≡ suc p = omega (arith, c.requires.place) in
    let count = c.in-Some.ensures.below ∙ ap (λ n. rank_of n x) e in
    sym (select_at x r.bits c.in-Some.next (c.args.k + 1) c.in-Some.ensures.one (omega (arith, stands.1.0, stands.1.1)) c.requires.some)

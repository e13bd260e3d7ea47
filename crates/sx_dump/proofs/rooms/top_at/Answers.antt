use Rattle.std.proofs.Common.{ℕ, ◌+◌, ◌<◌, List, length, sym, subst}
use Rattle.std.specs.Prelude.{IfOk}
use Rattle.sx_spec.specs.Reply.{gaps, numbers_of}
use Rattle.sx_hollow.specs.Tops.{AreKept}
use Rattle.sx_hollow.specs.Views.{sums_read}
use Rattle.sx_dump.specs.Opening.{dump_in}
use Rattle.sx_dump.proofs.rooms.top_at.Goals as goal

pub top_of-requires-clause-left : goal.top_of-requires-clause-left
top_of-requires-clause-left g c = subst (λ (xs : List ℕ). c.args.nodes < length xs) (sym c.sums_at-lefts.ensures.numbers) c.requires.within

pub top_of-requires-clause-skip : goal.top_of-requires-clause-skip
top_of-requires-clause-skip g c = subst (λ (xs : List ℕ). c.args.nodes < length xs) (sym c.sums_at-skips.ensures.numbers) c.requires.beside

pub returns : goal.returns
returns g c =
    let words = g.B.WordBank.words_of c.args.bank in
    let skips = numbers_of (dump_in words) (c.args.first + 1) in
    subst (λ (xs : List ℕ). IfOk c.top_of.result (λ v. AreKept (gaps xs) (gaps skips) v.items)) c.sums_at-lefts.ensures.numbers
    (subst (λ (ys : List ℕ). IfOk c.top_of.result (λ v. AreKept (gaps (sums_read c.sums_at-lefts.result)) (gaps ys) v.items)) c.sums_at-skips.ensures.numbers c.top_of.ensures.kept)

use Rattle.std.proofs.Common.{◌≡◌, ◌+◌, ◌-◌, ◌/◌, arith, ap, ◌∙◌}
use Rattle.std.specs.Prelude.{slice_index}
use Rattle.sx_spec.specs.Layout.{table_start, table_try}
use Rattle.sx_dump.proofs.Tables.{chunk_is, rises}
use Rattle.sx_dump.proofs.show.chunk_at.Goals as goal

pub overflow_sub-result : goal.overflow_sub-result
overflow_sub-result g c =
    let v = c.args.values.now in
    let words = g.B.WordBank.words_of v.bank in
    let up = rises words v.first v.width v.pairs v.stands c.args.i c.requires in
    let end : c.start_of.result ≡ table_start (slice_index words (v.first + c.args.i + 1)) = c.start_of.ensures ∙ ap table_start c.word-next.ensures.word in
    let start : c.start_of-2.result ≡ table_start (slice_index words (v.first + c.args.i)) = c.start_of-2.ensures ∙ ap table_start c.word-here.ensures.word in
    omega (arith, up, end, start)

pub returns-clause-chunk : goal.returns-clause-chunk
returns-clause-chunk g c =
    let v = c.args.values.now in
    let words = g.B.WordBank.words_of v.bank in
    chunk_is words v.first v.width v.pairs v.stands c.args.i c.requires _ c.start_of-2.result c.start_of.result _
    (c.start_of.ensures ∙ ap table_start c.word-next.ensures.word) (c.start_of-2.ensures ∙ ap table_start c.word-here.ensures.word) (λ k. (c.start_of.result - c.start_of-2.result) / 3) (c.from.ensures ∙ c.try_of.ensures.value ∙ ap table_try c.word-here.ensures.word)

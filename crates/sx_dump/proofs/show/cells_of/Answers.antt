use Rattle.std.proofs.Common.{◌≡◌, ◌<◌, ◌+◌, arith, ap, ◌∙◌, drop}
use Rattle.std.specs.Prelude.{slice_index}
use Rattle.std.proofs.lemmas.Nat.{pow_pos}
use Rattle.sx_spec.specs.Chunks.{chunk_bits, chunk_count}
use Rattle.sx_spec.specs.Fields.{fields}
use Rattle.sx_spec.specs.Layout.{table_cells, table_start}
use Rattle.sx_static.specs.Viewing.{table_at}
use Rattle.sx_dump.proofs.Tables.{cells_count, few}
use Rattle.sx_dump.proofs.show.cells_of.Goals as goal

pub new-requires-clause-short : goal.new-requires-clause-short
new-requires-clause-short g c =
    let v = c.args.values.now in
    let words = g.B.WordBank.words_of v.bank in
    let some : 0 < chunk_count v.pairs = pow_pos (chunk_bits v.pairs) in
    let less = few words v.first v.width v.pairs v.stands 0 some in
    let count : c.start_of-count.result ≡ table_cells (table_at words v.first v.pairs) =
    c.start_of-count.ensures ∙ ap table_start (c.word.ensures.word ∙ ap (λ n. slice_index words (v.first + n)) c.chunk_count.ensures.value) ∙ cells_count words v.first v.width v.pairs v.stands in
    omega (arith, less, count)

pub new-requires-clause-within : goal.new-requires-clause-within
new-requires-clause-within g c =
    let v = c.args.values.now in
    let words = g.B.WordBank.words_of v.bank in
    let count : c.start_of-count.result ≡ table_cells (table_at words v.first v.pairs) =
    c.start_of-count.ensures ∙ ap table_start (c.word.ensures.word ∙ ap (λ n. slice_index words (v.first + n)) c.chunk_count.ensures.value) ∙ cells_count words v.first v.width v.pairs v.stands in
    rw (count, c.chunk_count.ensures.value) v.stands.within

pub returns-clause-cells : goal.returns-clause-cells
returns-clause-cells g c =
    let v = c.args.values.now in
    let words = g.B.WordBank.words_of v.bank in
    let count : c.start_of-count.result ≡ table_cells (table_at words v.first v.pairs) =
    c.start_of-count.ensures ∙ ap table_start (c.word.ensures.word ∙ ap (λ n. slice_index words (v.first + n)) c.chunk_count.ensures.value) ∙ cells_count words v.first v.width v.pairs v.stands in
    c.new.ensures.items ∙ (λ i. fields v.width (count i) (drop (v.first + c.chunk_count.ensures.value i + 1) words))

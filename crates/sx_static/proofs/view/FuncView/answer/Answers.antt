use Rattle.std.proofs.Common.{◌≡◌, ◌+◌, ◌/◌, ◌-◌, ℕ, List, arith, ap, sym, ◌∙◌, drop}
use Rattle.std.specs.Prelude.{bit_xor, slice_index}
use Rattle.sx_spec.specs.Chunks.{chunk_bits, chunk_count, chunk_of, places}
use Rattle.sx_spec.specs.Fields.{fields}
use Rattle.sx_spec.specs.Layout.{table_start, table_try}
use Rattle.sx_static.proofs.Viewing.{table_within, chunk_within, rises, few, cells_within, empty_value, cells_value}
use Rattle.sx_static.proofs.view.FuncView.answer.Goals as goal

pub overflow_add-at : goal.overflow_add-at
overflow_add-at g c =
    let v = c.args.self.now in
    let words = g.B.WordBank.words_of v.bank in
    let is : c.chunk_of.result ≡ chunk_of c.args.sig.now (chunk_bits v.pairs) = c.chunk_of.ensures ∙ ap (chunk_of c.args.sig.now) v.numbered in
    let inside = chunk_within words v.first v.width v.pairs v.stands c.args.sig.now (omega arith) c.chunk_of.result is in
    let long = table_within words v.first v.width v.pairs v.stands in
    omega (arith, inside, long, v.far)

pub word-here-requires : goal.word-here-requires
word-here-requires g c =
    let v = c.args.self.now in
    let words = g.B.WordBank.words_of v.bank in
    let is : c.chunk_of.result ≡ chunk_of c.args.sig.now (chunk_bits v.pairs) = c.chunk_of.ensures ∙ ap (chunk_of c.args.sig.now) v.numbered in
    let inside = chunk_within words v.first v.width v.pairs v.stands c.args.sig.now (omega arith) c.chunk_of.result is in
    let long = table_within words v.first v.width v.pairs v.stands in
    omega (arith, inside, long)

pub overflow_add-at-2 : goal.overflow_add-at-2
overflow_add-at-2 g c =
    let v = c.args.self.now in
    let words = g.B.WordBank.words_of v.bank in
    let is : c.chunk_of.result ≡ chunk_of c.args.sig.now (chunk_bits v.pairs) = c.chunk_of.ensures ∙ ap (chunk_of c.args.sig.now) v.numbered in
    let inside = chunk_within words v.first v.width v.pairs v.stands c.args.sig.now (omega arith) c.chunk_of.result is in
    let long = table_within words v.first v.width v.pairs v.stands in
    omega (arith, inside, long, v.far)

pub word-next-requires : goal.word-next-requires
word-next-requires g c =
    let v = c.args.self.now in
    let words = g.B.WordBank.words_of v.bank in
    let is : c.chunk_of.result ≡ chunk_of c.args.sig.now (chunk_bits v.pairs) = c.chunk_of.ensures ∙ ap (chunk_of c.args.sig.now) v.numbered in
    let inside = chunk_within words v.first v.width v.pairs v.stands c.args.sig.now (omega arith) c.chunk_of.result is in
    let long = table_within words v.first v.width v.pairs v.stands in
    omega (arith, inside, long)

pub overflow_sub-segment : goal.overflow_sub-segment
overflow_sub-segment g c =
    let v = c.args.self.now in
    let words = g.B.WordBank.words_of v.bank in
    let is : c.chunk_of.result ≡ chunk_of c.args.sig.now (chunk_bits v.pairs) = c.chunk_of.ensures ∙ ap (chunk_of c.args.sig.now) v.numbered in
    let up = rises words v.first v.width v.pairs v.stands c.args.sig.now (omega arith) c.chunk_of.result is in
    let start : c.start_of-start.result ≡ table_start (slice_index words (v.first + c.chunk_of.result)) = c.start_of-start.ensures ∙ ap table_start c.word-here.ensures.word in
    let end : c.start_of-end.result ≡ table_start (slice_index words (v.first + c.chunk_of.result + 1)) = c.start_of-end.ensures ∙ ap table_start c.word-next.ensures.word in
    omega (arith, up, start, end)

pub overflow_cast-segment : goal.overflow_cast-segment
overflow_cast-segment g c =
    let v = c.args.self.now in
    let words = g.B.WordBank.words_of v.bank in
    let is : c.chunk_of.result ≡ chunk_of c.args.sig.now (chunk_bits v.pairs) = c.chunk_of.ensures ∙ ap (chunk_of c.args.sig.now) v.numbered in
    let less = few words v.first v.width v.pairs v.stands c.args.sig.now (omega arith) c.chunk_of.result is in
    let end : c.start_of-end.result ≡ table_start (slice_index words (v.first + c.chunk_of.result + 1)) = c.start_of-end.ensures ∙ ap table_start c.word-next.ensures.word in
    omega (arith, less, end)

pub returns-then-segment-eq0-clause-value : goal.returns-then-segment-eq0-clause-value
returns-then-segment-eq0-clause-value g c =
    let v = c.args.self.now in
    let words = g.B.WordBank.words_of v.bank in
    let is : c.chunk_of.result ≡ chunk_of c.args.sig.now (chunk_bits v.pairs) = c.chunk_of.ensures ∙ ap (chunk_of c.args.sig.now) v.numbered in
    let start : c.start_of-start.result ≡ table_start (slice_index words (v.first + c.chunk_of.result)) = c.start_of-start.ensures ∙ ap table_start c.word-here.ensures.word in
    let end : c.start_of-end.result ≡ table_start (slice_index words (v.first + c.chunk_of.result + 1)) = c.start_of-end.ensures ∙ ap table_start c.word-next.ensures.word in
    sym (empty_value words v.first v.width v.pairs v.stands c.args.sig.now (omega arith) c.chunk_of.result is (rw (← start, ← end) c.if-segment-eq0.true))

pub places-edge-requires-clause-short : goal.places-edge-requires-clause-short
places-edge-requires-clause-short g c =
    let v = c.args.self.now in
    let words = g.B.WordBank.words_of v.bank in
    let is : c.chunk_of.result ≡ chunk_of c.args.sig.now (chunk_bits v.pairs) = c.chunk_of.ensures ∙ ap (chunk_of c.args.sig.now) v.numbered in
    let less = few words v.first v.width v.pairs v.stands c.args.sig.now (omega arith) c.chunk_of.result is in
    let end : c.start_of-end.result ≡ table_start (slice_index words (v.first + c.chunk_of.result + 1)) = c.start_of-end.ensures ∙ ap table_start c.word-next.ensures.word in
    omega (arith, less, end)

pub new-cells-requires-clause-short : goal.new-cells-requires-clause-short
new-cells-requires-clause-short g c =
    let v = c.args.self.now in
    let words = g.B.WordBank.words_of v.bank in
    let is : c.chunk_of.result ≡ chunk_of c.args.sig.now (chunk_bits v.pairs) = c.chunk_of.ensures ∙ ap (chunk_of c.args.sig.now) v.numbered in
    let less = few words v.first v.width v.pairs v.stands c.args.sig.now (omega arith) c.chunk_of.result is in
    let end : c.start_of-end.result ≡ table_start (slice_index words (v.first + c.chunk_of.result + 1)) = c.start_of-end.ensures ∙ ap table_start c.word-next.ensures.word in
    omega (arith, less, end)

pub new-cells-requires-clause-within : goal.new-cells-requires-clause-within
new-cells-requires-clause-within g c =
    let v = c.args.self.now in
    let words = g.B.WordBank.words_of v.bank in
    let is : c.chunk_of.result ≡ chunk_of c.args.sig.now (chunk_bits v.pairs) = c.chunk_of.ensures ∙ ap (chunk_of c.args.sig.now) v.numbered in
    let inside = cells_within words v.first v.width v.pairs v.stands c.args.sig.now (omega arith) c.chunk_of.result is in
    let end : c.start_of-end.result ≡ table_start (slice_index words (v.first + c.chunk_of.result + 1)) = c.start_of-end.ensures ∙ ap table_start c.word-next.ensures.word in
    rw (end, v.behind) inside

pub returns-clause-value : goal.returns-clause-value
returns-clause-value g c =
    let v = c.args.self.now in
    let words = g.B.WordBank.words_of v.bank in
    let is : c.chunk_of.result ≡ chunk_of c.args.sig.now (chunk_bits v.pairs) = c.chunk_of.ensures ∙ ap (chunk_of c.args.sig.now) v.numbered in
    let here = slice_index words (v.first + c.chunk_of.result) in
    let next = slice_index words (v.first + c.chunk_of.result + 1) in
    let start : c.start_of-start.result ≡ table_start here = c.start_of-start.ensures ∙ ap table_start c.word-here.ensures.word in
    let end : c.start_of-end.result ≡ table_start next = c.start_of-end.ensures ∙ ap table_start c.word-next.ensures.word in
    let tried : c.try_of.result ≡ table_try here = c.try_of.ensures.value ∙ ap table_try c.word-here.ensures.word in
    let s = (table_start next - table_start here) / 3 in
    let size : (c.start_of-end.result - c.start_of-start.result) / 3 ≡ s = λ i. (end i - start i) / 3 in
    let e = c.places-edge.result in
    let at : e ≡ places c.args.sig.now (table_try here) s = c.places-edge.ensures.value ∙ (λ i. places c.args.sig.now (tried i) (size i)) in
    let items : List ℕ = fields v.width (table_start next) (drop (v.first + chunk_count v.pairs + 1) words) in
    let same : fields v.width c.start_of-end.result (drop v.cells words) ≡ items = λ i. fields v.width (end i) (drop (v.behind i) words) in
    let value = cells_value words v.first v.width v.pairs v.stands c.args.sig.now (omega arith) c.chunk_of.result is (omega (arith, size)) e at (omega (arith, size)) (omega (arith, size)) (omega (arith, size)) in
    let a : c.read.result ≡ slice_index items (table_start here + e.a) = c.read.ensures.value ∙ ap (λ xs. slice_index xs (c.start_of-start.result + e.a)) (c.new-cells.ensures.items ∙ same) ∙ ap (λ (n : ℕ). slice_index items (n + e.a)) start in
    let b : c.read-2.result ≡ slice_index items (table_start here + e.b) = c.read-2.ensures.value ∙ ap (λ xs. slice_index xs (c.start_of-start.result + e.b)) (c.new-cells.ensures.items ∙ same) ∙ ap (λ (n : ℕ). slice_index items (n + e.b)) start in
    let d : c.read-3.result ≡ slice_index items (table_start here + e.c) = c.read-3.ensures.value ∙ ap (λ xs. slice_index xs (c.start_of-start.result + e.c)) (c.new-cells.ensures.items ∙ same) ∙ ap (λ (n : ℕ). slice_index items (n + e.c)) start in
    (λ i. bit_xor (bit_xor (a i) (b i)) (d i)) ∙ sym value

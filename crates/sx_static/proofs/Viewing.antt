-- What a function in words answers, by the words of its table and its cells.
use Rattle.std.proofs.Common.{◌≡◌, ℕ, suc, ◌+◌, ◌-◌, ◌*◌, ◌/◌, ◌^◌, ◌<◌, ◌≤◌, Bool, false, List, length, take, drop, get_or, refl, sym, ap, subst, ◌∙◌, arith, Some, get_or-take, get_or-drop}
use Rattle.std.specs.Prelude.{◌==◌, slice_index, slice_get, bit_xor, if◌then◌else◌}
use Rattle.std.specs.Option.{option_map_or}
use Rattle.std.proofs.lemmas.Bool.{ne_eqb}
use Rattle.std.proofs.lemmas.List.{length-drop, length-take-le}
use Rattle.std.proofs.lemmas.Nat.{mul-le, pow_pos}
use Rattle.sx_spec.specs.declared.Edge.{Edge}
use Rattle.sx_spec.specs.declared.Signature.{Signature}
use Rattle.sx_spec.specs.Chunks.{chunk_bits, chunk_count, chunk_of, places}
use Rattle.sx_spec.specs.Fields.{fields, words_for, words_number}
use Rattle.sx_spec.specs.Layout.{table_start, table_try, table_cells, u32_max}
use Rattle.sx_spec.specs.StaticFunction.{value_of, chunk_value, cells_from, cell_count}
use Rattle.sx_spec.specs.Systems.{cells_at}
use Rattle.sx_spec.proofs.Functions.{chunk_below}
use Rattle.sx_fields.proofs.WordNumbers.{digit_at}
use Rattle.sx_static.specs.Viewing.{IsViewed, table_at, viewed}
use Rattle.sx_static.proofs.ChunkTables.{TellsChunk, tells_chunk}

-- a field is the same whether more fields follow it or not
pub same_field : (width n m i : ℕ) (words : List ℕ) → i < n → i < m → get_or (fields width n words) i 0 ≡ get_or (fields width m words) i 0
same_field width n m i words fewer more =
    digit_at (2 ^ width) (pow_pos width) n (words_number words) i fewer
    ∙ sym (digit_at (2 ^ width) (pow_pos width) m (words_number words) i more)

module _ (words : List ℕ) (first width pairs : ℕ) (stands : IsViewed words first width pairs) where
  -- the table stands in the words
  pub table_within : first + chunk_count pairs + 1 ≤ length words
  table_within = omega (arith, stands.within)

  length-table : length (table_at words first pairs) ≡ chunk_count pairs + 1
  length-table =
      let long = table_within in
      let rest = length-drop first words in
      length-take-le (chunk_count pairs + 1) (drop first words) (omega arith)

  -- word i of the table
  word_at : (i : ℕ) → i < chunk_count pairs + 1 → slice_index (table_at words first pairs) i ≡ slice_index words (first + i)
  word_at i within = rw (get_or-take, get_or-drop) refl

module _ (words : List ℕ) (first width pairs : ℕ) (stands : IsViewed words first width pairs) (sig : Signature) (small : sig.w0 < 2 ^ 64) (j : ℕ) (is : j ≡ chunk_of sig (chunk_bits pairs)) where
  abbrev here : ℕ
  here = slice_index words (first + j)

  abbrev next : ℕ
  next = slice_index words (first + j + 1)

  abbrev cells : ℕ → List ℕ
  cells n = fields width n (drop (first + chunk_count pairs + 1) words)

  -- the signature's chunk is one of the table's
  pub chunk_within : j < chunk_count pairs
  chunk_within = subst (λ (n : ℕ). n < chunk_count pairs) (sym is) (chunk_below sig pairs (omega (arith, stands.few)) small)

  tells : TellsChunk (table_at words first pairs) j
  tells =
      let long = length-table words first width pairs stands in
      let inside = chunk_within in
      tells_chunk (table_at words first pairs) j stands.table (omega arith)

  word_here : slice_index (table_at words first pairs) j ≡ here
  word_here = let inside = chunk_within in word_at words first width pairs stands j (omega arith)

  word_next : slice_index (table_at words first pairs) (suc j) ≡ next
  word_next =
      let inside = chunk_within in
      let e : first + suc j ≡ first + j + 1 = omega arith in
      word_at words first width pairs stands (suc j) (omega arith) ∙ ap (slice_index words) e

  pub rises : table_start here ≤ table_start next
  rises = let t = tells in let a = word_here in let b = word_next in
      subst (λ (n : ℕ). table_start n ≤ table_start next) a (subst (λ (n : ℕ). table_start (slice_index (table_at words first pairs) j) ≤ table_start n) b t.rises)

  pub below : table_start next ≤ table_cells (table_at words first pairs)
  below = let t = tells in subst (λ (n : ℕ). table_start n ≤ table_cells (table_at words first pairs)) word_next t.below

  pub few : table_start next ≤ u32_max
  few = let t = tells in let less = below in omega (arith, less, t.few)

  -- so the cells up to the chunk's end stand in the words
  pub cells_within : first + chunk_count pairs + 1 + words_for (table_start next * width) ≤ length words
  cells_within =
      let less = below in
      let product : table_start next * width ≤ table_cells (table_at words first pairs) * width = mul-le (table_start next) width (table_cells (table_at words first pairs)) width less (omega arith) in
      omega (arith, stands.within, product)

  abbrev segment : ℕ
  segment = (table_start next - table_start here) / 3

  -- the value is that of the chunk
  value_in_chunk : value_of (viewed words first width pairs) sig ≡ chunk_value (drop (table_start here) (cells (table_cells (table_at words first pairs)))) sig (record { segment = segment; try = table_try here })
  value_in_chunk =
      let f = viewed words first width pairs in
      let t = tells in
      let chunk : slice_get f.chunks j ≡ Some (record { segment = segment; try = table_try here }) =
      t.chunk ∙ (λ k. Some (record { segment = (table_start (word_next k) - table_start (word_here k)) / 3; try = table_try (word_here k) })) in
      let start : cell_count (take j f.chunks) ≡ table_start here = t.start ∙ ap table_start word_here in
      ap (λ (i : ℕ). option_map_or (chunk_value (cells_from f i) sig) (slice_get f.chunks i) 0) (sym is)
      ∙ ap (λ o. option_map_or (chunk_value (cells_from f j) sig) o 0) chunk
      ∙ ap (λ (n : ℕ). chunk_value (drop n f.cells) sig (record { segment = segment; try = table_try here })) start

  -- an empty chunk answers 0
  pub empty_value : segment ≡ 0 → value_of (viewed words first width pairs) sig ≡ 0
  empty_value none = value_in_chunk ∙ rw none refl

  cell_at : (place : ℕ) → place < 3 * segment
      → slice_index (drop (table_start here) (cells (table_cells (table_at words first pairs)))) place ≡ slice_index (cells (table_start next)) (table_start here + place)
  cell_at place within =
      let less = below in
      get_or-drop (table_start here) (cells (table_cells (table_at words first pairs))) place 0
      ∙ same_field width (table_cells (table_at words first pairs)) (table_start next) (table_start here + place) (drop (first + chunk_count pairs + 1) words) (omega arith) (omega arith)

  -- any other answers the xor of its three cells
  pub cells_value : 0 < segment → (e : Edge) → e ≡ places sig (table_try here) segment → e.a < 3 * segment → e.b < 3 * segment → e.c < 3 * segment
      → value_of (viewed words first width pairs) sig
      ≡ bit_xor (bit_xor (slice_index (cells (table_start next)) (table_start here + e.a)) (slice_index (cells (table_start next)) (table_start here + e.b))) (slice_index (cells (table_start next)) (table_start here + e.c))
  cells_value some e at lt_a lt_b lt_c =
      let rest = drop (table_start here) (cells (table_cells (table_at words first pairs))) in
      let not_empty : (segment == 0) ≡ false = ne_eqb segment 0 (λ none. absurd (omega arith)) in
      value_in_chunk
      ∙ ap (λ (t : Bool). if t then 0 else cells_at rest (places sig (table_try here) segment)) not_empty
      ∙ ap (cells_at rest) (sym at)
      ∙ (λ k. bit_xor (bit_xor (cell_at e.a lt_a k) (cell_at e.b lt_b k)) (cell_at e.c lt_c k))

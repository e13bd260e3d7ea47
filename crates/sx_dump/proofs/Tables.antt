-- What the words of a function's table and the next after it say.
use Rattle.std.proofs.Common.{◌≡◌, ℕ, suc, ◌+◌, ◌-◌, ◌/◌, ◌<◌, ◌≤◌, List, length, drop, get_or, Some, None, refl, sym, ap, subst, ◌∙◌, arith, get_or-take, get_or-drop}
use Rattle.std.specs.Prelude.{slice_index, slice_get}
use Rattle.std.proofs.lemmas.List.{length-drop, length-map, length-take-le}
use Rattle.std.proofs.lemmas.Slice.Zip.{length-zip}
use Rattle.sx_spec.specs.Chunks.{chunk_count}
use Rattle.sx_spec.specs.Layout.{neighbours, table_cells, table_chunks, table_start, table_try, u32_max}
use Rattle.sx_spec.specs.StaticFunction.{Chunk}
use Rattle.sx_static.specs.Viewing.{IsViewed, table_at}
use Rattle.sx_static.proofs.ChunkTables.{TellsChunk, last_is, tells_chunk}
use Rattle.sx_static.proofs.Viewing.{table_within}

module _ (words : List ℕ) (first width pairs : ℕ) (stands : IsViewed words first width pairs) where
  abbrev table : List ℕ
  table = table_at words first pairs

  length-table : length table ≡ chunk_count pairs + 1
  length-table =
      let long = table_within words first width pairs stands in
      let rest = length-drop first words in
      length-take-le (chunk_count pairs + 1) (drop first words) (omega arith)

  -- word i of the table
  word_at : (i : ℕ) → i < chunk_count pairs + 1 → slice_index table i ≡ slice_index words (first + i)
  word_at i within = rw (get_or-take, get_or-drop) refl

  -- as many chunks as the pairs have
  pub chunks_count : length (table_chunks table) ≡ chunk_count pairs
  chunks_count =
      let long = length-table in
      let a = length-map {B = Chunk} (neighbours table) (λ p. record { segment = (table_start p.1 - table_start p.0) / 3; try = table_try p.0 }) in
      let b = length-zip table (drop 1 table) in
      let d = length-drop 1 table in
      omega (arith, a, b, d, long)

  -- the last word counts the cells
  pub cells_count : table_start (slice_index words (first + chunk_count pairs)) ≡ table_cells table
  cells_count =
      let long = length-table in
      let e : length table - 1 ≡ chunk_count pairs = omega (arith, long) in
      sym (ap table_start (last_is table None (omega (arith, long)) ∙ ap (λ n. get_or table n 0) e ∙ word_at (chunk_count pairs) (omega arith)))

  abbrev here : ℕ → ℕ
  here j = slice_index words (first + j)

  abbrev next : ℕ → ℕ
  next j = slice_index words (first + j + 1)

  module _ (j : ℕ) (within : j < chunk_count pairs) where
    tells : TellsChunk table j
    tells = let long = length-table in tells_chunk table j stands.table (omega (arith, long))

    word_here : slice_index table j ≡ here j
    word_here = word_at j (omega arith)

    word_next : slice_index table (suc j) ≡ next j
    word_next =
        let e : first + suc j ≡ first + j + 1 = omega arith in
        word_at (suc j) (omega arith) ∙ ap (slice_index words) e

    -- starts don't fall
    pub rises : table_start (here j) ≤ table_start (next j)
    rises =
        let t = tells in
        subst (λ (n : ℕ). table_start n ≤ table_start (next j)) word_here (subst (λ (n : ℕ). table_start (slice_index table j) ≤ table_start n) word_next t.rises)

    -- there are few cells
    pub few : table_cells table ≤ u32_max
    few = let t = tells in t.few

    -- chunk j by its word and the next
    pub chunk_is : (segment start end try : ℕ) → end ≡ table_start (next j) → start ≡ table_start (here j) → segment ≡ (end - start) / 3 → try ≡ table_try (here j)
        → slice_get (table_chunks table) j ≡ Some (record { segment = segment; try = try })
    chunk_is segment start end try ends starts is tried =
        let t = tells in
        t.chunk
        ∙ (λ k. Some (record { segment = (table_start (word_next k) - table_start (word_here k)) / 3; try = table_try (word_here k) }))
        ∙ (λ k. Some (record { segment = (sym ends k - sym starts k) / 3; try = sym tried k }))
        ∙ ap (λ (s : ℕ). Some (record { segment = s; try = try })) (sym is)

-- The chunks of a chunk table, one after another.
use Rattle.std.proofs.Common.{◌≡◌, ◌≢◌, ℕ, zero, suc, ◌+◌, ◌-◌, ◌/◌, ◌%◌, ◌<◌, ◌≤◌, Bool, true, false, List, [], ◌∷◌, length, take, drop, get_or, Option, Some, None, refl, sym, ap, ◌∙◌, arith}
use Rattle.std.specs.Prelude.{◌==◌, ◌&&◌, nat_le, slice_index, slice_get, unwrap_or}
use Rattle.std.specs.List.{list_all, last_or}
use Rattle.std.proofs.lemmas.Bool.{and_parts, leb-true, eqb-true, eq-eqb, ne_eqb, le-leb, lt-leb}
use Rattle.sx_spec.specs.Layout.{is_chunk, is_table, neighbours, table_cells, table_chunks, table_start, table_try, u32_max}
use Rattle.sx_spec.specs.StaticFunction.{Chunk, cell_count}
use Rattle.sx_spec.proofs.Sections.{cell_count-cons}

-- whether each word of a table and the next are a chunk
abbrev pub AreChunks : List ℕ → Type 0
AreChunks table = list_all is_chunk (neighbours table) ≡ true

-- ---- tables from a word on

-- chunk j is told by word j and the next
pub chunk_at : (j w : ℕ) (table : List ℕ) → j < length table
    → slice_get (table_chunks (w ∷ table)) j ≡ Some (record {
      segment = (table_start (slice_index (w ∷ table) (suc j)) - table_start (slice_index (w ∷ table) j)) / 3;
      try = table_try (slice_index (w ∷ table) j);
    })
chunk_at j w [] within = absurd (omega arith)
chunk_at zero w (v ∷ table) within = refl
chunk_at (suc j) w (v ∷ table) within = chunk_at j v table (omega arith)

-- what a chunk's two words say where they fit
pub fit_parts : (w v : ℕ) → is_chunk (w, v) ≡ true → (table_start w ≤ table_start v) × ((table_start v - table_start w) % 3 ≡ 0)
fit_parts w v is =
    let fits = and_parts (nat_le (table_start w) (table_start v)) _ is in
    (leb-true (table_start w) (table_start v) fits.0, eqb-true ((table_start v - table_start w) % 3) 0 (and_parts ((table_start v - table_start w) % 3 == 0) _ fits.1).0)

-- word j names the first cell of chunk j
pub start_at : (j w : ℕ) (table : List ℕ) → AreChunks (w ∷ table) → j ≤ length table
    → cell_count (take j (table_chunks (w ∷ table))) + table_start w ≡ table_start (slice_index (w ∷ table) j)
start_at zero w table chunks within = omega arith
start_at (suc j) w [] chunks within = absurd (omega arith)
start_at (suc j) w (v ∷ table) chunks within =
    let both = and_parts (is_chunk (w, v)) (list_all is_chunk (neighbours (v ∷ table))) chunks in
    let fits = fit_parts w v both.0 in
    let chunk : Chunk = record { segment = (table_start v - table_start w) / 3; try = table_try w } in
    let split = cell_count-cons chunk (take j (table_chunks (v ∷ table))) in
    let rest = start_at j v table both.1 (omega arith) in
    omega (arith, fits.0, fits.1, split, rest)

-- no start is above the number of all cells
pub start_below : (j w : ℕ) (table : List ℕ) → AreChunks (w ∷ table) → j ≤ length table → table_start (slice_index (w ∷ table) j) ≤ table_cells (w ∷ table)
start_below zero w [] chunks within = omega arith
start_below zero w (v ∷ table) chunks within =
    let both = and_parts (is_chunk (w, v)) (list_all is_chunk (neighbours (v ∷ table))) chunks in
    let fits = fit_parts w v both.0 in
    let rest : table_start v ≤ table_cells (v ∷ table) = start_below zero v table both.1 (omega arith) in
    omega (arith, fits.0, rest)
start_below (suc j) w [] chunks within = absurd (omega arith)
start_below (suc j) w (v ∷ table) chunks within =
    start_below j v table (and_parts (is_chunk (w, v)) (list_all is_chunk (neighbours (v ∷ table))) chunks).1 (omega arith)

-- word j and the next fit
pub fit_at : (j w : ℕ) (table : List ℕ) → AreChunks (w ∷ table) → j < length table
    → table_start (slice_index (w ∷ table) j) ≤ table_start (slice_index (w ∷ table) (suc j))
fit_at j w [] chunks within = absurd (omega arith)
fit_at zero w (v ∷ table) chunks within = (fit_parts w v (and_parts (is_chunk (w, v)) (list_all is_chunk (neighbours (v ∷ table))) chunks).0).0
fit_at (suc j) w (v ∷ table) chunks within = fit_at j v table (and_parts (is_chunk (w, v)) (list_all is_chunk (neighbours (v ∷ table))) chunks).1 (omega arith)

-- ---- whole tables

-- what the words of a chunk table say of chunk j
pub record TellsChunk (table : List ℕ) (j : ℕ) : Type 0 where
  pub chunk : slice_get (table_chunks table) j ≡ Some (record {
    segment = (table_start (slice_index table (suc j)) - table_start (slice_index table j)) / 3;
    try = table_try (slice_index table j);
  })
  pub start : cell_count (take j (table_chunks table)) ≡ table_start (slice_index table j)
  pub rises : table_start (slice_index table j) ≤ table_start (slice_index table (suc j))
  pub below : table_start (slice_index table (suc j)) ≤ table_cells table
  pub few : table_cells table ≤ u32_max

pub tells_chunk : (table : List ℕ) (j : ℕ) → is_table table ≡ true → suc j < length table → TellsChunk table j
tells_chunk [] j is within = absurd (omega arith)
tells_chunk (w ∷ table) j is within =
    let first = and_parts (table_start w == 0) _ is in
    let chunks = and_parts (list_all is_chunk (neighbours (w ∷ table))) _ first.1 in
    let last = and_parts (table_try (unwrap_or (last_or (Some w) table) 0) == 0) _ chunks.1 in
    let zero_start : table_start w ≡ 0 = eqb-true (table_start w) 0 first.0 in
    let sum = start_at j w table chunks.0 (omega arith) in
    record {
      chunk = chunk_at j w table (omega arith);
      start = omega (arith, zero_start, sum);
      rises = fit_at j w table chunks.0 (omega arith);
      below = start_below (suc j) w table chunks.0 (omega arith);
      few = leb-true (table_cells (w ∷ table)) u32_max last.1;
    }

-- ---- a walk over the words

-- the words from i on are a chunk and the words from i + 1 on
pub chunks_from : (i : ℕ) (table : List ℕ) → suc i < length table
    → list_all is_chunk (neighbours (drop i table)) ≡ (is_chunk (get_or table i 0, get_or table (suc i) 0) && list_all is_chunk (neighbours (drop (suc i) table)))
chunks_from i [] within = absurd (omega arith)
chunks_from i (w ∷ []) within = absurd (omega arith)
chunks_from zero (w ∷ v ∷ table) within = refl
chunks_from (suc i) (w ∷ v ∷ table) within = chunks_from i (v ∷ table) (omega arith)

-- the last word alone has no next
pub chunks_end : (i : ℕ) (table : List ℕ) → suc i ≡ length table → list_all is_chunk (neighbours (drop i table)) ≡ true
chunks_end i [] end = absurd (omega arith)
chunks_end zero (w ∷ []) end = refl
chunks_end zero (w ∷ v ∷ table) end = absurd (omega arith)
chunks_end (suc i) (w ∷ table) end = chunks_end i table (omega arith)

-- ---- the tests of a whole table

-- the last word
pub last_is : (table : List ℕ) (o : Option ℕ) → 0 < length table → unwrap_or (last_or o table) 0 ≡ get_or table (length table - 1) 0
last_is [] o some = absurd (omega arith)
last_is (w ∷ []) o some = refl
last_is (w ∷ v ∷ table) o some =
    let e : length (w ∷ v ∷ table) - 1 ≡ suc (length (v ∷ table) - 1) = omega arith in
    last_is (v ∷ table) (Some w) (omega arith) ∙ ap (λ n. get_or (w ∷ v ∷ table) n 0) (sym e)

and_false : (a : Bool) → (a && false) ≡ false
and_false true = refl
and_false false = refl

module _ (table : List ℕ) (some : 0 < length table) where
  abbrev last : ℕ
  last = get_or table (length table - 1) 0

  -- a table by its last word
  by_last : is_table table ≡ (table_start (slice_index table 0) == 0 && (list_all is_chunk (neighbours table) && (table_try last == 0 && nat_le (table_start last) u32_max)))
  by_last = ap (λ (n : ℕ). table_start (slice_index table 0) == 0 && (list_all is_chunk (neighbours table) && (table_try n == 0 && nat_le (table_start n) u32_max))) (last_is table None some)

  pub by_chunks : table_start (get_or table 0 0) ≡ 0 → table_try last ≡ 0 → table_start last ≤ u32_max → list_all is_chunk (neighbours table) ≡ is_table table
  by_chunks first none few =
      let chunks = list_all is_chunk (neighbours table) in
      let test : (table_start (slice_index table 0) == 0) ≡ true = eq-eqb (table_start (slice_index table 0)) 0 first in
      let test' : (table_try last == 0) ≡ true = eq-eqb (table_try last) 0 none in
      let test'' : nat_le (table_start last) u32_max ≡ true = le-leb (table_start last) u32_max few in
      sym (by_last ∙ (λ i. test i && (chunks && (test' i && test'' i))) ∙ and_true chunks)
    where
      and_true : (a : Bool) → (a && true) ≡ a
      and_true true = refl
      and_true false = refl

  pub not_first : table_start (get_or table 0 0) ≢ 0 → false ≡ is_table table
  not_first some_cell = sym (by_last ∙ ap (λ (t : Bool). t && (list_all is_chunk (neighbours table) && (table_try last == 0 && nat_le (table_start last) u32_max))) (ne_eqb (table_start (slice_index table 0)) 0 some_cell))

  pub not_none : table_try last ≢ 0 → false ≡ is_table table
  not_none tried =
      let test = ne_eqb (table_try last) 0 tried in
      sym (by_last
      ∙ ap (λ (t : Bool). table_start (slice_index table 0) == 0 && (list_all is_chunk (neighbours table) && (t && nat_le (table_start last) u32_max))) test
      ∙ ap (λ (t : Bool). table_start (slice_index table 0) == 0 && t) (and_false (list_all is_chunk (neighbours table)))
      ∙ and_false (table_start (slice_index table 0) == 0))

  pub not_few : u32_max < table_start last → false ≡ is_table table
  not_few many =
      let test : nat_le (table_start last) u32_max ≡ false = lt-leb (table_start last) u32_max many in
      sym (by_last
      ∙ ap (λ (t : Bool). table_start (slice_index table 0) == 0 && (list_all is_chunk (neighbours table) && (table_try last == 0 && t))) test
      ∙ ap (λ (t : Bool). table_start (slice_index table 0) == 0 && (list_all is_chunk (neighbours table) && t)) (and_false (table_try last == 0))
      ∙ ap (λ (t : Bool). table_start (slice_index table 0) == 0 && t) (and_false (list_all is_chunk (neighbours table)))
      ∙ and_false (table_start (slice_index table 0) == 0))

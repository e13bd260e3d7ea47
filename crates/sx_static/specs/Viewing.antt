-- A function that is read from words: a chunk table, and after it the cells as packed fields.
use Rattle.std.specs.Prelude.{◌≡◌, ℕ, ◌+◌, ◌*◌, ◌<◌, ◌≤◌, ◌^◌, true, List, length, take, drop}
use Rattle.sx_spec.specs.Chunks.{chunk_count}
use Rattle.sx_spec.specs.Fields.{fields, words_for}
use Rattle.sx_spec.specs.Layout.{is_table, table_cells, table_chunks}
use Rattle.sx_spec.specs.StaticFunction.{Function}

-- the chunk table of so many pairs that stands in the words from a place on
abbrev pub table_at : List ℕ → (first pairs : ℕ) → List ℕ
table_at words first pairs = take (chunk_count pairs + 1) (drop first words)

-- a table of that many pairs and its cells of a width stand in the words from a place on
pub record IsViewed (words : List ℕ) (first width pairs : ℕ) : Type 0 where
  pub narrow : width ≤ 64
  pub few : pairs < 2 ^ 32
  pub table : is_table (table_at words first pairs) ≡ true
  pub within : first + chunk_count pairs + 1 + words_for (table_cells (table_at words first pairs) * width) ≤ length words

-- the function whose table and cells these are
abbrev pub viewed : List ℕ → (first width pairs : ℕ) → Function
viewed words first width pairs =
    let table = table_at words first pairs in
    record {
      width = width;
      pairs = pairs;
      chunks = table_chunks table;
      cells = fields width (table_cells table) (drop (first + chunk_count pairs + 1) words);
    }

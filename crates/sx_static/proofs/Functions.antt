-- The chunks that were built are the function, and a chunk for which no try works is the cause.
use Rattle.std.proofs.Common.{◌≡◌, ℕ, zero, suc, ◌+◌, ◌*◌, ◌^◌, ◌<◌, ◌≤◌, List, [], ◌∷◌, ◌++◌, length, map, take, drop, sym, ap, subst, ◌∙◌, arith, zero-add, add-zero}
use Rattle.std.specs.Prelude.{All, flat_map, bit_xor}
use Rattle.std.specs.List.{AllByRecursion, AllZip, range_with_len}
use Rattle.std.proofs.lemmas.List.{take_all, drop_at, drop-drop, get_or_append_left}
use Rattle.std.proofs.lemmas.List.Elements.{recursion_from_All}
use Rattle.sx_spec_strings.proofs.Lists.{along_range, zip_second}
use Rattle.sx_spec.specs.declared.Edge.{Edge}
use Rattle.sx_spec.specs.declared.Equation.{Equation}
use Rattle.sx_spec.specs.declared.Method.{Method}
use Rattle.sx_spec.specs.declared.Signature.{Signature}
use Rattle.sx_spec.specs.Chunks.{chunk_bits, chunk_count, segment}
use Rattle.sx_spec.specs.Layout.{table_words, table_chunks}
use Rattle.sx_spec.specs.StaticFunction.{Entry, Chunk, Function, signatures, AllDiffer, IsWitness, IsStuck, IsBuiltChunk, IsBuiltFunction, SomeTryWorks, cell_count, cells_from, equations}
use Rattle.sx_spec.specs.Systems.{chosen, Solves, cells_at, unknowns}
use Rattle.sx_spec.proofs.Sections.{cell_count-cons, chunks_again}
use Rattle.sx_solve.specs.Solving.{IsEquationWithin}
use Rattle.sx_sig.specs.Grouping.{chunk_numbers}
use Rattle.sx_static.specs.Answer.{entries_of, witness_numbers, IsWitnessOf, IsDone}
use Rattle.sx_static.specs.Chunks.{Found, IsFound, AreFound, chunks_of, starts_from}
use Rattle.sx_static.specs.Tries.{IsFailure}
use Rattle.sx_static.specs.declared.FuncBuf.{FuncBuf}
use Rattle.sx_static.specs.declared.Witness.{Witness}
use Rattle.sx_static.proofs.Entries.{signatures_of_entries, length_of_entries}
use Rattle.sx_static.proofs.Solutions.{zip_mapped}
use Rattle.sx_static.proofs.Wholes.{failed}

-- ---- the table

words_whole : (start : ℕ) (cs : List Chunk) → table_words start cs ≡ starts_from start cs ++ (start + cell_count cs) ∷ []
words_whole start [] = ap (λ n. n ∷ []) (sym (add-zero start))
words_whole start (c ∷ cs) =
    let split = cell_count-cons c cs in
    let e : start + 3 * c.segment + cell_count cs ≡ start + cell_count (c ∷ cs) = omega arith in
    ap (λ ws. (start + c.try * 2 ^ 58) ∷ ws) (words_whole (start + 3 * c.segment) cs ∙ ap (λ n. starts_from (start + 3 * c.segment) cs ++ n ∷ []) e)

-- ---- the cells

-- cells that solve equations do so with more cells behind them
same_cells : (cells more : List ℕ) (e : Edge) → e.a < length cells → e.b < length cells → e.c < length cells → cells_at (cells ++ more) e ≡ cells_at cells e
same_cells cells more e in_a in_b in_c =
    let a = get_or_append_left cells more 0 e.a in_a in
    let b = get_or_append_left cells more 0 e.b in_b in
    let c = get_or_append_left cells more 0 e.c in_c in
    λ i. bit_xor (bit_xor (a i) (b i)) (c i)

solves_more : (cells more : List ℕ) (bound : ℕ) (qs : List Equation) → length cells ≡ bound → AllByRecursion (IsEquationWithin bound) qs → Solves cells qs → Solves (cells ++ more) qs
solves_more cells more bound [] size within solves = tt
solves_more cells more bound (q ∷ qs) size within solves =
    let in_a = within.0.a in
    let in_b = within.0.b in
    let in_c = within.0.c in
    (same_cells cells more (unknowns q) (omega arith) (omega arith) (omega arith) ∙ solves.0, solves_more cells more bound qs size within.1 solves.1)

module _ (method : Method) (entries : List Entry) (f : Function) where
  built_from : (a n start : ℕ) (found : List Found) → AllZip (IsFound method entries) (range_with_len a n) found
      → ((k : ℕ) → cell_count (take (a + k) f.chunks) ≡ start + cell_count (take k (chunks_of found)))
      → drop start f.cells ≡ flat_map (λ g. g.cells) found
      → AllZip (IsBuiltChunk method entries f) (range_with_len a n) (chunks_of found)
  built_from a zero start [] all counts rest = tt
  built_from a zero start (g ∷ found) all counts rest = absurd all
  built_from a (suc n) start [] all counts rest = absurd all
  built_from a (suc n) start (g ∷ found) all counts rest =
      let begins : cell_count (take a f.chunks) ≡ start = ap (λ k. cell_count (take k f.chunks)) (sym (add-zero a)) ∙ counts 0 ∙ add-zero start in
      let here : cells_from f a ≡ g.cells ++ flat_map (λ (h : Found). h.cells) found = ap (λ k. drop k f.cells) begins ∙ rest in
      let own = all.0 in (
        record {
          segment = own.segment;
          try = own.try;
          cells = subst (λ xs. Solves xs (equations method entries a g.chunk.try)) (sym here)
              (solves_more g.cells (flat_map (λ (h : Found). h.cells) found) (3 * g.chunk.segment) (equations method entries a g.chunk.try) own.count own.within own.solves);
        },
        built_from (a + 1) n (start + 3 * g.chunk.segment) found all.1
            (λ k.
            let e : (a + 1) + k ≡ a + suc k = omega arith in
            let split = cell_count-cons g.chunk (take k (chunks_of found)) in
            let sum : start + cell_count (take (suc k) (chunks_of (g ∷ found))) ≡ start + 3 * g.chunk.segment + cell_count (take k (chunks_of found)) = omega (arith, split) in
            ap (λ m. cell_count (take m f.chunks)) e ∙ counts (suc k) ∙ sum)
            (sym (drop-drop (3 * g.chunk.segment) start f.cells)
            ∙ ap (drop (3 * g.chunk.segment)) rest
            ∙ drop_at g.cells (flat_map (λ (h : Found). h.cells) found) (3 * g.chunk.segment) own.count),
      )

-- ---- the whole function

module _ (method : Method) (width : ℕ) (sigs : List Signature) (values : List ℕ) (same : length values ≡ length sigs) (differ : AllDiffer sigs) where
  entries : List Entry
  entries = entries_of sigs values

  entries_differ : AllDiffer (signatures (entries_of sigs values))
  entries_differ = subst AllDiffer (sym (signatures_of_entries sigs values same)) differ

  many_chunks : 2 ^ chunk_bits (length sigs) ≡ chunk_count (length (entries_of sigs values))
  many_chunks = ap (λ n. 2 ^ chunk_bits n) (sym (length_of_entries sigs values same))

  module _ (f : FuncBuf) (first : ℕ) (words : List ℕ) (are : AreFound method (entries_of sigs values) (2 ^ chunk_bits (length sigs)) first words f.cells.items) where
    chunks : List Chunk
    chunks = chunks_of are.found

    built : f.width ≡ width → f.pairs ≡ length sigs → length f.cells.items ≡ first
        → IsBuiltFunction method width (entries_of sigs values) (record { width = f.width; pairs = f.pairs; chunks = chunks_of are.found; cells = f.cells.items })
    built width_is pairs_are many =
        let g : Function = record { width = f.width; pairs = f.pairs; chunks = chunks_of are.found; cells = f.cells.items } in
        let row : drop 0 f.cells.items ≡ flat_map (λ (h : Found). h.cells) are.found = sym (take_all first f.cells.items (omega arith)) ∙ are.cells in
        let each : AllZip (IsBuiltChunk method (entries_of sigs values) g) (range_with_len 0 (2 ^ chunk_bits (length sigs))) (chunks_of are.found) =
        built_from method (entries_of sigs values) g 0 (2 ^ chunk_bits (length sigs)) 0 are.found are.each
        (λ k. ap (λ m. cell_count (take m (chunks_of are.found))) (zero-add k) ∙ sym (zero-add (cell_count (take k (chunks_of are.found))))) row in
        record {
          differ = entries_differ;
          width = width_is;
          pairs = pairs_are ∙ sym (length_of_entries sigs values same);
          chunks = subst (λ n. AllZip (IsBuiltChunk method (entries_of sigs values) g) (range_with_len 0 n) (chunks_of are.found)) many_chunks each;
          cells = many ∙ are.start;
        }

    pub done : f.width ≡ width → f.pairs ≡ length sigs → f.table.items ≡ words ++ first ∷ [] → f.cells.width ≡ width → length f.cells.items ≡ first → first ≤ 2 ^ 32 → All (λ v. v < 2 ^ width) f.cells.items
        → IsDone method 64 width (entries_of sigs values) f
    done width_is pairs_are table_is cell_width many short fit =
        let cs = chunks_of are.found in
        let start = are.start in
        let last : first ≡ 0 + cell_count cs = omega arith in
        let table : f.table.items ≡ table_words 0 cs = table_is ∙ ap (λ ws. ws ++ first ∷ []) are.table ∙ ap (λ n. starts_from 0 cs ++ n ∷ []) last ∙ sym (words_whole 0 cs) in
        let again : table_chunks f.table.items ≡ cs = ap table_chunks table ∙ chunks_again 0 cs (omega arith) in
        let tried : AllByRecursion (λ c. c.try < 64) cs = all_tried (2 ^ chunk_bits (length sigs)) are.found are.each in
        record {
          built = subst (λ ds. IsBuiltFunction method width (entries_of sigs values) (record { width = f.width; pairs = f.pairs; chunks = ds; cells = f.cells.items })) (sym again) (built width_is pairs_are many);
          tried = subst (AllByRecursion (λ (c : Chunk). c.try < 64)) (sym again) tried;
          table = table ∙ ap (table_words 0) (sym again);
          cell_width = cell_width;
          cells = recursion_from_All (λ v. v < 2 ^ width) f.cells.items fit;
        }
      where
        mapped : (found : List Found) → AllByRecursion (λ g. g.chunk.try < 64) found → AllByRecursion (λ c. c.try < 64) (chunks_of found)
        mapped [] all = tt
        mapped (g ∷ found) all = (all.0, mapped found all.1)

        all_tried : (n : ℕ) (found : List Found) → AllZip (IsFound method (entries_of sigs values)) (range_with_len 0 n) found → AllByRecursion (λ c. c.try < 64) (chunks_of found)
        all_tried n found each = mapped found (zip_second (IsFound method (entries_of sigs values)) (λ g. g.chunk.try < 64) (range_with_len 0 n) found (λ j g is. is.small) each)

  -- ---- no try works

  module _ (j first : ℕ) (words row : List ℕ) (before : AreFound method (entries_of sigs values) j first words row) (inside : j < 2 ^ chunk_bits (length sigs)) (numbers : List ℕ) (are : numbers ≡ chunk_numbers (chunk_bits (length sigs)) sigs j) where
    pub stuck : (witnesses : List Witness) → AllZip (IsFailure method (segment method (length numbers)) (chosen sigs numbers) (chosen values numbers) numbers) (range_with_len 0 64) witnesses
        → IsStuck method 64 (entries_of sigs values) j (map witness_numbers witnesses) × AllByRecursion (IsWitnessOf method) witnesses
    stuck witnesses fail =
        let Fails = IsFailure method (segment method (length numbers)) (chosen sigs numbers) (chosen values numbers) numbers in (
          record {
            differ = entries_differ;
            within = subst (λ n. j < n) many_chunks inside;
            first = λ i h.
                let (g, is) = along_range (IsFound method (entries_of sigs values)) 0 j before.found before.each i h in
                subst (SomeTryWorks method 64 (entries_of sigs values)) (zero-add i) (g.chunk.try, is.small, is.try.works);
            each_try = zip_mapped Fails (λ t ns. IsWitness method (entries_of sigs values) j t ns) witness_numbers (range_with_len 0 64) witnesses (failed method sigs values same j numbers are) fail;
          },
          zip_second Fails (IsWitnessOf method) (range_with_len 0 64) witnesses (λ t w failure. failure.kind) fail,
        )

-- A function of some bits of each value: cells whose xor is a value have bits whose xor are the bits of the value.
use Rattle.std.proofs.Common.{◌≡◌, ℕ, zero, suc, ◌+◌, ◌/◌, ◌%◌, ◌<◌, ◌≤◌, ◌^◌, Bool, true, false, cond, List, [], ◌∷◌, length, map, take, drop, refl, sym, ap, subst, ◌∙◌, arith}
use Rattle.std.specs.Prelude.{◌==◌, bit_xor, filter, slice_index, sum_by}
use Rattle.std.specs.List.{AllByRecursion, AllZip, range_with_len}
use Rattle.std.proofs.lemmas.List.{length-map}
use Rattle.std.proofs.lemmas.List.Sums.{sum_by-cons}
use Rattle.std.proofs.lemmas.Nat.{xor_mod, xor_shr}
use Rattle.std.proofs.Math.Nat.{mod-lt, zero-div, mod-eq_of_lt}
use Rattle.std.proofs.Math.Pow.{pow_pos}
use Rattle.sx_spec.specs.declared.Edge.{Edge}
use Rattle.sx_spec.specs.declared.Equation.{Equation}
use Rattle.sx_spec.specs.declared.Method.TheVariants.{Mwhc}
use Rattle.sx_spec.specs.declared.Signature.{Signature}
use Rattle.sx_spec.specs.Chunks.{chunk_bits, chunk_count, chunk_of, segment}
use Rattle.sx_spec.specs.Layout.{table_chunks, table_words}
use Rattle.sx_spec.specs.StaticFunction.{Cause, Chunk, Entry, Function, IsBuiltChunk, IsBuiltFunction, IsCause, IsLeastTry, IsWitness, SomeTryWorks, TryWorks, AllDiffer, cell_count, cells_from, chunk_entries, chunk_of_entry, chunk_segment, entry_equation, equations, signatures, stuck, twins}
use Rattle.sx_spec.specs.Systems.{cells_at, chosen, equation, unknowns, HasNoLeaf, IsIndexSet, IsPeelable, Solves}
use Rattle.sx_spec.proofs.Witnesses.{chosen-map}
use Rattle.sx_spec.proofs.Sections.{cell_count-cons}
use Rattle.sx_sig.specs.Grouping.{chunk_numbers}
use Rattle.sx_static.specs.Answer.{IsDone, entries_of, function_of}
use Rattle.sx_static.specs.Both.{IsPartOf, bits_from, part_entries}
use Rattle.sx_static.specs.Chunks.{cells_needed}
use Rattle.sx_static.specs.declared.FuncBuf.{FuncBuf}
use Rattle.sx_static.proofs.Counting.{cells_short, lists_hold, sum_by_mapped}
use Rattle.sx_static.proofs.Entries.{length_of_entries}
use Rattle.sx_static.proofs.Wholes.{as_many as as_many_numbers}

-- facts of two lists lead to others
zip_along : {A X : Type 0} (R S : A → X → Type 0) (ns : List A) (xs : List X) → ((n : A) (x : X) → R n x → S n x) → AllZip R ns xs → AllZip S ns xs
zip_along R S [] [] leads all = tt
zip_along R S [] (x ∷ xs) leads all = absurd all
zip_along R S (n ∷ ns) [] leads all = absurd all
zip_along R S (n ∷ ns) (x ∷ xs) leads all = (leads n x all.0, zip_along R S ns xs leads all.1)

-- ---- entries with other values

module _ (g : ℕ → ℕ) where
  -- an entry with another value
  abbrev pub turned : Entry → Entry
  turned e = (e.0, g e.1)

  abbrev pub with_value : Equation → Equation
  with_value q = equation (unknowns q) (g q.value)

  pub entries_turned : (sigs : List Signature) (values : List ℕ) → entries_of sigs (map g values) ≡ map turned (entries_of sigs values)
  entries_turned [] values = refl
  entries_turned (sig ∷ sigs) [] = refl
  entries_turned (sig ∷ sigs) (v ∷ values) = ap (λ es. turned (sig, v) ∷ es) (entries_turned sigs values)

  same_signatures : (entries : List Entry) → signatures (map turned entries) ≡ signatures entries
  same_signatures [] = refl
  same_signatures (e ∷ entries) = ap (λ sigs. e.0 ∷ sigs) (same_signatures entries)

  filter_turned : (p : Entry → Bool) (q : Entry → Bool) → ((e : Entry) → p (turned e) ≡ q e) → (entries : List Entry) → filter p (map turned entries) ≡ map turned (filter q entries)
  filter_turned p q same [] = refl
  filter_turned p q same (e ∷ entries) =
      ap (λ b. cond b (turned e ∷ filter p (map turned entries)) (filter p (map turned entries))) (same e)
      ∙ ap (λ es. cond (q e) (turned e ∷ es) es) (filter_turned p q same entries)
      ∙ each (q e) e (filter q entries)
    where
      each : (b : Bool) (e : Entry) (es : List Entry) → cond b (turned e ∷ map turned es) (map turned es) ≡ map turned (cond b (e ∷ es) es)
      each true e es = refl
      each false e es = refl

  module _ (entries : List Entry) where
    as_many : length (map turned entries) ≡ length entries
    as_many = length-map entries turned

    chunk_turned : (j : ℕ) → chunk_entries (map turned entries) j ≡ map turned (chunk_entries entries j)
    chunk_turned j =
        filter_turned (λ e. chunk_of_entry (length (map turned entries)) e == j) (λ e. chunk_of_entry (length entries) e == j)
        (λ e. ap (λ n. chunk_of e.0 (chunk_bits n) == j) as_many) entries

    segment_same : (j : ℕ) → chunk_segment Mwhc (map turned entries) j ≡ chunk_segment Mwhc entries j
    segment_same j = ap (λ es. segment Mwhc (length es)) (chunk_turned j) ∙ ap (segment Mwhc) (length-map (chunk_entries entries j) turned)

    equations_turned : (j t : ℕ) → equations Mwhc (map turned entries) j t ≡ map with_value (equations Mwhc entries j t)
    equations_turned j t =
        let s = chunk_segment Mwhc entries j in
        ap (λ k. map (entry_equation t k) (chunk_entries (map turned entries) j)) (segment_same j)
        ∙ ap (map (entry_equation t s)) (chunk_turned j)
        ∙ each t s (chunk_entries entries j)
      where
        each : (t s : ℕ) (es : List Entry) → map (entry_equation t s) (map turned es) ≡ map with_value (map (entry_equation t s) es)
        each t s [] = refl
        each t s (e ∷ es) = ap (λ qs. entry_equation t s (turned e) ∷ qs) (each t s es)

    same_unknowns : (qs : List Equation) → map unknowns (map with_value qs) ≡ map unknowns qs
    same_unknowns [] = refl
    same_unknowns (q ∷ qs) = ap (λ es. unknowns q ∷ es) (same_unknowns qs)

    edges_same : (j t : ℕ) → map unknowns (equations Mwhc (map turned entries) j t) ≡ map unknowns (equations Mwhc entries j t)
    edges_same j t = ap (map unknowns) (equations_turned j t) ∙ same_unknowns (equations Mwhc entries j t)

    -- a try works by the edges alone
    try_turned : (j t : ℕ) → TryWorks Mwhc entries j t → TryWorks Mwhc (map turned entries) j t
    try_turned j t works = subst IsPeelable (sym (edges_same j t)) works

    try_back : (j t : ℕ) → TryWorks Mwhc (map turned entries) j t → TryWorks Mwhc entries j t
    try_back j t works = subst IsPeelable (edges_same j t) works

    least_turned : (j t : ℕ) → IsLeastTry Mwhc entries j t → IsLeastTry Mwhc (map turned entries) j t
    least_turned j t least = record {
      works = try_turned j t least.works;
      least = λ k before works. least.least k before (try_back j k works);
    }

    some_turned : (tries j : ℕ) → SomeTryWorks Mwhc tries entries j → SomeTryWorks Mwhc tries (map turned entries) j
    some_turned tries j (t, small, works) = (t, small, try_turned j t works)

    -- ---- causes

    witness_turned : (j t : ℕ) (numbers : List ℕ) → IsWitness Mwhc entries j t numbers → IsWitness Mwhc (map turned entries) j t numbers
    witness_turned j t numbers witness =
        let named : chosen (map turned entries) numbers ≡ map turned (chosen entries numbers) = chosen-map turned entries numbers in
        let s = chunk_segment Mwhc entries j in
        record {
          set = subst (λ n. IsIndexSet n numbers) (sym as_many) witness.set;
          inside = subst (AllByRecursion (λ e. chunk_of_entry (length (map turned entries)) e ≡ j)) (sym named) (all_inside (chosen entries numbers) witness.inside);
          fails = subst HasNoLeaf (sym (ap (λ k. map unknowns (map (entry_equation t k) (chosen (map turned entries) numbers))) (segment_same j) ∙ ap (λ es. map unknowns (map (entry_equation t s) es)) named ∙ edges t s (chosen entries numbers))) witness.fails;
        }
      where
        all_inside : (es : List Entry) → AllByRecursion (λ e. chunk_of_entry (length entries) e ≡ j) es → AllByRecursion (λ e. chunk_of_entry (length (map turned entries)) e ≡ j) (map turned es)
        all_inside [] all = tt
        all_inside (e ∷ es) all = (ap (λ n. chunk_of e.0 (chunk_bits n)) as_many ∙ all.0, all_inside es all.1)

        edges : (t s : ℕ) (es : List Entry) → map unknowns (map (entry_equation t s) (map turned es)) ≡ map unknowns (map (entry_equation t s) es)
        edges t s [] = refl
        edges t s (e ∷ es) = ap (λ ys. unknowns (entry_equation t s e) ∷ ys) (edges t s es)

    pub cause_turned : (tries : ℕ) (cause : Cause) → IsCause Mwhc tries entries cause → IsCause Mwhc tries (map turned entries) cause
    cause_turned tries (twins first second) are = rw (same_signatures entries) are
    cause_turned tries (stuck j witnesses) is = record {
      differ = subst AllDiffer (sym (same_signatures entries)) is.differ;
      within = subst (λ n. j < chunk_count n) (sym as_many) is.within;
      first = λ i before. some_turned tries i (is.first i before);
      each_try = zip_along (λ t numbers. IsWitness Mwhc entries j t numbers) (λ t numbers. IsWitness Mwhc (map turned entries) j t numbers) (range_with_len 0 tries) witnesses (witness_turned j) is.each_try;
    }

  -- ---- cells

  module _ (none : g 0 ≡ 0) (apart : (a b : ℕ) → g (bit_xor a b) ≡ bit_xor (g a) (g b)) where
    cell_turned : (cells : List ℕ) (i : ℕ) → slice_index (map g cells) i ≡ g (slice_index cells i)
    cell_turned [] i = sym none
    cell_turned (x ∷ cells) zero = refl
    cell_turned (x ∷ cells) (suc i) = cell_turned cells i

    xor_turned : (cells : List ℕ) (e : Edge) → cells_at (map g cells) e ≡ g (cells_at cells e)
    xor_turned cells e =
        let a = cell_turned cells e.a in
        let b = cell_turned cells e.b in
        let c = cell_turned cells e.c in
        (λ i. bit_xor (bit_xor (a i) (b i)) (c i))
        ∙ sym (apart (bit_xor (slice_index cells e.a) (slice_index cells e.b)) (slice_index cells e.c)
        ∙ ap (λ x. bit_xor x (g (slice_index cells e.c))) (apart (slice_index cells e.a) (slice_index cells e.b)))

    solves_turned : (cells : List ℕ) (qs : List Equation) → Solves cells qs → Solves (map g cells) (map with_value qs)
    solves_turned cells [] solves = tt
    solves_turned cells (q ∷ qs) solves = (xor_turned cells (unknowns q) ∙ ap g solves.0, solves_turned cells qs solves.1)

    drop_turned : (n : ℕ) (cells : List ℕ) → drop n (map g cells) ≡ map g (drop n cells)
    drop_turned zero cells = refl
    drop_turned (suc n) [] = refl
    drop_turned (suc n) (x ∷ cells) = drop_turned n cells

    below_turned : (bound : ℕ) → ((v : ℕ) → g v < bound) → (cells : List ℕ) → AllByRecursion (λ v. v < bound) (map g cells)
    below_turned bound below [] = tt
    below_turned bound below (x ∷ cells) = (below x, below_turned bound below cells)

    module _ (entries : List Entry) (whole part : Function) (chunks : part.chunks ≡ whole.chunks) (cells : part.cells ≡ map g whole.cells) where
      chunk_built : (j : ℕ) (chunk : Chunk) → IsBuiltChunk Mwhc entries whole j chunk → IsBuiltChunk Mwhc (map turned entries) part j chunk
      chunk_built j chunk is =
          let here : cells_from part j ≡ map g (cells_from whole j) =
          ap (λ cs. drop (cell_count (take j cs)) part.cells) chunks ∙ ap (drop (cell_count (take j whole.chunks))) cells ∙ drop_turned (cell_count (take j whole.chunks)) whole.cells in
          record {
            segment = is.segment ∙ sym (segment_same entries j);
            try = least_turned entries j chunk.try is.try;
            cells = subst (λ xs. Solves xs (equations Mwhc (map turned entries) j chunk.try)) (sym here)
                (subst (Solves (map g (cells_from whole j))) (sym (equations_turned entries j chunk.try)) (solves_turned (cells_from whole j) (equations Mwhc entries j chunk.try) is.cells));
          }

      function_built : (width part_width : ℕ) → part.width ≡ part_width → part.pairs ≡ whole.pairs → IsBuiltFunction Mwhc width entries whole → IsBuiltFunction Mwhc part_width (map turned entries) part
      function_built width part_width width_is pairs_are is = record {
        differ = subst AllDiffer (sym (same_signatures entries)) is.differ;
        width = width_is;
        pairs = pairs_are ∙ is.pairs ∙ sym (as_many entries);
        chunks = subst (λ n. AllZip (IsBuiltChunk Mwhc (map turned entries) part) (range_with_len 0 (chunk_count n)) part.chunks) (sym (as_many entries))
            (subst (AllZip (IsBuiltChunk Mwhc (map turned entries) part) (range_with_len 0 (chunk_count (length entries)))) (sym chunks)
            (zip_along (IsBuiltChunk Mwhc entries whole) (IsBuiltChunk Mwhc (map turned entries) part) (range_with_len 0 (chunk_count (length entries))) whole.chunks chunk_built is.chunks));
        cells = ap length cells ∙ length-map whole.cells g ∙ is.cells ∙ ap cell_count (sym chunks);
      }

-- ---- so many bits from a bit on

bits_none : (shift many : ℕ) → bits_from shift many 0 ≡ 0
bits_none shift many = ap (λ n. n % 2 ^ many) (zero-div (2 ^ shift)) ∙ mod-eq_of_lt (pow_pos many)

bits_apart : (shift many a b : ℕ) → bits_from shift many (bit_xor a b) ≡ bit_xor (bits_from shift many a) (bits_from shift many b)
bits_apart shift many a b = ap (λ n. n % 2 ^ many) (xor_shr a b shift) ∙ xor_mod (a / 2 ^ shift) (b / 2 ^ shift) many

module _ (shift many tries width : ℕ) (sigs : List Signature) (values : List ℕ) where
  abbrev g : ℕ → ℕ
  g = bits_from shift many

  as_turned : part_entries shift many sigs values ≡ map (turned g) (entries_of sigs values)
  as_turned = entries_turned g sigs values

  pub part_done : (whole part : FuncBuf) → IsDone Mwhc tries width (entries_of sigs values) whole → IsPartOf shift many whole part → IsDone Mwhc tries many (part_entries shift many sigs values) part
  part_done whole part done is =
      let chunks : table_chunks part.table.items ≡ table_chunks whole.table.items = ap table_chunks is.table in
      let below : (v : ℕ) → g v < 2 ^ many = λ v. mod-lt (v / 2 ^ shift) (pow_pos many) in
      let built : IsBuiltFunction Mwhc many (map (turned g) (entries_of sigs values)) (function_of part) =
      function_built g (bits_none shift many) (bits_apart shift many) (entries_of sigs values) (function_of whole) (function_of part) chunks is.cells width many is.width is.pairs done.built in
      record {
        built = subst (λ es. IsBuiltFunction Mwhc many es (function_of part)) (sym as_turned) built;
        tried = subst (AllByRecursion (λ (c : Chunk). c.try < tries)) (sym chunks) done.tried;
        table = is.table ∙ done.table ∙ ap (table_words 0) (sym chunks);
        cell_width = is.cell_width;
        cells = subst (AllByRecursion (λ v. v < 2 ^ many)) (sym is.cells) (below_turned g (bits_none shift many) (bits_apart shift many) (2 ^ many) below whole.cells.items);
      }

  pub cause_part : (cause : Cause) → IsCause Mwhc tries (entries_of sigs values) cause → IsCause Mwhc tries (part_entries shift many sigs values) cause
  cause_part cause is = subst (λ es. IsCause Mwhc tries es cause) (sym as_turned) (cause_turned g (entries_of sigs values) tries cause is)

-- ---- how many cells

module _ (tries width : ℕ) (sigs : List Signature) (values : List ℕ) (same : length values ≡ length sigs) (few : length sigs ≤ 2 ^ 27) where
  cells_along : (f : Function) (a n : ℕ) (cs : List Chunk) → AllZip (IsBuiltChunk Mwhc (entries_of sigs values) f) (range_with_len a n) cs
      → cell_count cs ≡ sum_by (λ j. cells_needed Mwhc (chunk_numbers (chunk_bits (length sigs)) sigs j)) (range_with_len a n)
  cells_along f a zero [] all = refl
  cells_along f a zero (c ∷ cs) all = absurd all
  cells_along f a (suc n) [] all = absurd all
  cells_along f a (suc n) (c ∷ cs) all =
      let numbers = chunk_numbers (chunk_bits (length sigs)) sigs a in
      let split = cell_count-cons c cs in
      let sums = sum_by-cons (λ j. cells_needed Mwhc (chunk_numbers (chunk_bits (length sigs)) sigs j)) a (range_with_len (a + 1) n) in
      let rest = cells_along f (a + 1) n cs all.1 in
      let here : c.segment ≡ segment Mwhc (length numbers) = all.0.segment ∙ ap (segment Mwhc) (sym (as_many_numbers Mwhc sigs values same a numbers refl)) in
      omega arith

  pub cells_few : (whole : FuncBuf) → IsDone Mwhc tries width (entries_of sigs values) whole → length whole.cells.items ≤ 2 ^ 32
  cells_few whole done =
      let bits = chunk_bits (length sigs) in
      let lists = map (chunk_numbers bits sigs) (range_with_len 0 (2 ^ bits)) in
      let f = function_of whole in
      let many : chunk_count (length (entries_of sigs values)) ≡ 2 ^ bits = ap (λ n. 2 ^ chunk_bits n) (length_of_entries sigs values same) in
      let each : AllZip (IsBuiltChunk Mwhc (entries_of sigs values) f) (range_with_len 0 (2 ^ bits)) f.chunks = subst (λ n. AllZip (IsBuiltChunk Mwhc (entries_of sigs values) f) (range_with_len 0 n) f.chunks) many done.built.chunks in
      let along = cells_along f 0 (2 ^ bits) f.chunks each in
      let mapped = sum_by_mapped (cells_needed Mwhc) (chunk_numbers bits sigs) (range_with_len 0 (2 ^ bits)) in
      let short = cells_short Mwhc lists (lists_hold sigs few) in
      let count = done.built.cells in
      omega arith

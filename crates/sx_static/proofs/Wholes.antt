-- Chunks that were built one after another are the function; and a chunk that can't be built is the cause.
use Rattle.std.proofs.Common.{◌≡◌, ℕ, ◌+◌, ◌*◌, ◌^◌, ◌<◌, List, [], ◌∷◌, ◌++◌, length, map, take, sym, ap, subst, ◌∙◌, arith, zero-add, true, get_or, Vec, Global}
use Rattle.std.specs.Prelude.{◌==◌, All, AllPairs, slice_index, flat_map}
use Rattle.std.specs.List.{AllByRecursion, range_with_len}
use Rattle.std.proofs.lemmas.Bool.Decides.{Decides-eqb}
use Rattle.std.proofs.lemmas.List.{map_push, append-nil, length-map}
use Rattle.std.proofs.lemmas.List.Concat.{flat_map-append}
use Rattle.std.proofs.lemmas.List.Elements.{filter_passes, recursion_from_All, All-from_recursion}
use Rattle.std.proofs.lemmas.List.FromFn.{length-map-range_with_len, get_or-map-range_with_len}
use Rattle.std.proofs.lemmas.List.Sums.{sum_by_push}
use Rattle.sx_spec.specs.declared.Equation.{Equation}
use Rattle.sx_spec.specs.declared.Method.{Method}
use Rattle.sx_spec.specs.declared.Signature.{Signature}
use Rattle.sx_spec.specs.Chunks.{chunk_bits, segment}
use Rattle.sx_spec.specs.StaticFunction.{Entry, Chunk, chunk_of_entry, chunk_entries, chunk_segment, entry_equation, equations, CanBeBuilt, CannotBeBuilt, IsWitness, cell_count}
use Rattle.sx_spec.specs.Systems.{chosen, IsIndexSet, Solves}
use Rattle.sx_spec.proofs.Counts.{chosen_all, all_at}
use Rattle.sx_spec.proofs.Witnesses.{chosen-map}
use Rattle.sx_spec.proofs.Sections.{cell_count-cons}
use Rattle.sx_solve.specs.Solving.{IsEquationWithin}
use Rattle.sx_sig.specs.Grouping.{chunk_numbers}
use Rattle.sx_static.specs.Answer.{entries_of, witness_numbers}
use Rattle.sx_static.specs.Chunks.{Found, IsFound, AreFound, chunks_of, starts_from}
use Rattle.sx_static.specs.Tries.{try_equations, AreCells, IsFailure}
use Rattle.sx_static.specs.declared.Witness.{Witness}
use Rattle.sx_static.proofs.Counting.{lists_of, list_at}
use Rattle.sx_static.proofs.Entries.{length_of_entries}
use Rattle.sx_static.proofs.Numbers.{numbers_within, numbers_rise, chosen_chunk, chosen_entries, length_chosen, chosen_of_numbers, set_of_numbers}
use Rattle.sx_static.proofs.Solutions.{range_push}

-- ---- one chunk

-- there is a list for each chunk
pub many_lists : (chunks : List (Vec ℕ Global)) (sigs : List Signature) → lists_of chunks ≡ map (chunk_numbers (chunk_bits (length sigs)) sigs) (range_with_len 0 (2 ^ chunk_bits (length sigs)))
    → length chunks ≡ 2 ^ chunk_bits (length sigs)
many_lists chunks sigs are =
    let bits = chunk_bits (length sigs) in
    sym (length-map chunks (λ (v : Vec ℕ Global). v.items)) ∙ ap length are ∙ length-map-range_with_len (chunk_numbers bits sigs) 0 (2 ^ bits)

-- the list at a chunk's place has its numbers
pub numbers_at : (chunks : List (Vec ℕ Global)) (sigs : List Signature) (j : ℕ) (v : Vec ℕ Global) → lists_of chunks ≡ map (chunk_numbers (chunk_bits (length sigs)) sigs) (range_with_len 0 (2 ^ chunk_bits (length sigs)))
    → j < length chunks → v ≡ get_or chunks j v → v.items ≡ chunk_numbers (chunk_bits (length sigs)) sigs j
numbers_at chunks sigs j v are inside is =
    let bits = chunk_bits (length sigs) in
    let many = many_lists chunks sigs are in
    list_at chunks j v inside is
    ∙ ap (λ ls. get_or ls j []) are
    ∙ get_or-map-range_with_len (chunk_numbers bits sigs) 0 (2 ^ bits) j j [] (omega arith) (zero-add j)

cannot_be_built : (method : Method) (xs ys : List Equation) → xs ≡ ys → CannotBeBuilt method xs → CannotBeBuilt method ys
cannot_be_built method xs ys same cannot = subst (CannotBeBuilt method) same cannot

module _ (method : Method) (sigs : List Signature) (values : List ℕ) (same : length values ≡ length sigs) (j : ℕ) (numbers : List ℕ) (are : numbers ≡ chunk_numbers (chunk_bits (length sigs)) sigs j) where
  abbrev entries : List Entry
  entries = entries_of sigs values

  abbrev s : ℕ
  s = segment method (length numbers)

  pub within : AllByRecursion (λ i. i < length sigs) numbers
  within = subst (AllByRecursion (λ i. i < length sigs)) (sym are) (numbers_within sigs values same j)

  within_entries : AllByRecursion (λ i. i < length entries) numbers
  within_entries = subst (λ n. AllByRecursion (λ i. i < n) numbers) (sym (length_of_entries sigs values same)) within

  rises : AllPairs (λ x y. x < y) numbers
  rises = subst (AllPairs (λ x y. x < y)) (sym are) (numbers_rise sigs values same j)

  -- their numbers choose the entries of the chunk
  chunk_chosen : chosen entries numbers ≡ chunk_entries entries j
  chunk_chosen = ap (chosen entries) are ∙ chosen_chunk sigs values same j

  own : entries_of (chosen sigs numbers) (chosen values numbers) ≡ chunk_entries entries j
  own = chosen_entries sigs values numbers same ∙ chunk_chosen

  pub as_many : length numbers ≡ length (chunk_entries entries j)
  as_many = sym (length_chosen entries numbers within_entries) ∙ ap length chunk_chosen

  segment_is : s ≡ chunk_segment method entries j
  segment_is = ap (segment method) as_many

  pub equations_are : (t : ℕ) → try_equations s t (chosen sigs numbers) (chosen values numbers) ≡ equations method entries j t
  equations_are t =
      ap (map (entry_equation t s)) own
      ∙ ap (λ k. map (entry_equation t k) (chunk_entries entries j)) segment_is

  -- the least try that works
  pub found_chunk : (number : ℕ) (cells : List ℕ) → number < 64 → AreCells method s number (chosen sigs numbers) (chosen values numbers) cells
      → ((t : ℕ) → t < number → ¬ CanBeBuilt method (try_equations s t (chosen sigs numbers) (chosen values numbers)))
      → IsFound method entries j (record { chunk = record { segment = s; try = number }; cells = cells })
  found_chunk number cells small works none = record {
    segment = segment_is;
    small = small;
    try = record {
      works = subst (CanBeBuilt method) (equations_are number) works.works;
      least = λ t before built. none t before (subst (CanBeBuilt method) (sym (equations_are t)) built);
    };
    count = works.count;
    within = subst (AllByRecursion (IsEquationWithin (3 * s))) (equations_are number) works.within;
    solves = subst (Solves cells) (equations_are number) works.solves;
  }

  -- the entries that a witness names
  named_entries : (places : List ℕ) → AllByRecursion (λ k. k < length numbers) places → chosen entries (map (slice_index numbers) places) ≡ chosen (chunk_entries entries j) places
  named_entries places inside = chosen_of_numbers entries numbers places within_entries inside ∙ ap (λ xs. chosen xs places) chunk_chosen

  in_chunk : (e : Entry) → (chunk_of_entry (length entries) e == j) ≡ true → chunk_of_entry (length entries) e ≡ j
  in_chunk e = (Decides-eqb (chunk_of_entry (length entries) e) j).0

  all_in_chunk : (places : List ℕ) → AllByRecursion (λ e. chunk_of_entry (length entries) e ≡ j) (chosen (chunk_entries entries j) places)
  all_in_chunk places =
      let passes = recursion_from_All (λ e. (chunk_of_entry (length entries) e == j) ≡ true) (chunk_entries entries j) (filter_passes (λ e. chunk_of_entry (length entries) e == j) entries) in
      chosen_all (λ e. chunk_of_entry (length entries) e ≡ j) (chunk_entries entries j) places
      (λ i e at. in_chunk e (all_at (λ e. (chunk_of_entry (length entries) e == j) ≡ true) (chunk_entries entries j) passes i e at))

  -- a witness by the numbers of pairs
  pub failed : (t : ℕ) (witness : Witness) → IsFailure method s (chosen sigs numbers) (chosen values numbers) numbers t witness → IsWitness method entries j t (witness_numbers witness)
  failed t witness failure =
      let places = failure.places in
      let many : length (chosen sigs numbers) ≡ length numbers = length_chosen sigs numbers within in
      let set : IsIndexSet (length numbers) places = subst (λ n. IsIndexSet n places) many failure.refuting.set in
      let named = named_entries places set.within in
      let whole : chosen (try_equations s t (chosen sigs numbers) (chosen values numbers)) places ≡ map (entry_equation t (chunk_segment method entries j)) (chosen entries (map (slice_index numbers) places)) =
      ap (λ qs. chosen qs places) (equations_are t)
      ∙ chosen-map (entry_equation t (chunk_segment method entries j)) (chunk_entries entries j) places
      ∙ ap (map (entry_equation t (chunk_segment method entries j))) (sym named) in
      subst (IsWitness method entries j t) (sym failure.named) (record {
        set = set_of_numbers (length entries) numbers places within_entries rises set;
        inside = subst (AllByRecursion (λ e. chunk_of_entry (length entries) e ≡ j)) (sym named) (all_in_chunk places);
        fails = cannot_be_built method _ _ whole failure.refuting.fails;
      })

-- ---- one chunk more

cell_count_push : (cs : List Chunk) (c : Chunk) → cell_count (cs ++ c ∷ []) ≡ cell_count cs + 3 * c.segment
cell_count_push cs c = sum_by_push (λ (d : Chunk). 3 * d.segment) cs c

starts_push : (start : ℕ) (cs : List Chunk) (c : Chunk) → starts_from start (cs ++ c ∷ []) ≡ starts_from start cs ++ (start + cell_count cs + c.try * 2 ^ 58) ∷ []
starts_push start [] c = let e : start + c.try * 2 ^ 58 ≡ start + 0 + c.try * 2 ^ 58 = omega arith in ap (λ n. n ∷ []) e
starts_push start (d ∷ cs) c =
    let split = cell_count-cons d cs in
    let e : start + 3 * d.segment + cell_count cs + c.try * 2 ^ 58 ≡ start + cell_count (d ∷ cs) + c.try * 2 ^ 58 = omega arith in
    ap (λ ws. (start + d.try * 2 ^ 58) ∷ ws) (starts_push (start + 3 * d.segment) cs c ∙ ap (λ n. starts_from (start + 3 * d.segment) cs ++ n ∷ []) e)

module _ (method : Method) (entries : List Entry) (j first : ℕ) (words row : List ℕ) (before : AreFound method entries j first words row) (f : Found) (is : IsFound method entries j f) where
  pub more_found : (next : ℕ) (new_words new_row : List ℕ) → next ≡ first + length f.cells → new_words ≡ words ++ (first + f.chunk.try * 2 ^ 58) ∷ [] → take next new_row ≡ take first row ++ f.cells
      → AreFound method entries (j + 1) next new_words new_row
  more_found next new_words new_row next_is words_are row_is =
      let cs = chunks_of before.found in
      let chunks : chunks_of (before.found ++ f ∷ []) ≡ cs ++ f.chunk ∷ [] = map_push (λ (g : Found). g.chunk) before.found f in
      let count : cell_count (chunks_of (before.found ++ f ∷ [])) ≡ cell_count cs + 3 * f.chunk.segment = ap cell_count chunks ∙ cell_count_push cs f.chunk in
      let size = is.count in
      let start = before.start in
      let word : first + f.chunk.try * 2 ^ 58 ≡ 0 + cell_count cs + f.chunk.try * 2 ^ 58 = omega arith in
      record {
        found = before.found ++ f ∷ [];
        each = range_push (IsFound method entries) 0 j before.found f before.each (subst (λ k. IsFound method entries k f) (sym (zero-add j)) is);
        start = omega arith;
        table = words_are
            ∙ ap (λ ws. ws ++ (first + f.chunk.try * 2 ^ 58) ∷ []) before.table
            ∙ ap (λ n. starts_from 0 cs ++ n ∷ []) word
            ∙ sym (ap (starts_from 0) chunks ∙ starts_push 0 cs f.chunk);
        cells = row_is
            ∙ ap (λ xs. xs ++ f.cells) before.cells
            ∙ ap (λ xs. flat_map (λ (g : Found). g.cells) before.found ++ xs) (sym (append-nil f.cells))
            ∙ sym (flat_map-append (λ (g : Found). g.cells) before.found (f ∷ []));
      }

-- what holds of each value holds of those that are chosen
pub chosen_fit : (P : ℕ → Type 0) (values numbers : List ℕ) → All P values → All P (chosen values numbers)
chosen_fit P values numbers fit =
    All-from_recursion P (chosen values numbers) (chosen_all P values numbers (λ i x at. all_at P values (recursion_from_All P values fit) i x at))

-- From the functions of parts to a seed that works for all of them, and from the first part without one to a seed that fails.
use Rattle.std.proofs.Common.{◌≡◌, ℕ, ◌+◌, ◌*◌, ◌^◌, ◌<◌, ◌≤◌, List, [], ◌∷◌, length, map, take, get_or, Vec, Global, Result, Err, MatchResult, Some, IsSomeAnd, slice_get, refl, sym, ap, subst, ◌∙◌, arith}
use Rattle.std.specs.List.{AllByRecursion, AllZip, range_with_len}
use Rattle.std.proofs.lemmas.List.{length-append}
use Rattle.std.proofs.lemmas.List.Elements.{All-from_recursion}
use Rattle.std.proofs.lemmas.List.FromFn.{length-range_with_len, get_or-range_with_len}
use Rattle.std.proofs.Math.Pow.{pow_mono}
use Rattle.sx_spec.specs.declared.Method.{Method}
use Rattle.sx_spec.specs.declared.Plan.{Plan}
use Rattle.sx_spec.specs.Built.{CellsFit}
use Rattle.sx_spec.specs.Chunks.{chunk_count}
use Rattle.sx_spec.specs.Command.{Text}
use Rattle.sx_spec.specs.Fields.{packed, words_for}
use Rattle.sx_spec.specs.Layout.{table_words, u32_max}
use Rattle.sx_spec.specs.StaticFunction.{Chunk, Entry, Part, IsBuildable, IsBuiltChunk, IsBuiltFunction, IsCause, SeedWorks, SomeTryWorks, cell_count, part_entries}
use Rattle.sx_spec.proofs.Digits.{packed_fields_are_read_back}
use Rattle.sx_spec.proofs.Members.{zip_at}
use Rattle.sx_static.specs.declared.FuncBuf.{FuncBuf}
use Rattle.sx_static.specs.Answer.{IsDone, function_of}
use Rattle.sx_parts.specs.declared.layout.SectionBuf.{SectionBuf}
use Rattle.sx_parts.specs.declared.layout.SectionBuf.TheVariants.{Function}
use Rattle.sx_parts.specs.declared.parts.Stop.{Stop}
use Rattle.sx_parts.specs.declared.parts.Stop.TheVariants.{Memory, Part as PartStop}
use Rattle.sx_parts.specs.Assembling.{cause_of, tries}
use Rattle.sx_parts.specs.Sectioning.{AreSectionsOf, IsPartDone, IsWhole, StopsPart, StopsParts, held_words}
use Rattle.sx_sig.proofs.ChunkBits.{chunk_bits_le}
use Rattle.sx_parts.proofs.Cells.{cells_few, words_le}

-- ---- one part

module _ (method : Method) (width : ℕ) (entries : List Entry) (f : FuncBuf) (done : IsDone method tries width entries f) where
  counts : (length (function_of f).chunks ≡ chunk_count (length entries)) × (cell_count (function_of f).chunks ≤ 2 * length entries + 6 * chunk_count (length entries))
  counts = cells_few method entries (function_of f) (chunk_count (length entries)) (function_of f).chunks done.built.chunks

  tried : (j : ℕ) → j < chunk_count (length entries) → SomeTryWorks method tries entries j
  tried j lt =
      let n = chunk_count (length entries) in
      let d : Chunk = record { segment = 0; try = 0 } in
      let here = zip_at (IsBuiltChunk method entries (function_of f)) (range_with_len 0 n) (function_of f).chunks 0 d done.built.chunks j (let e = length-range_with_len 0 n in omega arith) in
      let is : get_or (range_with_len 0 n) j 0 ≡ j = get_or-range_with_len 0 n j 0 lt ∙ (let e : 0 + j ≡ j = omega arith in e) in
      let there = subst (λ (k : ℕ). IsBuiltChunk method entries (function_of f) k (get_or (function_of f).chunks j d)) is here in
      let low = All-from_recursion (λ (c : Chunk). c.try < 64) (function_of f).chunks done.tried j d (let e = counts.0 in omega arith) in
      ((get_or (function_of f).chunks j d).try, low, there.try.works)

  -- a part that has a function can be built
  pub buildable : IsBuildable method tries entries
  buildable = record { differ = done.built.differ; tried = tried }

  -- its table and its cells are those of the section
  pub whole : IsWhole (Function f)
  whole = (done.table, done.cell_width ∙ sym done.built.width)

  pub fits : CellsFit (function_of f)
  fits = subst (λ (w : ℕ). AllByRecursion (λ v. v < 2 ^ w) f.cells.items) (sym done.built.width) done.cells

  table_length : (s : ℕ) (cs : List Chunk) → length (table_words s cs) ≡ length cs + 1
  table_length s [] = refl
  table_length s (c ∷ cs) = let rest = table_length (s + 3 * c.segment) cs in omega arith

  -- its words are at most as many as its cells and its chunks, and two more
  some_words : width ≤ 64 → length (held_words (Function f)) ≤ cell_count (function_of f).chunks + length (function_of f).chunks + 3
  some_words narrow =
      let table : length f.table.items ≡ length (function_of f).chunks + 1 = ap (λ (l : List ℕ). length l) done.table ∙ table_length 0 (function_of f).chunks in
      let all : length f.cells.items ≡ cell_count (function_of f).chunks = done.built.cells in
      let a : length (packed f.cells.width f.cells.items) ≡ words_for (length f.cells.items * f.cells.width) = packed_fields_are_read_back.words f.cells.width f.cells.items in
      let thin : f.cells.width ≤ 64 = subst (λ (w : ℕ). w ≤ 64) (sym done.cell_width) narrow in
      let b = words_le (length f.cells.items) f.cells.width thin in
      let both = length-append f.table.items (packed f.cells.width f.cells.items) in
      omega arith

  module _ (few : length entries ≤ 4194304) where
    few_chunks : chunk_count (length entries) ≤ 4096
    few_chunks = pow_mono (chunk_bits_le (length entries) 12 few)

    -- a function of few pairs has few cells
    pub cells_counted : cell_count (function_of f).chunks ≤ u32_max
    cells_counted = let k = few_chunks in let (chunks, cells) = counts in omega arith

    -- and few words
    pub function_few : width ≤ 64 → length (held_words (Function f)) ≤ 2 ^ 24 + 2
    function_few narrow = let k = few_chunks in let (chunks, cells) = counts in let words = some_words narrow in omega arith

  -- the same for twice as many pairs
  module _ (twice : length entries ≤ 8388608) where
    twice_chunks : chunk_count (length entries) ≤ 8192
    twice_chunks = pow_mono (chunk_bits_le (length entries) 13 twice)

    pub twice_cells : cell_count (function_of f).chunks ≤ u32_max
    twice_cells = let k = twice_chunks in let (chunks, cells) = counts in omega arith

    pub twice_words : width ≤ 64 → length (held_words (Function f)) ≤ 2 ^ 24 + 2 ^ 16
    twice_words narrow = let k = twice_chunks in let (chunks, cells) = counts in let words = some_words narrow in omega arith

-- ---- all parts

module _ (plan : Plan) (seed : ℕ) where
  -- the seed works for parts that have functions
  pub works : (parts : List Part) (fs : List FuncBuf) → AllZip (IsPartDone plan seed) parts fs → SeedWorks plan.method tries plan.sig_bits parts seed
  works [] [] all = tt
  works [] (f ∷ fs) all = absurd all
  works (p ∷ parts) [] all = absurd all
  works (p ∷ parts) (f ∷ fs) all = (buildable plan.method p.width (part_entries plan.sig_bits seed p) f all.0, works parts fs all.1)

  -- these are functions as they are built
  pub all_built : (parts : List Part) (fs : List FuncBuf) → AllZip (IsPartDone plan seed) parts fs → AllZip (λ part f. IsBuiltFunction plan.method part.width (part_entries plan.sig_bits seed part) f) parts (map function_of fs)
  all_built [] [] all = tt
  all_built [] (f ∷ fs) all = absurd all
  all_built (p ∷ parts) [] all = absurd all
  all_built (p ∷ parts) (f ∷ fs) all = (all.0.built, all_built parts fs all.1)

  pub all_fit : (parts : List Part) (fs : List FuncBuf) → AllZip (IsPartDone plan seed) parts fs → AllByRecursion CellsFit (map function_of fs)
  all_fit [] [] all = tt
  all_fit [] (f ∷ fs) all = absurd all
  all_fit (p ∷ parts) [] all = absurd all
  all_fit (p ∷ parts) (f ∷ fs) all = (fits plan.method p.width (part_entries plan.sig_bits seed p) f all.0, all_fit parts fs all.1)

  -- the first part without a function is where the seed fails
  pub stops_at : (parts : List Part) (fs : List FuncBuf) (i : ℕ) (part : Part) (stop : Stop) → AllZip (IsPartDone plan seed) (take i parts) fs → slice_get parts i ≡ Some part
      → StopsPart i plan.method (part_entries plan.sig_bits seed part) stop → StopsParts plan seed parts stop
  stops_at parts fs i part Memory before at stops = tt
  stops_at parts fs i part (PartStop fault) before at stops =
      let place = stops.part in
      let earlier = works (take i parts) fs before in (
        record {
          before = subst (λ (n : ℕ). SeedWorks plan.method tries plan.sig_bits (take n parts) seed) (sym place) earlier;
          here = subst (λ o. IsSomeAnd o (λ (p : Part). IsCause plan.method tries (part_entries plan.sig_bits seed p) (cause_of fault.cause))) (sym (ap (slice_get parts) place ∙ at)) stops.cause;
        },
        stops.kinds,
      )

-- what the exit of a `?` returns
pub stops_out : (plan : Plan) (lines : List Text) (seed : ℕ) (parts : List Part) (r : Result (Vec SectionBuf Global) Stop) (e : Stop) → ((x : Stop) × (r ≡ Err x) × (x ≡ e)) → StopsParts plan seed parts e
    → MatchResult r (λ s. AreSectionsOf plan lines seed parts s.items) (StopsParts plan seed parts)
stops_out plan lines seed parts r e (x, at, same) stops =
    let P : Vec SectionBuf Global → Type 0 = λ s. AreSectionsOf plan lines seed parts s.items in
    subst (λ (o : Result (Vec SectionBuf Global) Stop). MatchResult o P (StopsParts plan seed parts)) (sym at) (subst (StopsParts plan seed parts) (sym same) stops)

-- A function that was built is read from its words, and so is what is known of handles.
use Rattle.std.proofs.Common.{◌≡◌, ℕ, zero, suc, ◌+◌, ◌*◌, ◌^◌, ◌<◌, ◌≤◌, true, List, [], ◌∷◌, ◌++◌, length, map, take, drop, get_or, refl, sym, ap, subst, ◌∙◌, arith, inl, inr}
use Rattle.std.specs.List.{AllByRecursion, enumerate_from, range_with_len}
use Rattle.std.proofs.lemmas.Bool.{cases_lt}
use Rattle.std.proofs.lemmas.List.{append-nil, drop_at, get_or-map, length-append, length-map, take_at}
use Rattle.sx_spec_strings.specs.Bits.{Bits}
use Rattle.sx_spec_strings.specs.Ordered.{IsIn}
use Rattle.sx_spec_strings.proofs.Lists.{all_true, zip_second}
use Rattle.sx_spec_kinds.specs.Pairs.{handles_pairs, pair}
use Rattle.sx_spec_kinds.specs.Zfast.{HandleMap, KnowsHandles}
use Rattle.sx_spec.specs.declared.Method.{Method}
use Rattle.sx_spec.specs.declared.Method.TheVariants.{Mwhc, Gov3}
use Rattle.sx_spec.specs.declared.Plan.{Plan}
use Rattle.sx_spec.specs.Built.{marks_list}
use Rattle.sx_spec.specs.Chunks.{chunk_count}
use Rattle.sx_spec.specs.Command.{Text}
use Rattle.sx_spec.specs.Fields.{fields, packed, words_for}
use Rattle.sx_spec.specs.Laws.{IsReadBack, IsSectionFunction}
use Rattle.sx_spec.specs.Layout.{cell_words, function_checks, function_of as function_rule, function_section, function_table, is_table, section_words, table_cells, table_chunks, table_words}
use Rattle.sx_spec.specs.Reply.{function_in, sign, top_bits}
use Rattle.sx_spec.specs.Signature.{signature}
use Rattle.sx_spec.specs.StaticFunction.{Chunk, Entry, Function, CanBeBuilt, IsBuiltChunk, TryWorks, chunk_entries, chunk_segment, entry_equation, value_of}
use Rattle.sx_spec.proofs.Digits.{length-lowest_digits, packed_fields_are_read_back}
use Rattle.sx_spec.proofs.Functions.{some_segment}
use Rattle.sx_spec.proofs.Members.{answers_pairs}
use Rattle.sx_spec.proofs.Sections.{functions_are_read_back}
use Rattle.sx_spec.proofs.Widths.{marks_fit}
use Rattle.sx_static.specs.declared.FuncBuf.{FuncBuf}
use Rattle.sx_static.specs.Answer.{IsDone, function_of}
use Rattle.sx_static.specs.Viewing.{IsViewed, table_at, viewed}
use Rattle.sx_parts.specs.Assembling.{tries}
use Rattle.sx_parts.specs.Sectioning.{header_for}
use Rattle.sx_parts.proofs.Cells.{cells_few}
use Rattle.sx_parts.proofs.PartLists.{cells_counted, fits}
use Rattle.sx_assemble.specs.Handling.{AreHandles, delimiters_for, handles_for, handles_part, map_for}
use Rattle.sx_assemble.specs.declared.zfast.HandlesBuf.{HandlesBuf}

-- ---- a function that was built

-- nothing is solved and peeled at once
none_needed : (method : Method) → CanBeBuilt method []
none_needed Mwhc = ([], record { each = record { as_many = refl; each = λ i h. absurd (omega arith) }; peels = tt })
none_needed Gov3 = ([], tt)

none_of_length : {A : Type 0} (xs : List A) → length xs ≡ 0 → xs ≡ []
none_of_length [] e = refl
none_of_length (x ∷ xs) e = absurd (omega arith)

-- a chunk without segments has no entry, and so try 0
empty_chunk : (method : Method) (entries : List Entry) (f : Function) (j : ℕ) (chunk : Chunk) → IsBuiltChunk method entries f j chunk → chunk.segment ≡ 0 → chunk.try ≡ 0
empty_chunk method entries f j chunk is none =
    let empty : length (chunk_entries entries j) ≡ 0 =
    elim (cases_lt 0 (length (chunk_entries entries j))) [
      | inl some ↦ absurd (let s = some_segment method (length (chunk_entries entries j)) some in let e = is.segment in omega arith)
      | inr le ↦ omega arith
    ] in
    let works : TryWorks method entries j 0 =
    subst (λ es. CanBeBuilt method (map (entry_equation 0 (chunk_segment method entries j)) es)) (sym (none_of_length (chunk_entries entries j) empty)) (none_needed method) in
    elim (cases_lt 0 chunk.try) [
      | inl later ↦ absurd (is.try.least 0 later works)
      | inr first ↦ omega arith
    ]

length-table : (s : ℕ) (cs : List Chunk) → length (table_words s cs) ≡ length cs + 1
length-table s [] = refl
length-table s (c ∷ cs) = let rest = length-table (s + 3 * c.segment) cs in omega arith

module _ (method : Method) (width : ℕ) (entries : List Entry) (f : FuncBuf) (done : IsDone method tries width entries f) (few : length entries ≤ 4194304) where
  abbrev built : Function
  built = function_of f

  chunks_counted : length built.chunks ≡ chunk_count f.pairs
  chunks_counted = (cells_few method entries built (chunk_count (length entries)) built.chunks done.built.chunks).0 ∙ ap chunk_count (sym done.built.pairs)

  is_section : IsSectionFunction (function_of f)
  is_section = record {
    chunks = chunks_counted;
    tries = zip_second (IsBuiltChunk method entries built) (λ (c : Chunk). c.segment ≡ 0 → c.try ≡ 0) (range_with_len 0 (chunk_count (length entries))) built.chunks (empty_chunk method entries built) done.built.chunks;
    count = done.built.cells;
    limit = cells_counted method width entries f done few;
    cells = fits method width entries f done;
  }

  read_back : IsReadBack (function_rule 0 f.pairs 0 f.width) (function_section built) []
  read_back = functions_are_read_back built 0 f.pairs 0 f.width [] is_section (omega arith) (omega arith) (omega arith) (omega arith)

  abbrev whole : List ℕ
  whole = section_words (function_section built) ++ []

  front : function_table whole ≡ table_words 0 built.chunks
  front =
      let size : length (table_words 0 built.chunks) ≡ chunk_count f.pairs + 1 = length-table 0 built.chunks ∙ ap (λ (n : ℕ). n + 1) chunks_counted in
      ap (take (chunk_count f.pairs + 1)) (append-nil (table_words 0 built.chunks ++ packed f.width f.cells.items))
      ∙ take_at (table_words 0 built.chunks) (packed f.width f.cells.items) (chunk_count f.pairs + 1) size

  tabled : is_table f.table.items ≡ true
  tabled =
      let all = all_true (function_checks 0 f.pairs 0 f.width whole) read_back.passes in
      ap is_table (done.table ∙ sym front) ∙ all.1.1.1.1.0

  cells_are : table_cells f.table.items ≡ length f.cells.items
  cells_are =
      let again : fields f.width (table_cells (function_table whole)) (cell_words whole) ≡ f.cells.items = ap (λ s. (function_in s).cells) read_back.reads in
      ap table_cells (done.table ∙ sym front)
      ∙ sym (length-lowest_digits (2 ^ f.width) (table_cells (function_table whole)) _)
      ∙ ap (λ (l : List ℕ). length l) again

  module _ (words : List ℕ) (are : words ≡ f.table.items ++ packed f.cells.width f.cells.items) where
    size : length f.table.items ≡ chunk_count f.pairs + 1
    size = ap (λ (l : List ℕ). length l) done.table ∙ length-table 0 built.chunks ∙ ap (λ (n : ℕ). n + 1) chunks_counted

    table_is : table_at words 0 f.pairs ≡ f.table.items
    table_is = ap (λ (ws : List ℕ). take (chunk_count f.pairs + 1) (drop 0 ws)) are ∙ take_at f.table.items (packed f.cells.width f.cells.items) (chunk_count f.pairs + 1) size

    one_width : f.cells.width ≡ f.width
    one_width = done.cell_width ∙ sym done.built.width

    -- the words of its table and cells are those of a function
    pub stands : f.width ≤ 64 → IsViewed words 0 f.width f.pairs
    stands narrow =
        let count : table_cells (table_at words 0 f.pairs) ≡ length f.cells.items = ap table_cells table_is ∙ cells_are in
        let need : words_for (table_cells (table_at words 0 f.pairs) * f.width) ≡ words_for (length f.cells.items * f.cells.width) = λ i. words_for (count i * sym one_width i) in
        let held : length (packed f.cells.width f.cells.items) ≡ words_for (length f.cells.items * f.cells.width) = packed_fields_are_read_back.words f.cells.width f.cells.items in
        let both : length words ≡ length f.table.items + length (packed f.cells.width f.cells.items) = ap (λ (l : List ℕ). length l) are ∙ length-append f.table.items (packed f.cells.width f.cells.items) in
        let tables = size in
        let pairs = done.built.pairs in
        record {
          narrow = narrow;
          few = omega arith;
          table = ap is_table table_is ∙ tabled;
          within = omega arith;
        }

    -- and it is this function
    pub viewed_is : viewed words 0 f.width f.pairs ≡ function_of f
    viewed_is =
        let behind : drop (0 + chunk_count f.pairs + 1) words ≡ packed f.cells.width f.cells.items =
        (let e : 0 + chunk_count f.pairs + 1 ≡ chunk_count f.pairs + 1 = omega arith in λ i. drop (e i) (are i)) ∙ drop_at f.table.items (packed f.cells.width f.cells.items) (chunk_count f.pairs + 1) size in
        let fit : AllByRecursion (λ v. v < 2 ^ f.width) f.cells.items = fits method width entries f done in
        let same : packed f.cells.width f.cells.items ≡ packed f.width f.cells.items = ap (λ (w : ℕ). packed w f.cells.items) one_width in
        let count : table_cells (table_at words 0 f.pairs) ≡ length f.cells.items = ap table_cells table_is ∙ cells_are in
        let cells : fields f.width (table_cells (table_at words 0 f.pairs)) (drop (0 + chunk_count f.pairs + 1) words) ≡ f.cells.items =
        (λ i. fields f.width (count i) ((behind ∙ same) i)) ∙ packed_fields_are_read_back.items f.width f.cells.items fit in
        λ i. record { width = f.width; pairs = f.pairs; chunks = table_chunks (table_is i); cells = cells i }

-- ---- what is known of handles

-- a string stands with its place among its like
numbered_in : (s : ℕ) (xs : List Bits) (i : ℕ) → i < length xs → IsIn (map (λ (t : ℕ × Bits). pair t.1 t.0) (enumerate_from s xs)) (get_or xs i [], s + i)
numbered_in s [] i lt = absurd (omega arith)
numbered_in s (x ∷ xs) zero lt = inl (let e : s + 0 ≡ s = omega arith in ap (λ (n : ℕ). (x, n)) e)
numbered_in s (x ∷ xs) (suc i) lt =
    let e : s + 1 + i ≡ s + suc i = omega arith in
    inr (subst (λ (n : ℕ). IsIn (map (λ (t : ℕ × Bits). pair t.1 t.0) (enumerate_from (s + 1) xs)) (get_or xs i [], n)) e (numbered_in (s + 1) xs i (omega arith)))

module _ (plan : Plan) (lines : List Text) (seed : ℕ) (h : HandlesBuf) (are : AreHandles plan lines seed h) (few : length (handles_pairs (delimiters_for plan lines)) ≤ 4194304) where
  abbrev handles : List Bits
  handles = handles_for plan lines

  placed : (i : ℕ) → i < length handles → value_of (function_of h.function) (signature seed plan.sig_bits (get_or handles i [])) ≡ i
  unfolding handles_pairs
  placed i lt = answers_pairs plan.method plan.sig_bits seed (handles_part plan lines) (function_of h.function) are.function.built (omega arith) (get_or handles i [], i) (subst (λ (n : ℕ). IsIn (map (λ (t : ℕ × Bits). pair t.1 t.0) (enumerate_from 0 handles)) (get_or handles i [], n)) (let e : 0 + i ≡ i = omega arith in e) (numbered_in 0 handles i lt))

  -- each handle is known
  pub knows : KnowsHandles (map_for plan lines seed h) (handles_for plan lines)
  knows =
      let mark : Bits → ℕ = λ (y : Bits). top_bits plan.handle_bits (sign (header_for plan lines seed) y) in
      record {
        count = ap (λ (l : List ℕ). length l) are.items ∙ length-map handles mark;
        place = placed;
        mark = λ i lt. ap (λ (l : List ℕ). get_or l i 0) are.items ∙ get_or-map mark handles i [] 0 lt;
      }

  -- the marks are read from their words
  pub marks_read : plan.handle_bits ≤ 64 → fields h.marks.width (length h.marks.items) (packed h.marks.width h.marks.items) ≡ h.marks.items
  marks_read narrow =
      let fit : AllByRecursion (λ x. x < 2 ^ plan.handle_bits) (marks_list (header_for plan lines seed) plan.handle_bits handles) = marks_fit (header_for plan lines seed) plan.handle_bits handles narrow in
      let there : AllByRecursion (λ x. x < 2 ^ h.marks.width) h.marks.items = subst (λ (w : ℕ). AllByRecursion (λ x. x < 2 ^ w) h.marks.items) (sym are.width) (subst (AllByRecursion (λ x. x < 2 ^ plan.handle_bits)) (sym are.items) fit) in
      packed_fields_are_read_back.items h.marks.width h.marks.items there

-- what is known by a function, a width and marks
abbrev pub map_by : (seed bits : ℕ) → Function → ℕ → List ℕ → HandleMap
map_by seed bits f w ms = record { handles = λ x. value_of f (signature seed bits x); mark_of = λ y. top_bits w (signature seed bits y); marks = ms }

-- the same of strings by the same function, width and marks
pub maps_same : (seed bits : ℕ) (f g : Function) (w v : ℕ) (ms ns : List ℕ) → f ≡ g → w ≡ v → ms ≡ ns
    → map_by seed bits f w ms ≡ map_by seed bits g v ns
maps_same seed bits f g w v ms ns a b c = λ i. map_by seed bits (a i) (b i) (c i)

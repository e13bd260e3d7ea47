-- The checks of a function section, one after another, and what stands where all pass.
use Rattle.std.proofs.Common.{◌≡◌, ℕ, ◌+◌, ◌-◌, ◌*◌, ◌<◌, ◌≤◌, ◌^◌, Bool, true, false, List, [], ◌∷◌, ◌++◌, length, take, drop, get_or, Option, Some, None, Result, Ok, Err, refl, sym, ap, ◌∙◌, arith}
use Rattle.std.specs.Prelude.{nat_le, slice_index}
use Rattle.std.specs.Int.{div_ceil, is_in_range}
use Rattle.std.specs.List.{AllByRecursion}
use Rattle.std.proofs.lemmas.Bool.{and_parts, leb-true, le-leb, lt-leb}
use Rattle.std.proofs.lemmas.List.{take_rest, drop-drop, length-drop, length-take-le}
use Rattle.sx_spec_strings.specs.First.{first_failing}
use Rattle.sx_spec_strings.proofs.Lists.{all_true}
use Rattle.sx_spec.specs.Chunks.{chunk_count}
use Rattle.sx_spec.specs.Fields.{fields, is_zero_after, words_for}
use Rattle.sx_spec.specs.Layout.{after_table, cell_bits, cell_words, function_checks, function_of, function_section, function_table, is_table, section_of, section_size, table_cells, table_chunks, table_start}
use Rattle.sx_spec.proofs.Sections.{both_true, none_fails}
use Rattle.sx_fields.proofs.Places.{fields_taken}
use Rattle.sx_static.specs.FunctionSections.{size_found}
use Rattle.sx_static.specs.Viewing.{IsViewed, table_at, viewed}
use Rattle.sx_static.proofs.ChunkTables.{last_is}

-- ---- checks

abbrev pub AllTrue : List (ℕ × Bool) → Type 0
AllTrue rows = AllByRecursion (λ row. row.1 ≡ true) rows

-- the first check that fails after those that pass
fails_after : (passed later : List (ℕ × Bool)) (n : ℕ) (test : Bool) → AllTrue passed → test ≡ false → first_failing (passed ++ (n, test) ∷ later) ≡ Some n
fails_after [] later n true all bad = absurd cc
fails_after [] later n false all bad = refl
fails_after ((m, true) ∷ passed) later n test all bad = fails_after passed later n test all.1 bad
fails_after ((m, false) ∷ passed) later n test all bad = absurd (let e = all.0 in cc)

-- ---- the checks by what is read

module _ (least most low high : ℕ) (words : List ℕ) where
  abbrev answer : Option ℕ → Result ℕ ℕ
  answer o = elim o [
    | Some check ↦ Err check
    | None ↦ Ok (section_size (function_of least most low high) words)
  ]

  abbrev head : List (ℕ × Bool)
  head =
      (11, nat_le 2 (length words))
      ∷ (12, is_in_range least most (slice_index words 1))
      ∷ (13, is_in_range low high (slice_index words 0))
      ∷ (11, nat_le (chunk_count (slice_index words 1) + 3) (length words))
      ∷ []

  module _ (long : 2 ≤ length words) (least_pairs : least ≤ slice_index words 1) (most_pairs : slice_index words 1 ≤ most) (least_width : low ≤ slice_index words 0) (most_width : slice_index words 0 ≤ high)
      (chunks : ℕ) (many : chunks ≡ chunk_count (slice_index words 1)) (tabled : chunks + 3 ≤ length words) (good : Bool) (is : good ≡ is_table (take (chunks + 3 - 2) (drop 2 words))) where
    head_true : AllTrue head
    head_true = (
      le-leb 2 (length words) long,
      (
        both_true (nat_le least (slice_index words 1)) (nat_le (slice_index words 1) most) (le-leb least (slice_index words 1) least_pairs) (le-leb (slice_index words 1) most most_pairs),
        (
          both_true (nat_le low (slice_index words 0)) (nat_le (slice_index words 0) high) (le-leb low (slice_index words 0) least_width) (le-leb (slice_index words 0) high most_width),
          (le-leb (chunk_count (slice_index words 1) + 3) (length words) (omega arith), tt),
        ),
      ),
    )

    table_is : take (chunks + 3 - 2) (drop 2 words) ≡ function_table words
    table_is = let e : chunks + 3 - 2 ≡ chunk_count (slice_index words 1) + 1 = omega arith in ap (λ n. take n (drop 2 words)) e

    -- the words are no chunk table
    pub fails_table : good ≡ false → Err 14 ≡ size_found least most low high words
    fails_table bad = sym (ap answer (fails_after head (
        (11, nat_le (words_for (cell_bits words)) (length (after_table words)))
        ∷ (15, is_zero_after (cell_bits words) (cell_words words))
        ∷ []
        ) 14 (is_table (function_table words)) head_true (ap is_table (sym table_is) ∙ sym is ∙ bad)))

    module _ (fine : good ≡ true) (start : ℕ) (end : start ≡ table_start (get_or (take (chunks + 3 - 2) (drop 2 words)) chunks 0)) (size : ℕ) (sized : size ≡ div_ceil (start * get_or words 0 0) 64) where
      abbrev head_and_table : List (ℕ × Bool)
      head_and_table = head ++ (14, is_table (function_table words)) ∷ []

      head_and_table_true : AllTrue head_and_table
      head_and_table_true = let h = head_true in (h.0, (h.1.0, (h.1.1.0, (h.1.1.1.0, (ap is_table (sym table_is) ∙ sym is ∙ fine, tt)))))

      bits_are : start * get_or words 0 0 ≡ cell_bits words
      bits_are =
          let table = function_table words in
          let rest = length-drop 2 words in
          let all : length table ≡ chunk_count (slice_index words 1) + 1 = length-take-le (chunk_count (slice_index words 1) + 1) (drop 2 words) (omega arith) in
          let place : chunks ≡ length table - 1 = omega arith in
          let last : start ≡ table_cells table =
          end ∙ ap (λ ws. table_start (get_or ws chunks 0)) table_is ∙ ap (λ (n : ℕ). table_start (get_or table n 0)) place
          ∙ ap table_start (sym (last_is table None (omega arith))) in
          ap (λ n. n * get_or words 0 0) last

      after_is : take (length words - (chunks + 3)) (drop (chunks + 3) words) ≡ after_table words
      after_is = take_rest words (chunks + 3) ∙ ap (λ n. drop (n + 3) words) many

      size_is : size ≡ words_for (cell_bits words)
      size_is = sized ∙ ap words_for bits_are

      -- there are too few words
      pub fails_cells : length (take (length words - (chunks + 3)) (drop (chunks + 3) words)) < size → Err 11 ≡ size_found least most low high words
      fails_cells few =
          let count = ap (λ ws. length ws) after_is in
          let wanted = size_is in
          sym (ap answer (fails_after head_and_table (
          (15, is_zero_after (cell_bits words) (cell_words words))
          ∷ []
          ) 11 (nat_le (words_for (cell_bits words)) (length (after_table words))) head_and_table_true (lt-leb (words_for (cell_bits words)) (length (after_table words)) (omega arith))))

      module _ (enough : size ≤ length (take (length words - (chunks + 3)) (drop (chunks + 3) words))) (clear : Bool) (tested : clear ≡ is_zero_after (start * get_or words 0 0) (take size (take (length words - (chunks + 3)) (drop (chunks + 3) words)))) where
        all_but_last : AllTrue (head_and_table ++ (11, nat_le (words_for (cell_bits words)) (length (after_table words))) ∷ [])
        all_but_last =
            let h = head_and_table_true in
            let count = ap (λ ws. length ws) after_is in
            let wanted = size_is in
            (h.0, (h.1.0, (h.1.1.0, (h.1.1.1.0, (h.1.1.1.1.0, (le-leb (words_for (cell_bits words)) (length (after_table words)) (omega arith), tt))))))

        padding_is : clear ≡ is_zero_after (cell_bits words) (cell_words words)
        padding_is = tested ∙ (λ i. is_zero_after (bits_are i) (take (size_is i) (after_is i)))

        -- a bit after the last cell is set
        pub fails_padding : clear ≡ false → Err 15 ≡ size_found least most low high words
        fails_padding bad = sym (ap answer (fails_after (head_and_table ++ (11, nat_le (words_for (cell_bits words)) (length (after_table words))) ∷ []) [] 15 (is_zero_after (cell_bits words) (cell_words words)) all_but_last (sym padding_is ∙ bad)))

        -- all pass
        pub all_pass : clear ≡ true → Ok (chunks + 3 + size) ≡ size_found least most low high words
        all_pass clean =
            let h = all_but_last in
            let none : first_failing (function_checks least most low high words) ≡ None =
            none_fails (function_checks least most low high words) (h.0, (h.1.0, (h.1.1.0, (h.1.1.1.0, (h.1.1.1.1.0, (h.1.1.1.1.1.0, (sym padding_is ∙ clean, tt))))))) in
            (λ i. Ok (many i + 3 + size_is i)) ∙ sym (ap answer none)

-- ---- what stands where all pass

module _ (least most low high : ℕ) (words : List ℕ) (at size : ℕ) (found : Ok size ≡ size_found least most low high (drop at words)) where
  abbrev rest : List ℕ
  rest = drop at words

  passed : (o : Option ℕ) → first_failing (function_checks least most low high rest) ≡ o → Ok size ≡ answer least most low high rest o → AllTrue (function_checks least most low high rest) × (size ≡ section_size (function_of least most low high) rest)
  passed (Some check) e read = absurd cc
  passed None e read = (all_true (function_checks least most low high rest) e, cc)

  facts : AllTrue (function_checks least most low high rest) × (size ≡ section_size (function_of least most low high) rest)
  facts = passed (first_failing (function_checks least most low high rest)) refl found

  pub size_is_section : size ≡ section_size (function_of least most low high) rest
  size_is_section = facts.1

  fit : chunk_count (slice_index rest 1) + 3 + words_for (cell_bits rest) ≤ length rest
  fit =
      let f = facts.0 in
      let table = leb-true (chunk_count (slice_index rest 1) + 3) (length rest) f.1.1.1.0 in
      let cells = leb-true (words_for (cell_bits rest)) (length (after_table rest)) f.1.1.1.1.1.0 in
      let after = length-drop (chunk_count (slice_index rest 1) + 3) rest in
      omega (arith, table, cells, after)

  pub size_within : size ≤ length words - at
  size_within = let inside = fit in let is = size_is_section in let n = length-drop at words in omega (arith, inside, is, n)

  pub width_high : slice_index rest 0 ≤ high
  width_high = leb-true (slice_index rest 0) high (and_parts (nat_le low (slice_index rest 0)) _ facts.0.1.1.0).1

  pub pairs_most : slice_index rest 1 ≤ most
  pairs_most = leb-true (slice_index rest 1) most (and_parts (nat_le least (slice_index rest 1)) _ facts.0.1.0).1

  table_there : function_table rest ≡ table_at words (at + 2) (slice_index rest 1)
  table_there = ap (take (chunk_count (slice_index rest 1) + 1)) (drop-drop 2 at words)

  pub section_viewed : section_of (function_of least most low high) rest ≡ function_section (viewed words (at + 2) (slice_index rest 0) (slice_index rest 1))
  section_viewed =
      let width = slice_index rest 0 in
      let pairs = slice_index rest 1 in
      let count = table_cells (function_table rest) in
      let inside = fit in
      let after = length-drop (chunk_count pairs + 3) rest in
      let e : at + (chunk_count pairs + 3) ≡ at + 2 + chunk_count pairs + 1 = omega arith in
      let cells : fields width count (cell_words rest) ≡ fields width count (drop (at + 2 + chunk_count pairs + 1) words) =
      fields_taken width count (words_for (count * width)) (after_table rest) (omega arith) (omega arith)
      ∙ ap (fields width count) (drop-drop (chunk_count pairs + 3) at words ∙ ap (λ n. drop n words) e) in
      (λ i. function_section (record { width = width; pairs = pairs; chunks = table_chunks (function_table rest); cells = cells i }))
      ∙ (λ i. function_section (record {
        width = width;
        pairs = pairs;
        chunks = table_chunks (table_there i);
        cells = fields width (table_cells (table_there i)) (drop (at + 2 + chunk_count pairs + 1) words);
      }))

  pub is_viewed : most < 2 ^ 32 → high ≤ 64 → IsViewed words (at + 2) (slice_index rest 0) (slice_index rest 1)
  is_viewed few narrow =
      let inside = fit in
      let width = width_high in
      let pairs = pairs_most in
      let n = length-drop at words in
      let cells : words_for (cell_bits rest) ≡ words_for (table_cells (table_at words (at + 2) (slice_index rest 1)) * slice_index rest 0) =
      ap (λ t. words_for (table_cells t * slice_index rest 0)) table_there in
      record {
        narrow = omega (arith, width, narrow);
        few = omega (arith, pairs, few);
        table = ap is_table (sym table_there) ∙ facts.0.1.1.1.1.0;
        within = omega (arith, inside, n, cells);
      }

-- Dumps of hollow tries: the lists of all keys, their sums, the sections and the headers.
use Rattle.std.proofs.Common.{◌≡◌, ℕ, zero, suc, ◌+◌, ◌-◌, ◌*◌, ◌/◌, ◌%◌, ◌^◌, ◌<◌, ◌≤◌, List, [], ◌∷◌, length, map, get_or, refl, sym, ap, subst, ◌∙◌, arith}
use Rattle.std.specs.Prelude.{sum_by}
use Rattle.std.specs.List.{enumerate_from, range_with_len, slice_index_or}
use Rattle.std.proofs.lemmas.List.{get_or-map, length-append, length-map}
use Rattle.std.proofs.lemmas.List.FromFn.{fill_by_all, get_or-range_with_len, length-range_with_len}
use Rattle.sx_spec_strings.specs.Bits.{Bits, key_bits}
use Rattle.sx_spec_kinds.specs.declared.Kind.{Kind}
use Rattle.sx_spec_kinds.specs.declared.Kind.TheVariants.{Hollow}
use Rattle.sx_spec_kinds.specs.Blocks.{block_size}
use Rattle.sx_spec_kinds.specs.Hollow.{left_counts, skips}
use Rattle.sx_spec_kinds.specs.Trie.{extents_of, name_len, nodes_of, node_of}
use Rattle.sx_spec_kinds.proofs.TrieLaws.{length-extents_of}
use Rattle.sx_spec.specs.declared.Plan.{Plan}
use Rattle.sx_spec.specs.Built.{sums_from, sums_list}
use Rattle.sx_spec.specs.Command.{Text}
use Rattle.sx_spec.specs.Fields.{below_of, low_width, low_words, upper_bits, upper_words, words_for}
use Rattle.sx_spec.specs.Laws.{IsHeader}
use Rattle.sx_spec.specs.Layout.{section_words}
use Rattle.sx_spec.specs.Parts.{kind_parts, parts_of}
use Rattle.sx_spec.specs.StaticFunction.{Part}
use Rattle.sx_spec.specs.Values.{plain_values}
use Rattle.sx_spec.proofs.Bounds.{Each}
use Rattle.sx_spec.proofs.BuiltWords.{left_small, skip_small, sums_below}
use Rattle.sx_spec.proofs.Digits.{length-lowest_digits, packed_fields_are_read_back}
use Rattle.sx_bits.specs.KeyLists.{IsKeyList, Keys}
use Rattle.sx_bits.proofs.KeyListBits.{key_list_bits}
use Rattle.sx_ef.proofs.Widths.{upper_few, width_le}
use Rattle.sx_trie.specs.Tries.{AreRising, delimiter_bits}
use Rattle.sx_parts.specs.declared.layout.SectionBuf.{SectionBuf}
use Rattle.sx_parts.specs.Assembling.{key_signature}
use Rattle.sx_assemble.specs.Hollowing.{AreHollow, IsHollowPlan}
use Rattle.sx_parts.specs.Sectioning.{AreKindSections, AreSectionsOf, AreSigned, IsWhole, header_for, held_words, section_built}
use Rattle.sx_parts.proofs.BuiltDumps.{AreSources, few_lines}
use Rattle.sx_parts.proofs.Cells.{words_le}
use Rattle.sx_parts.proofs.KeySizes.{keys_short}
use Rattle.sx_parts.proofs.Layouts.{few_words, section_laid}
use Rattle.sx_parts.proofs.NarrowValues.{each_small}
use Rattle.sx_parts.proofs.SignedEnds.{all_sections}

-- ---- all keys

-- the numbers of all lines rise, and name them all
pub all_rise : (lines : List Text) → AreRising lines (range_with_len 0 (length lines))
all_rise lines =
    let n = length lines in
    let size = length-range_with_len 0 n in
    record {
      inside = λ i within. let at = get_or-range_with_len 0 n i 0 (omega arith) in omega arith;
      rising = λ i within.
          let at = get_or-range_with_len 0 n i 0 (omega arith) in
          let next = get_or-range_with_len 0 n (i + 1) 0 (omega arith) in
          omega arith;
    }

pub all_bits : (lines : List Text) → delimiter_bits lines (range_with_len 0 (length lines)) ≡ map key_bits lines
all_bits lines =
    sym (fill_by_all (λ i. key_bits (slice_index_or lines i [])) (map key_bits lines) (length lines) [] (length-map lines key_bits)
    (λ k below. get_or-map key_bits lines k [] [] below))

pub left_length : (ks : List Bits) → length (left_counts ks) ≡ length (extents_of ks)
unfolding left_counts
left_length ks = length-map (nodes_of ks) (λ v. v.middle - v.first) ∙ length-map (extents_of ks) (node_of ks)

pub skip_length : (ks : List Bits) → length (skips ks) ≡ length (extents_of ks)
unfolding skips
skip_length ks = length-map (extents_of ks) (λ e. length e - name_len (extents_of ks) e)

-- there are no more numbers of a list than keys
module _ (list : Keys) (are : IsKeyList list) where
  abbrev strings : List Bits
  strings = map key_bits list.lines

  few_extents : length (extents_of strings) ≤ 4194304
  few_extents =
      let few = few_lines list.limits list.lines are.limits are.faultless in
      let count = length-map list.lines key_bits in
      let extents = length-extents_of strings (key_list_bits list are) in
      omega arith

  pub few_left : length (left_counts (map key_bits list.lines)) ≤ 4194304
  few_left = let e = left_length strings in let f = few_extents in omega arith

  pub few_skips : length (skips (map key_bits list.lines)) ≤ 4194304
  few_skips = let e = skip_length strings in let f = few_extents in omega arith

-- ---- sums

pub length-sums : (s : ℕ) (xs : List ℕ) → length (sums_from s xs) ≡ suc (length xs)
length-sums s [] = refl
length-sums s (x ∷ xs) = ap suc (length-sums (s + x) xs)

pub sums_rise : (s : ℕ) (xs : List ℕ) (i : ℕ) → i + 1 < length (sums_from s xs) → get_or (sums_from s xs) i 0 ≤ get_or (sums_from s xs) (i + 1) 0
sums_rise s [] i within = absurd (omega arith)
sums_rise s (x ∷ []) zero within = omega arith
sums_rise s (x ∷ y ∷ xs) zero within = omega arith
sums_rise s (x ∷ xs) (suc i) within =
    let e : suc i + 1 ≡ suc (i + 1) = omega arith in
    subst (λ n. get_or (sums_from (s + x) xs) i 0 ≤ get_or (s ∷ sums_from (s + x) xs) n 0) (sym e) (sums_rise (s + x) xs i (omega arith))

-- the sums of few numbers of 32 bits have 64 bits
pub sums_fit : (numbers : List ℕ) → length numbers ≤ 4194304 → ((i : ℕ) → get_or numbers i 0 < 2 ^ 32) → below_of (sums_from 0 numbers) < 2 ^ 64
sums_fit numbers few small = sums_below numbers (omega arith) (λ x i. let less = each_small (2 ^ 32) numbers small x i in omega arith)

-- a section of sums has few words
section_few : (numbers : List ℕ) → length numbers ≤ 4194304 → Each (λ x. x ≤ 2 ^ 32) numbers → length (section_words (sums_list numbers)) ≤ 2 ^ 24 + 2
section_few numbers few each =
    let items = sums_from 0 numbers in
    let count = length-sums 0 numbers in
    let small = sums_below numbers (omega arith) each in
    let l = low_width (length items) (below_of items) in
    let narrow = width_le (length items) (below_of items) (omega arith) small in
    let lows : length (low_words items) ≡ words_for (length items * l) =
    packed_fields_are_read_back.words l (map (λ x. x % 2 ^ l) items) ∙ ap (λ n. words_for (n * l)) (length-map items (λ x. x % 2 ^ l)) in
    let low = words_le (length items) l (omega arith) in
    let u = upper_bits (length items) (below_of items) in
    let highs : length (upper_words items) ≡ words_for u = length-lowest_digits (2 ^ 64) (words_for u) (sum_by (λ (p : ℕ × ℕ). 2 ^ (p.1 / 2 ^ l + p.0)) (enumerate_from 0 items)) in
    let upper = upper_few (length items) (below_of items) (omega arith) (omega arith) in
    let both = length-append (low_words items) (upper_words items) in
    omega arith

-- ---- sections

pub held_few : (numbers : List ℕ) (s : SectionBuf) → section_built s ≡ sums_list numbers → IsWhole s → length numbers ≤ 4194304 → Each (λ x. x ≤ 2 ^ 32) numbers → length (held_words s) ≤ 2 ^ 24 + 2
held_few numbers s built whole few each =
    let same : length (held_words s) ≡ length (section_words (sums_list numbers)) = ap (λ (ws : List ℕ). length ws) (section_laid s whole ∙ ap section_words built) in
    let less = section_few numbers few each in
    omega arith

pub hollow_laid : (list : Keys) → IsKeyList list → (left skip : SectionBuf) → section_built left ≡ sums_list (left_counts (map key_bits list.lines)) → IsWhole left
    → section_built skip ≡ sums_list (skips (map key_bits list.lines)) → IsWhole skip → AreHollow list.lines (left ∷ skip ∷ [])
hollow_laid list are left skip left_built left_whole skip_built skip_whole =
    let keys = map key_bits list.lines in
    let short = keys_short list are in
    let few = few_lines list.limits list.lines are.limits are.faultless in
    let count = length-map list.lines key_bits in
    let words = few_words (left ∷ skip ∷ []) (
      held_few (left_counts keys) left left_built left_whole (few_left list are) (left_small keys (omega arith) short),
      (held_few (skips keys) skip skip_built skip_whole (few_skips list are) (skip_small keys short), tt),
    ) in
    record {
      built = λ i. left_built i ∷ skip_built i ∷ [];
      whole = (left_whole, (skip_whole, tt));
      few = omega arith;
    }

module _ (plan : Plan) (lines : List Text) (seed : ℕ) (is : IsHollowPlan plan) where
  abbrev keys : List Bits
  keys = map key_bits lines

  -- there are no parts
  hollow_parts_are : (width : ℕ) (values : List ℕ) → parts_of plan width lines values ≡ []
  hollow_parts_are width values = ap (λ (k : Kind). kind_parts k (block_size plan.log_bucket) width keys values) is.kind

  pub hollow_parts_same : (width width' : ℕ) (values values' : List ℕ) → parts_of plan width lines values ≡ parts_of plan width' lines values'
  hollow_parts_same width width' values values' = hollow_parts_are width values ∙ sym (hollow_parts_are width' values')

  hollow_done : (sections : List SectionBuf) → AreHollow lines sections → AreKindSections Hollow plan lines seed (parts_of plan 0 lines []) sections
  hollow_done sections are =
      let all : AreKindSections Hollow plan lines seed [] sections = record {
        functions = [];
        done = tt;
        built = are.built;
        whole = are.whole;
        few = are.few;
        cells = tt;
      } in
      subst (λ (ps : List Part). AreKindSections Hollow plan lines seed ps sections) (sym (hollow_parts_are 0 [])) all

  hollow_header : length lines ≤ 4194304 → IsHeader (header_for plan lines seed)
  hollow_header few =
      let buckets = is.buckets in
      let signed = is.signed in
      let handles = is.handles in
      record {
        method = λ e. is.method;
        keys = omega arith;
        sig_bits = is.bits;
        log_bucket = omega arith;
        blocks = λ e. buckets;
        signed = omega arith;
        handle_bits = omega arith;
        handles = λ e. handles;
      }

-- what a hollow trie is built from
pub hollow_sources : (plan : Plan) (list : Keys) (seed : ℕ) → IsHollowPlan plan → IsKeyList list → seed < 2 ^ 64 → AreSources list.lines (plain_values (length list.lines)) seed plan
hollow_sources plan list seed is are small =
    record {
      limits = list.limits;
      standard = are.limits;
      faultless = are.faultless;
      bytes = are.bytes;
      as_many = length-range_with_len 0 (length list.lines);
      seed_small = small;
      plain = λ signed. refl;
      header = hollow_header plan list.lines seed is (few_lines list.limits list.lines are.limits are.faultless);
    }

-- all sections of its dump, signed or not
pub hollow_whole : (plan : Plan) (list : Keys) (seed : ℕ) → IsHollowPlan plan → IsKeyList list → (own sections : List SectionBuf) → AreHollow list.lines own → AreSigned plan.signed (map (key_signature seed plan.sig_bits) list.lines) own sections
    → AreSectionsOf plan list.lines seed (parts_of plan 0 list.lines []) sections
hollow_whole plan list seed is are own sections hollow signed =
    all_sections Hollow plan list.lines seed (parts_of plan 0 list.lines []) is.kind own sections (hollow_done plan list.lines seed is own hollow)
    (few_lines list.limits list.lines are.limits are.faultless) is.signed (map (key_signature seed plan.sig_bits) list.lines) refl signed

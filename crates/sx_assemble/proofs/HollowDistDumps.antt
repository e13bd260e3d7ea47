-- Dumps of distributors by the hollow trie of delimiters: the delimiters, the pairs of turns, the parts and the sections.
use Rattle.std.proofs.Common.{◌≡◌, ℕ, ◌+◌, ◌-◌, ◌*◌, ◌^◌, ◌<◌, ◌≤◌, List, [], ◌∷◌, length, map, Vec, Global, Result, Ok, Err, IfOk, refl, sym, ap, subst, ◌∙◌, arith}
use Rattle.std.specs.Prelude.{flat_map, zip}
use Rattle.std.specs.Int.{div_ceil}
use Rattle.std.specs.List.{range_with_len, slice_index_or}
use Rattle.std.proofs.lemmas.Grind.{div_ceil_times, flat_map-append}
use Rattle.std.proofs.Math.Nat.{div-eq_of_lt-le}
use Rattle.std.proofs.lemmas.List.{append-nil, get_or-map, length-append, length-map}
use Rattle.std.proofs.lemmas.List.FromFn.{fill_by_all, get_or-map-range_with_len, length-map-range_with_len}
use Rattle.std.proofs.Math.Pow.{pow_pos}
use Rattle.sx_spec_strings.specs.Bits.{Bits, key_bits}
use Rattle.sx_spec_kinds.specs.declared.Kind.{Kind}
use Rattle.sx_spec_kinds.specs.declared.Kind.TheVariants.{HollowDist}
use Rattle.sx_spec_kinds.specs.Blocks.{block_count, block_size, delimiters_of}
use Rattle.sx_spec_kinds.specs.Hollow.{left_counts, skips}
use Rattle.sx_spec_kinds.specs.Pairs.{offsets_pairs, turns_pairs}
use Rattle.sx_spec_kinds.proofs.BlockLaws.{delimiters_are_keys}
use Rattle.sx_spec_kinds.proofs.LcpLaws.{block_inside}
use Rattle.sx_spec_kinds.proofs.TrieLaws.{length-extents_of}
use Rattle.sx_spec.specs.declared.Plan.{Plan}
use Rattle.sx_spec.specs.declared.Signature.{Signature}
use Rattle.sx_spec.specs.Built.{sums_list}
use Rattle.sx_spec.specs.Command.{Text}
use Rattle.sx_spec.specs.Layout.{function_section}
use Rattle.sx_spec.specs.Parts.{kind_parts, least_part, parts_of}
use Rattle.sx_spec.specs.Signature.{signature}
use Rattle.sx_spec.specs.StaticFunction.{Part, part_entries}
use Rattle.sx_spec.proofs.Bounds.{delimiters_short}
use Rattle.sx_spec.proofs.BuiltWords.{left_small, skip_small}
use Rattle.sx_spec.proofs.Members.{few_blocks, few_offsets, few_turns, length-delimiters}
use Rattle.sx_bits.specs.KeyLists.{IsKeyList, Keys}
use Rattle.sx_bits.proofs.KeyListBits.{key_list_bits}
use Rattle.sx_static.specs.declared.FuncBuf.{FuncBuf}
use Rattle.sx_static.specs.Answer.{function_of}
use Rattle.sx_trie.specs.Tries.{AreRising, delimiter_bits}
use Rattle.sx_pairs.specs.declared.turn.NodePair.{NodePair}
use Rattle.sx_pairs.specs.Pairs.{string_turn, turn_number}
use Rattle.sx_parts.specs.declared.layout.SectionBuf.{SectionBuf}
use Rattle.sx_parts.specs.declared.layout.SectionBuf.TheVariants.{Function}
use Rattle.sx_parts.specs.declared.parts.Stop.{Stop}
use Rattle.sx_parts.specs.Ranking.{ArePairs, IsBlockPlan}
use Rattle.sx_parts.specs.Sectioning.{AreKindSections, IsPartDone, IsWhole, StopsPart, StopsParts, held_words, piece_signature, section_built}
use Rattle.sx_parts.proofs.BuiltDumps.{few_lines}
use Rattle.sx_assemble.proofs.HollowDumps.{held_few, left_length, skip_length}
use Rattle.sx_parts.proofs.KeySizes.{keys_short}
use Rattle.sx_parts.proofs.Layouts.{few_words}
use Rattle.sx_assemble.proofs.LcpDumps.{entry_count}
use Rattle.sx_parts.proofs.PartLists.{cells_counted, function_few, stops_at, twice_cells, twice_words, whole}

-- ---- delimiters

-- the numbers of the last keys of so many blocks of b keys
abbrev pub last_numbers : (b blocks : ℕ) → List ℕ
last_numbers b blocks = map (λ j. j * b + b - 1) (range_with_len 0 blocks)

-- how many blocks there are
pub ceil_is_count : (b n : ℕ) → 0 < b → div_ceil n b ≡ block_count b n
ceil_is_count b n some =
    let times = div_ceil_times n b some in
    let low = times.0 in
    let high = times.1 in
    sym (div-eq_of_lt-le b (omega arith) (omega arith))

-- the last key of block j, which isn't the last block, is one of the keys
pub last_inside : (b n j : ℕ) → 0 < b → j < block_count b n - 1 → j * b + b - 1 < n
last_inside b n j some less = let h = block_inside b n (j + 1) some (omega arith) in omega arith

pub last_rise : (b : ℕ) (lines : List Text) → 0 < b → AreRising lines (last_numbers b (block_count b (length lines) - 1))
last_rise b lines some =
    let n = length lines in
    let blocks = block_count b n - 1 in
    let last : ℕ → ℕ = λ (j : ℕ). j * b + b - 1 in
    let size = length-map-range_with_len last 0 blocks in
    record {
      inside = λ i within.
          let at = get_or-map-range_with_len last 0 blocks i i 0 (omega arith) (omega arith) in
          let less = last_inside b n i some (omega arith) in
          omega arith;
      rising = λ i within.
          let at = get_or-map-range_with_len last 0 blocks i i 0 (omega arith) (omega arith) in
          let next = get_or-map-range_with_len last 0 blocks (i + 1) (i + 1) 0 (omega arith) (omega arith) in
          omega arith;
    }

pub last_bits : (b : ℕ) (lines : List Text) → 0 < b → delimiter_bits lines (last_numbers b (block_count b (length lines) - 1)) ≡ delimiters_of b (map key_bits lines)
unfolding delimiters_of
last_bits b lines some =
    let n = length lines in
    let blocks = block_count b n - 1 in
    let keys = map key_bits lines in
    let last : ℕ → ℕ = λ (j : ℕ). j * b + b - 1 in
    let bits : ℕ → Bits = λ (i : ℕ). key_bits (slice_index_or lines i []) in
    let size = length-map-range_with_len last 0 blocks in
    fill_by_all (λ (j : ℕ). slice_index_or keys (j * b + b - 1) []) (delimiter_bits lines (last_numbers b blocks)) blocks [] (length-map (last_numbers b blocks) bits ∙ size)
    (λ k below.
    get_or-map bits (last_numbers b blocks) k 0 [] (omega arith)
    ∙ ap bits (get_or-map-range_with_len last 0 blocks k k 0 below (omega arith))
    ∙ sym (get_or-map key_bits lines (last k) [] [] (last_inside b n k some below)))
    ∙ ap (λ (m : ℕ). map (λ (j : ℕ). slice_index_or keys (j * b + b - 1) []) (range_with_len 0 (block_count b m - 1))) (sym (length-map lines key_bits))

-- ---- turns

turns_entries : (kept seed : ℕ) (lines : List Text) (ps : List NodePair)
    → zip (map (λ (p : NodePair). piece_signature seed kept lines p.piece) ps) (map (λ (p : NodePair). turn_number p.turn) ps) ≡ map (λ (q : Bits × ℕ). (signature seed kept q.0, q.1)) (map (string_turn lines) ps)
turns_entries kept seed lines [] = refl
turns_entries kept seed lines (p ∷ ps) = ap (λ l. (piece_signature seed kept lines p.piece, turn_number p.turn) ∷ l) (turns_entries kept seed lines ps)

turns_numbers : (lines : List Text) (ps : List NodePair) → map (λ (p : NodePair). turn_number p.turn) ps ≡ map (λ (q : Bits × ℕ). q.1) (map (string_turn lines) ps)
turns_numbers lines [] = refl
turns_numbers lines (p ∷ ps) = ap (λ l. turn_number p.turn ∷ l) (turns_numbers lines ps)

-- the signatures and the numbers of the pairs of the trie of delimiters
pub turns_are : (kept seed : ℕ) (lines : List Text) (ds : List Bits) (ps : List NodePair) (sigs : List Signature) (numbers : List ℕ) → map (string_turn lines) ps ≡ turns_pairs (map key_bits lines) ds
    → sigs ≡ map (λ (p : NodePair). piece_signature seed kept lines p.piece) ps → numbers ≡ map (λ (p : NodePair). turn_number p.turn) ps → ArePairs kept seed (turns_pairs (map key_bits lines) ds) sigs numbers
turns_are kept seed lines ds ps sigs numbers strings signed numbered = record {
  entries = (λ i. zip (signed i) (numbered i)) ∙ turns_entries kept seed lines ps ∙ ap (map (λ (q : Bits × ℕ). (signature seed kept q.0, q.1))) strings;
  numbers = numbered ∙ turns_numbers lines ps ∙ ap (map (λ (q : Bits × ℕ). q.1)) strings;
}

-- no more pairs than these
pub few_pairs : {E : Type 0} (r : Result (Vec NodePair Global) E) (n : ℕ) → n ≤ 8388608 → IfOk r (λ ps. length ps.items ≤ n) → IfOk r (λ ps. length ps.items ≤ 8388608)
few_pairs (Err e) n most few = tt
few_pairs (Ok ps) n most few = omega arith

-- ---- parts

abbrev pub offsets_part : Plan → List Text → Part
offsets_part plan lines = least_part (offsets_pairs (block_size plan.log_bucket) (map key_bits lines))

abbrev pub turns_part : Plan → List Text → Part
turns_part plan lines = least_part (turns_pairs (map key_bits lines) (delimiters_of (block_size plan.log_bucket) (map key_bits lines)))

module _ (plan : Plan) (lines : List Text) (seed : ℕ) (is : IsBlockPlan HollowDist plan) where
  abbrev all : List Part
  all = offsets_part plan lines ∷ turns_part plan lines ∷ []

  pub dist_parts_are : (width : ℕ) (values : List ℕ) → parts_of plan width lines values ≡ offsets_part plan lines ∷ turns_part plan lines ∷ []
  dist_parts_are width values = ap (λ (k : Kind). kind_parts k (block_size plan.log_bucket) width (map key_bits lines) values) is.kind

  pub dist_parts_same : (width width' : ℕ) (values values' : List ℕ) → parts_of plan width lines values ≡ parts_of plan width' lines values'
  dist_parts_same width width' values values' = dist_parts_are width values ∙ sym (dist_parts_are width' values')

  -- the parts before have functions, and this one has none
  pub dist_stops_first : (stop : Stop) → StopsPart 0 plan.method (part_entries plan.sig_bits seed (offsets_part plan lines)) stop → StopsParts plan seed (parts_of plan 0 lines []) stop
  dist_stops_first stop stops =
      subst (λ (ps : List Part). StopsParts plan seed ps stop) (sym (dist_parts_are 0 []))
      (stops_at plan seed all [] 0 (offsets_part plan lines) stop tt refl stops)

  pub dist_stops_second : (f : FuncBuf) (stop : Stop) → IsPartDone plan seed (offsets_part plan lines) f → StopsPart 1 plan.method (part_entries plan.sig_bits seed (turns_part plan lines)) stop → StopsParts plan seed (parts_of plan 0 lines []) stop
  dist_stops_second f stop done stops =
      subst (λ (ps : List Part). StopsParts plan seed ps stop) (sym (dist_parts_are 0 []))
      (stops_at plan seed all (f ∷ []) 1 (turns_part plan lines) stop (done, tt) refl stops)

-- ---- sections

module _ (plan : Plan) (list : Keys) (seed : ℕ) (is : IsBlockPlan HollowDist plan) (are : IsKeyList list) where
  abbrev b : ℕ
  b = block_size plan.log_bucket

  abbrev keys : List Bits
  keys = map key_bits list.lines

  abbrev ds : List Bits
  ds = delimiters_of b keys

  some : 0 < b
  some = pow_pos plan.log_bucket

  few_keys : length keys ≤ 4194304
  few_keys = let few = few_lines list.limits list.lines are.limits are.faultless in let count = length-map list.lines key_bits in omega arith

  few_delimiters : length ds ≤ 4194304
  few_delimiters = let few = few_keys in let count = length-delimiters b some keys in let blocks = few_blocks b some keys in omega arith

  few_lists : (length (left_counts ds) ≤ 4194304) × (length (skips ds) ≤ 4194304)
  few_lists =
      let few = few_delimiters in
      let extents = length-extents_of ds (delimiters_are_keys b keys some (key_list_bits list are)) in
      let left = left_length ds in
      let skip = skip_length ds in
      (omega arith, omega arith)

  -- how many words the sums have
  module _ (left skip : SectionBuf) (left_built : section_built left ≡ sums_list (left_counts (delimiters_of (block_size plan.log_bucket) (map key_bits list.lines)))) (left_whole : IsWhole left)
      (skip_built : section_built skip ≡ sums_list (skips (delimiters_of (block_size plan.log_bucket) (map key_bits list.lines)))) (skip_whole : IsWhole skip) where
    sums_few : (length (held_words left) ≤ 2 ^ 24 + 2) × (length (held_words skip) ≤ 2 ^ 24 + 2)
    sums_few =
        let short = delimiters_short b some keys (2 ^ 16) (keys_short list are) in
        let few = few_delimiters in
        let (lefts, skipped) = few_lists in (
          held_few (left_counts ds) left left_built left_whole lefts (left_small ds (omega arith) short),
          held_few (skips ds) skip skip_built skip_whole skipped (skip_small ds short),
        )

    -- a function for each part, and the sums between
    pub dist_done : (offsets turns : FuncBuf) → IsPartDone plan seed (offsets_part plan list.lines) offsets → offsets.width ≤ 64 → IsPartDone plan seed (turns_part plan list.lines) turns → turns.width ≤ 64
        → AreKindSections HollowDist plan list.lines seed (parts_of plan 0 list.lines []) (Function offsets ∷ left ∷ skip ∷ Function turns ∷ [])
    dist_done offsets turns offsets_done offsets_narrow turns_done turns_narrow =
        let first = offsets_part plan list.lines in
        let second = turns_part plan list.lines in
        let first_entries = part_entries plan.sig_bits seed first in
        let second_entries = part_entries plan.sig_bits seed second in
        let first_thin : first.width ≤ 64 = subst (λ (w : ℕ). w ≤ 64) offsets_done.built.width offsets_narrow in
        let second_thin : second.width ≤ 64 = subst (λ (w : ℕ). w ≤ 64) turns_done.built.width turns_narrow in
        let count = few_keys in
        let first_few : length first_entries ≤ 4194304 = let e = entry_count plan.sig_bits seed first in let f = few_offsets b some keys in omega arith in
        let second_few : length second_entries ≤ 8388608 = let e = entry_count plan.sig_bits seed second in let f = few_turns b some keys (key_list_bits list are) in omega arith in
        let (left_few, skip_few) = sums_few in
        let before : List SectionBuf = Function offsets ∷ left ∷ skip ∷ [] in
        let sections : List SectionBuf = Function offsets ∷ left ∷ skip ∷ Function turns ∷ [] in
        let words = few_words before (function_few plan.method first.width first_entries offsets offsets_done first_few first_thin, (left_few, (skip_few, tt))) in
        let last = twice_words plan.method second.width second_entries turns turns_done second_few second_thin in
        let alone : length (flat_map held_words (Function turns ∷ [])) ≡ length (held_words (Function turns)) = ap (λ (l : List ℕ). length l) (append-nil (held_words (Function turns))) in
        let both : length (flat_map held_words sections) ≡ length (flat_map held_words before) + length (flat_map held_words (Function turns ∷ [])) =
        ap (λ (l : List ℕ). length l) (flat_map-append held_words before (Function turns ∷ [])) ∙ length-append (flat_map held_words before) (flat_map held_words (Function turns ∷ [])) in
        let own : AreKindSections HollowDist plan list.lines seed (first ∷ second ∷ []) sections = record {
          functions = offsets ∷ turns ∷ [];
          done = (offsets_done, (turns_done, tt));
          built = λ i. function_section (function_of offsets) ∷ left_built i ∷ skip_built i ∷ function_section (function_of turns) ∷ [];
          whole = (whole plan.method first.width first_entries offsets offsets_done, (left_whole, (skip_whole, (whole plan.method second.width second_entries turns turns_done, tt))));
          few = omega arith;
          cells = (cells_counted plan.method first.width first_entries offsets offsets_done first_few, (twice_cells plan.method second.width second_entries turns turns_done second_few, tt));
        } in
        subst (λ (ps : List Part). AreKindSections HollowDist plan list.lines seed ps sections) (sym (dist_parts_are plan list.lines seed is 0 [])) own

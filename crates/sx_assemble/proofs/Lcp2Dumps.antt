-- Dumps of distributors whose lengths have two-step codes: their parts and their sections.
use Rattle.std.proofs.Common.{◌≡◌, ℕ, ◌+◌, ◌^◌, ◌<◌, ◌≤◌, List, [], ◌∷◌, Result, MatchResult, length, map, refl, sym, ap, subst, ◌∙◌, arith}
use Rattle.std.specs.List.{slice_index}
use Rattle.std.proofs.lemmas.List.{length-map}
use Rattle.std.proofs.Math.Pow.{pow_pos}
use Rattle.sx_spec_strings.specs.Bits.{Bits, key_bits}
use Rattle.sx_spec_kinds.specs.declared.Kind.{Kind}
use Rattle.sx_spec_kinds.specs.declared.Kind.TheVariants.{Lcp2}
use Rattle.sx_spec_kinds.specs.Blocks.{block_size}
use Rattle.sx_spec_kinds.specs.Lcp.{prefix_lens}
use Rattle.sx_spec_kinds.specs.Pairs.{escaped_pairs, offsets_pairs, prefixes_pairs}
use Rattle.sx_spec_kinds.specs.TwoStep.{TwoStep, two_step_of, width_of}
use Rattle.sx_spec.specs.declared.Plan.{Plan}
use Rattle.sx_spec.specs.declared.Signature.{Signature}
use Rattle.sx_spec.specs.Command.{Text}
use Rattle.sx_spec.specs.Layout.{function_section, list_section}
use Rattle.sx_spec.specs.Parts.{kind_parts, least_part, least_width, parts_of, two_step_part}
use Rattle.sx_spec.specs.StaticFunction.{Entry, Part, part_entries}
use Rattle.sx_spec.proofs.Members.{few_offsets, few_codes, few_escaped, few_prefixes}
use Rattle.sx_bits.specs.KeyLists.{IsKeyList, Keys}
use Rattle.sx_fields.specs.Numbers.{Numbers as NumberList}
use Rattle.sx_static.specs.declared.FuncBuf.{FuncBuf}
use Rattle.sx_static.specs.Answer.{IsDone, entries_of, function_of}
use Rattle.sx_parts.specs.declared.layout.SectionBuf.TheVariants.{Function, Numbers}
use Rattle.sx_parts.specs.declared.parts.Stop.{Stop}
use Rattle.sx_parts.specs.Assembling.{key_signature, tries}
use Rattle.sx_parts.specs.Ranking.{IsBlockPlan, signature_at}
use Rattle.sx_parts.specs.Sectioning.{AreKindSections, IsPartDone, StopsPart, StopsParts, held_words}
use Rattle.sx_assemble.proofs.CodePairs.{codes_are, escaped_are, lens_count}
use Rattle.sx_parts.proofs.KeyPairs.{least_of}
use Rattle.sx_parts.proofs.KeySizes.{codes_narrow, lens_narrow}
use Rattle.sx_parts.proofs.Layouts.{few_words, list_few}
use Rattle.sx_assemble.proofs.LcpDumps.{entry_count}
use Rattle.sx_parts.proofs.PartLists.{cells_counted, function_few, stops_at, whole}

-- the parts of a plan, by themselves
abbrev pub offsets_part : Plan → List Text → Part
offsets_part plan lines = least_part (offsets_pairs (block_size plan.log_bucket) (map key_bits lines))

abbrev pub codes_part : Plan → List Text → Part
codes_part plan lines = two_step_part (block_size plan.log_bucket) (map key_bits lines)

abbrev pub escaped_part : Plan → List Text → Part
escaped_part plan lines = least_part (escaped_pairs (block_size plan.log_bucket) (map key_bits lines))

abbrev pub prefixes_part : Plan → List Text → Part
prefixes_part plan lines = least_part (prefixes_pairs (block_size plan.log_bucket) (map key_bits lines))

module _ (plan : Plan) (lines : List Text) (seed : ℕ) (is : IsBlockPlan Lcp2 plan) where
  abbrev b : ℕ
  b = block_size plan.log_bucket

  abbrev keys : List Bits
  keys = map key_bits lines

  abbrev all : List Part
  all = offsets_part plan lines ∷ codes_part plan lines ∷ escaped_part plan lines ∷ prefixes_part plan lines ∷ []

  lcp2_parts_are : (width : ℕ) (values : List ℕ) → parts_of plan width lines values ≡ all
  lcp2_parts_are width values = ap (λ (k : Kind). kind_parts k b width keys values) is.kind

  pub lcp2_parts_same : (width width' : ℕ) (values values' : List ℕ) → parts_of plan width lines values ≡ parts_of plan width' lines values'
  lcp2_parts_same width width' values values' = lcp2_parts_are width values ∙ sym (lcp2_parts_are width' values')

  -- the parts before have functions, and this one has none
  pub lcp2_stops_first : (stop : Stop) → StopsPart 0 plan.method (part_entries plan.sig_bits seed (offsets_part plan lines)) stop → StopsParts plan seed (parts_of plan 0 lines []) stop
  lcp2_stops_first stop stops = subst (λ (ps : List Part). StopsParts plan seed ps stop) (sym (lcp2_parts_are 0 [])) (stops_at plan seed all [] 0 (offsets_part plan lines) stop tt refl stops)

  module _ (offsets : FuncBuf) (offsets_done : IsPartDone plan seed (offsets_part plan lines) offsets) where
    pub lcp2_stops_second : (stop : Stop) → StopsPart 1 plan.method (part_entries plan.sig_bits seed (codes_part plan lines)) stop → StopsParts plan seed (parts_of plan 0 lines []) stop
    lcp2_stops_second stop stops = subst (λ (ps : List Part). StopsParts plan seed ps stop) (sym (lcp2_parts_are 0 [])) (stops_at plan seed all (offsets ∷ []) 1 (codes_part plan lines) stop (offsets_done, tt) refl stops)

    module _ (codes : FuncBuf) (codes_done : IsPartDone plan seed (codes_part plan lines) codes) where
      pub lcp2_stops_third : (stop : Stop) → StopsPart 2 plan.method (part_entries plan.sig_bits seed (escaped_part plan lines)) stop → StopsParts plan seed (parts_of plan 0 lines []) stop
      lcp2_stops_third stop stops = subst (λ (ps : List Part). StopsParts plan seed ps stop) (sym (lcp2_parts_are 0 [])) (stops_at plan seed all (offsets ∷ codes ∷ []) 2 (escaped_part plan lines) stop (offsets_done, (codes_done, tt)) refl stops)

      module _ (escaped : FuncBuf) (escaped_done : IsPartDone plan seed (escaped_part plan lines) escaped) where
        pub lcp2_stops_fourth : (stop : Stop) → StopsPart 3 plan.method (part_entries plan.sig_bits seed (prefixes_part plan lines)) stop → StopsParts plan seed (parts_of plan 0 lines []) stop
        lcp2_stops_fourth stop stops =
            subst (λ (ps : List Part). StopsParts plan seed ps stop) (sym (lcp2_parts_are 0 []))
            (stops_at plan seed all (offsets ∷ codes ∷ escaped ∷ []) 3 (prefixes_part plan lines) stop (offsets_done, (codes_done, (escaped_done, tt))) refl stops)

        -- a function for each part, and the table between
        pub lcp2_done : (prefixes : FuncBuf) (table : NumberList) → IsPartDone plan seed (prefixes_part plan lines) prefixes → length lines ≤ 4194304 → (offsets_part plan lines).width ≤ 64 → (codes_part plan lines).width ≤ 64 → escaped.width ≤ 64 → prefixes.width ≤ 64
            → table.width ≡ width_of (prefix_lens (block_size plan.log_bucket) (map key_bits lines)) → table.items ≡ (two_step_of (prefix_lens (block_size plan.log_bucket) (map key_bits lines))).table → table.width ≤ 64 → length table.items ≤ 2 ^ 24
            → AreKindSections Lcp2 plan lines seed (parts_of plan 0 lines []) (Function offsets ∷ Function codes ∷ Numbers table ∷ Function escaped ∷ Function prefixes ∷ [])
        lcp2_done prefixes table prefixes_done few offsets_narrow codes_narrow escaped_narrow prefixes_narrow wide listed narrow short =
            let count = length-map lines key_bits in
            let some : 0 < b = pow_pos plan.log_bucket in
            let entries : Part → List _ = λ (p : Part). part_entries plan.sig_bits seed p in
            let few_0 : length (entries (offsets_part plan lines)) ≤ 4194304 = let e = entry_count plan.sig_bits seed (offsets_part plan lines) in let f = few_offsets b some keys in omega arith in
            let few_1 : length (entries (codes_part plan lines)) ≤ 4194304 = let e = entry_count plan.sig_bits seed (codes_part plan lines) in let f = few_codes b some keys in omega arith in
            let few_2 : length (entries (escaped_part plan lines)) ≤ 4194304 = let e = entry_count plan.sig_bits seed (escaped_part plan lines) in let f = few_escaped b some keys in omega arith in
            let few_3 : length (entries (prefixes_part plan lines)) ≤ 4194304 = let e = entry_count plan.sig_bits seed (prefixes_part plan lines) in let f = few_prefixes b some keys in omega arith in
            let sections = Function offsets ∷ Function codes ∷ Numbers table ∷ Function escaped ∷ Function prefixes ∷ [] in
            let list : length (held_words (Numbers table)) ≤ 2 ^ 24 + 2 = let l = list_few table narrow in omega arith in
            let words = few_words sections (
              function_few plan.method (offsets_part plan lines).width (entries (offsets_part plan lines)) offsets offsets_done few_0 offsets_narrow,
              (
                function_few plan.method (codes_part plan lines).width (entries (codes_part plan lines)) codes codes_done few_1 codes_narrow,
                (
                  list,
                  (
                    function_few plan.method (escaped_part plan lines).width (entries (escaped_part plan lines)) escaped escaped_done few_2 (subst (λ (w : ℕ). w ≤ 64) escaped_done.built.width escaped_narrow),
                    (function_few plan.method (prefixes_part plan lines).width (entries (prefixes_part plan lines)) prefixes prefixes_done few_3 (subst (λ (w : ℕ). w ≤ 64) prefixes_done.built.width prefixes_narrow), tt),
                  ),
                ),
              ),
            ) in
            let are : AreKindSections Lcp2 plan lines seed all sections = record {
              functions = offsets ∷ codes ∷ escaped ∷ prefixes ∷ [];
              done = (offsets_done, (codes_done, (escaped_done, (prefixes_done, tt))));
              built = λ i. function_section (function_of offsets) ∷ function_section (function_of codes) ∷ list_section (wide i) (listed i) ∷ function_section (function_of escaped) ∷ function_section (function_of prefixes) ∷ [];
              whole = (
                whole plan.method (offsets_part plan lines).width (entries (offsets_part plan lines)) offsets offsets_done,
                (
                  whole plan.method (codes_part plan lines).width (entries (codes_part plan lines)) codes codes_done,
                  (
                    tt,
                    (
                      whole plan.method (escaped_part plan lines).width (entries (escaped_part plan lines)) escaped escaped_done,
                      (whole plan.method (prefixes_part plan lines).width (entries (prefixes_part plan lines)) prefixes prefixes_done, tt),
                    ),
                  ),
                ),
              );
              few = omega arith;
              cells = (
                cells_counted plan.method (offsets_part plan lines).width (entries (offsets_part plan lines)) offsets offsets_done few_0,
                (
                  cells_counted plan.method (codes_part plan lines).width (entries (codes_part plan lines)) codes codes_done few_1,
                  (
                    cells_counted plan.method (escaped_part plan lines).width (entries (escaped_part plan lines)) escaped escaped_done few_2,
                    (cells_counted plan.method (prefixes_part plan lines).width (entries (prefixes_part plan lines)) prefixes prefixes_done few_3, tt),
                  ),
                ),
              );
            } in
            subst (λ (ps : List Part). AreKindSections Lcp2 plan lines seed ps sections) (sym (lcp2_parts_are 0 [])) are

-- ---- as the code builds it

-- the parts of two steps over the same signatures, with what is known of each
module _ (plan : Plan) (list : Keys) (seed : ℕ) (sigs : List Signature) (lens : List ℕ) (t : TwoStep) (signed : sigs ≡ map (key_signature seed plan.sig_bits) list.lines) (lengths : lens ≡ prefix_lens (block_size plan.log_bucket) (map key_bits list.lines)) (two : t ≡ two_step_of lens) where
  abbrev whole_lens : List ℕ
  whole_lens = prefix_lens (block_size plan.log_bucket) (map key_bits list.lines)

  two_of_keys : t ≡ two_step_of whole_lens
  two_of_keys = two ∙ ap two_step_of lengths

  pub sigs_count : length sigs ≡ length list.lines
  sigs_count = ap (λ (l : List Signature). length l) signed ∙ length-map list.lines (key_signature seed plan.sig_bits)

  pub lens_many : length lens ≡ length list.lines
  lens_many = ap (λ (l : List ℕ). length l) lengths ∙ lens_count (block_size plan.log_bucket) (map key_bits list.lines) ∙ length-map list.lines key_bits

  -- what was built for the codes is the part of the codes
  pub codes_of_keys : (r : Result FuncBuf Stop) → MatchResult r (IsDone plan.method tries t.bits (entries_of sigs t.codes)) (StopsPart 1 plan.method (entries_of sigs t.codes))
      → MatchResult r (IsPartDone plan seed (codes_part plan list.lines)) (StopsPart 1 plan.method (part_entries plan.sig_bits seed (codes_part plan list.lines)))
  codes_of_keys r is =
      let part = codes_part plan list.lines in
      let codes = codes_are plan.sig_bits seed list.lines (block_size plan.log_bucket) sigs t.codes signed (ap (λ (u : TwoStep). u.codes) two_of_keys) in
      let bits : t.bits ≡ part.width = ap (λ (u : TwoStep). u.bits) two_of_keys in
      let wide = subst (λ (w : ℕ). MatchResult r (IsDone plan.method tries w (entries_of sigs t.codes)) (StopsPart 1 plan.method (entries_of sigs t.codes))) bits is in
      subst (λ (es : List Entry). MatchResult r (IsDone plan.method tries part.width es) (StopsPart 1 plan.method es)) codes wide

  -- what was built for the escaped keys is the part of these
  pub escaped_of_keys : (r : Result FuncBuf Stop)
      → MatchResult r (IsDone plan.method tries (least_width (map (λ i. slice_index lens i) t.escaped)) (entries_of (map (signature_at sigs) t.escaped) (map (λ i. slice_index lens i) t.escaped)))
      (StopsPart 2 plan.method (entries_of (map (signature_at sigs) t.escaped) (map (λ i. slice_index lens i) t.escaped)))
      → MatchResult r (IsPartDone plan seed (escaped_part plan list.lines)) (StopsPart 2 plan.method (part_entries plan.sig_bits seed (escaped_part plan list.lines)))
  escaped_of_keys r is =
      least_of plan seed 2 (escaped_pairs (block_size plan.log_bucket) (map key_bits list.lines)) (map (signature_at sigs) t.escaped) (map (λ i. slice_index lens i) t.escaped)
      (escaped_are plan.sig_bits seed list.lines (block_size plan.log_bucket) sigs lens t.escaped signed lengths (ap (λ (u : TwoStep). u.escaped) two_of_keys)) r is

  pub bits_narrow : IsKeyList list → plan.log_bucket ≤ 12 → t.bits ≤ 32
  bits_narrow are low = subst (λ (u : TwoStep). u.bits ≤ 32) (sym two_of_keys) (codes_narrow list are plan.log_bucket low)

  pub width_narrow : IsKeyList list → plan.log_bucket ≤ 12 → width_of lens ≤ 32
  width_narrow are low = subst (λ (l : List ℕ). width_of l ≤ 32) (sym lengths) (lens_narrow list are plan.log_bucket low)

  pub codes_part_narrow : IsKeyList list → plan.log_bucket ≤ 12 → (codes_part plan list.lines).width ≤ 64
  codes_part_narrow are low = let n = codes_narrow list are plan.log_bucket low in omega arith

  pub table_is : t.table ≡ (two_step_of (prefix_lens (block_size plan.log_bucket) (map key_bits list.lines))).table
  table_is = ap (λ (u : TwoStep). u.table) two_of_keys

-- ---- what is lent is what is owned

pub given_codes : (plan : Plan) (part bits : ℕ) (codes : List ℕ) (lent sigs : List Signature) → lent ≡ sigs → (r : Result FuncBuf Stop)
    → MatchResult r (IsDone plan.method tries bits (entries_of lent codes)) (StopsPart part plan.method (entries_of lent codes)) → MatchResult r (IsDone plan.method tries bits (entries_of sigs codes)) (StopsPart part plan.method (entries_of sigs codes))
given_codes plan part bits codes lent sigs same r is = subst (λ (s : List Signature). MatchResult r (IsDone plan.method tries bits (entries_of s codes)) (StopsPart part plan.method (entries_of s codes))) same is

-- what is built of the keys at places
abbrev IsBuiltAt : Plan → ℕ → List Signature → List ℕ → List ℕ → Result FuncBuf Stop → Type 0
IsBuiltAt plan part sigs lens places r =
    MatchResult r (IsDone plan.method tries (least_width (map (λ i. slice_index lens i) places)) (entries_of (map (signature_at sigs) places) (map (λ i. slice_index lens i) places)))
    (StopsPart part plan.method (entries_of (map (signature_at sigs) places) (map (λ i. slice_index lens i) places)))

pub given_escaped : (plan : Plan) (part : ℕ) (lent sigs : List Signature) (lens lens' places places' : List ℕ) → lent ≡ sigs → lens ≡ lens' → places ≡ places' → (r : Result FuncBuf Stop)
    → MatchResult r (IsDone plan.method tries (least_width (map (λ i. slice_index lens i) places)) (entries_of (map (signature_at lent) places) (map (λ i. slice_index lens i) places)))
    (StopsPart part plan.method (entries_of (map (signature_at lent) places) (map (λ i. slice_index lens i) places)))
    → MatchResult r (IsDone plan.method tries (least_width (map (λ i. slice_index lens' i) places')) (entries_of (map (signature_at sigs) places') (map (λ i. slice_index lens' i) places')))
    (StopsPart part plan.method (entries_of (map (signature_at sigs) places') (map (λ i. slice_index lens' i) places')))
given_escaped plan part lent sigs lens lens' places places' a b d r is =
    let one : IsBuiltAt plan part sigs lens places r = subst (λ (s : List Signature). IsBuiltAt plan part s lens places r) a is in
    let two : IsBuiltAt plan part sigs lens' places r = subst (λ (l : List ℕ). IsBuiltAt plan part sigs l places r) b one in
    subst (λ (p : List ℕ). IsBuiltAt plan part sigs lens' p r) d two

-- Dumps of distributors by longest common prefixes: their parts, their sections and their headers.
use Rattle.std.proofs.Common.{◌≡◌, ℕ, ◌^◌, ◌<◌, ◌≤◌, true, false, List, [], ◌∷◌, length, map, refl, sym, ap, subst, ◌∙◌, arith}
use Rattle.std.proofs.lemmas.List.{length-map}
use Rattle.std.proofs.lemmas.List.FromFn.{length-range_with_len}
use Rattle.std.proofs.Math.Pow.{pow_pos}
use Rattle.sx_spec_strings.specs.Bits.{Bits, key_bits}
use Rattle.sx_spec_kinds.specs.declared.Kind.{Kind}
use Rattle.sx_spec_kinds.specs.declared.Kind.TheVariants.{Lcp}
use Rattle.sx_spec_kinds.specs.Blocks.{block_size}
use Rattle.sx_spec_kinds.specs.Pairs.{lengths_pairs, prefixes_pairs}
use Rattle.sx_spec.specs.declared.Plan.{Plan}
use Rattle.sx_spec.specs.Command.{Text}
use Rattle.sx_spec.specs.Kinds.{uses_method, uses_buckets}
use Rattle.sx_spec.specs.Laws.{IsHeader}
use Rattle.sx_spec.specs.Parts.{kind_parts, least_part, parts_of}
use Rattle.sx_spec.specs.Signature.{signature}
use Rattle.sx_spec.specs.StaticFunction.{Part, part_entries}
use Rattle.sx_spec.specs.Values.{plain_values}
use Rattle.sx_spec.proofs.Members.{few_lengths, few_prefixes}
use Rattle.sx_bits.specs.KeyLists.{IsKeyList, Keys}
use Rattle.sx_static.specs.declared.FuncBuf.{FuncBuf}
use Rattle.sx_parts.specs.declared.layout.SectionBuf.TheVariants.{Function}
use Rattle.sx_parts.specs.declared.parts.Stop.{Stop}
use Rattle.sx_parts.specs.Ranking.{IsBlockPlan}
use Rattle.sx_parts.specs.Sectioning.{AreKindSections, IsPartDone, StopsPart, StopsParts, header_for}
use Rattle.sx_parts.proofs.BuiltDumps.{AreSources, few_lines}
use Rattle.sx_parts.proofs.Layouts.{few_words}
use Rattle.sx_parts.proofs.PartLists.{cells_counted, function_few, stops_at, whole}

-- ---- any kind with blocks

pub block_header : (kind : Kind) (plan : Plan) (lines : List Text) (seed : ℕ) → IsBlockPlan kind plan → uses_method kind ≡ true → uses_buckets kind ≡ true → length lines ≤ 4194304 → IsHeader (header_for plan lines seed)
block_header kind plan lines seed is by_method by_buckets few =
    let signed = is.signed in
    let handles = is.handles in
    record {
      method = λ e. let never : true ≡ false = sym by_method ∙ ap uses_method (sym is.kind) ∙ e in absurd cc;
      keys = omega arith;
      sig_bits = is.bits;
      log_bucket = is.buckets;
      blocks = λ e. let never : true ≡ false = sym by_buckets ∙ ap uses_buckets (sym is.kind) ∙ e in absurd cc;
      signed = omega arith;
      handle_bits = omega arith;
      handles = λ e. handles;
    }

-- the entries of a part are as many as its pairs
pub entry_count : (kept seed : ℕ) (part : Part) → length (part_entries kept seed part) ≡ length part.pairs
entry_count kept seed part = length-map part.pairs (λ (p : Bits × ℕ). (signature seed kept p.0, p.1))

-- what a dump in blocks is built from
pub block_sources : (kind : Kind) (plan : Plan) (list : Keys) (seed : ℕ) → IsBlockPlan kind plan → uses_method kind ≡ true → uses_buckets kind ≡ true → IsKeyList list → seed < 2 ^ 64 → AreSources list.lines (plain_values (length list.lines)) seed plan
block_sources kind plan list seed is by_method by_buckets are small =
    record {
      limits = list.limits;
      standard = are.limits;
      faultless = are.faultless;
      bytes = are.bytes;
      as_many = length-range_with_len 0 (length list.lines);
      seed_small = small;
      plain = λ signed. refl;
      header = block_header kind plan list.lines seed is by_method by_buckets (few_lines list.limits list.lines are.limits are.faultless);
    }

-- ---- lcp

module _ (plan : Plan) (lines : List Text) (seed : ℕ) (is : IsBlockPlan Lcp plan) where
  abbrev b : ℕ
  b = block_size plan.log_bucket

  abbrev keys : List Bits
  keys = map key_bits lines

  abbrev lengths : Part
  lengths = least_part (lengths_pairs b keys)

  abbrev prefixes : Part
  prefixes = least_part (prefixes_pairs b keys)

  -- the parts, whatever the values
  pub lcp_parts_are : (width : ℕ) (values : List ℕ) → parts_of plan width lines values ≡ least_part (lengths_pairs (block_size plan.log_bucket) (map key_bits lines)) ∷ least_part (prefixes_pairs (block_size plan.log_bucket) (map key_bits lines)) ∷ []
  lcp_parts_are width values = ap (λ (k : Kind). kind_parts k b width keys values) is.kind

  pub lcp_parts_same : (width width' : ℕ) (values values' : List ℕ) → parts_of plan width lines values ≡ parts_of plan width' lines values'
  lcp_parts_same width width' values values' = lcp_parts_are width values ∙ sym (lcp_parts_are width' values')

  pub lcp_stops_first : (stop : Stop) → StopsPart 0 plan.method (part_entries plan.sig_bits seed (least_part (lengths_pairs (block_size plan.log_bucket) (map key_bits lines)))) stop → StopsParts plan seed (parts_of plan 0 lines []) stop
  lcp_stops_first stop stops =
      subst (λ (ps : List Part). StopsParts plan seed ps stop) (sym (lcp_parts_are 0 []))
      (stops_at plan seed (lengths ∷ prefixes ∷ []) [] 0 lengths stop tt refl stops)

  pub lcp_stops_second : (f : FuncBuf) (stop : Stop) → IsPartDone plan seed (least_part (lengths_pairs (block_size plan.log_bucket) (map key_bits lines))) f → StopsPart 1 plan.method (part_entries plan.sig_bits seed (least_part (prefixes_pairs (block_size plan.log_bucket) (map key_bits lines)))) stop
      → StopsParts plan seed (parts_of plan 0 lines []) stop
  lcp_stops_second f stop done stops =
      subst (λ (ps : List Part). StopsParts plan seed ps stop) (sym (lcp_parts_are 0 []))
      (stops_at plan seed (lengths ∷ prefixes ∷ []) (f ∷ []) 1 prefixes stop (done, tt) refl stops)

  pub lcp_done : (f g : FuncBuf) → length lines ≤ 4194304 → IsPartDone plan seed (least_part (lengths_pairs (block_size plan.log_bucket) (map key_bits lines))) f → (least_part (lengths_pairs (block_size plan.log_bucket) (map key_bits lines))).width ≤ 64
      → IsPartDone plan seed (least_part (prefixes_pairs (block_size plan.log_bucket) (map key_bits lines))) g → g.width ≤ 64 → AreKindSections Lcp plan lines seed (parts_of plan 0 lines []) (Function f ∷ Function g ∷ [])
  lcp_done f g few f_done f_narrow g_done g_narrow =
      let count = length-map lines key_bits in
      let some : 0 < b = pow_pos plan.log_bucket in
      let f_pairs = few_lengths b some keys in
      let g_pairs = few_prefixes b some keys in
      let f_entries = entry_count plan.sig_bits seed lengths in
      let g_entries = entry_count plan.sig_bits seed prefixes in
      let f_es = part_entries plan.sig_bits seed lengths in
      let g_es = part_entries plan.sig_bits seed prefixes in
      let f_few : length f_es ≤ 4194304 = omega arith in
      let g_few : length g_es ≤ 4194304 = omega arith in
      let words = few_words (Function f ∷ Function g ∷ []) (function_few plan.method lengths.width f_es f f_done f_few f_narrow, (function_few plan.method prefixes.width g_es g g_done g_few (subst (λ (w : ℕ). w ≤ 64) g_done.built.width g_narrow), tt)) in
      let are : AreKindSections Lcp plan lines seed (lengths ∷ prefixes ∷ []) (Function f ∷ Function g ∷ []) = record {
        functions = f ∷ g ∷ [];
        done = (f_done, (g_done, tt));
        built = refl;
        whole = (whole plan.method lengths.width f_es f f_done, (whole plan.method prefixes.width g_es g g_done, tt));
        few = omega arith;
        cells = (cells_counted plan.method lengths.width f_es f f_done f_few, (cells_counted plan.method prefixes.width g_es g g_done g_few, tt));
      } in
      subst (λ (ps : List Part). AreKindSections Lcp plan lines seed ps (Function f ∷ Function g ∷ [])) (sym (lcp_parts_are 0 [])) are

-- Dumps of distributors that keep handles: the parts and the sections.
use Rattle.std.proofs.Common.{◌≡◌, ℕ, ◌+◌, ◌*◌, ◌/◌, ◌%◌, ◌^◌, ◌<◌, ◌≤◌, true, false, List, [], ◌∷◌, length, map, drop, refl, sym, ap, subst, ◌∙◌, arith, Result, Err, MatchResult}
use Rattle.std.specs.Prelude.{flat_map, zip, ⊤}
use Rattle.std.specs.List.{enumerate_from, range_with_len}
use Rattle.std.proofs.lemmas.List.{length-append, length-drop, length-map}
use Rattle.std.proofs.lemmas.List.FromFn.{length-range_with_len}
use Rattle.std.proofs.Math.Nat.{mul-le-mul_left}
use Rattle.std.proofs.Math.Pow.{pow_pos}
use Rattle.sx_spec_strings.specs.Bits.{Bits, key_bits}
use Rattle.sx_spec_strings.specs.Ordered.{IsIn}
use Rattle.sx_spec_kinds.specs.declared.Kind.{Kind}
use Rattle.sx_spec_kinds.specs.declared.Kind.TheVariants.{Zfast}
use Rattle.sx_spec_kinds.specs.Blocks.{block_size}
use Rattle.sx_spec_kinds.specs.Pairs.{codes_pairs, handles_pairs, offsets_pairs, pair}
use Rattle.sx_spec_kinds.specs.Search.{handle_of, handles_of}
use Rattle.sx_spec_kinds.specs.Trie.{Node, extents_of, node_of, nodes_of}
use Rattle.sx_spec_kinds.specs.Zfast.{code_of}
use Rattle.sx_spec_kinds.proofs.BlockLaws.{delimiters_are_keys}
use Rattle.sx_spec_kinds.proofs.TrieLaws.{length-extents_of}
use Rattle.sx_spec.specs.declared.Plan.{Plan}
use Rattle.sx_spec.specs.declared.Signature.{Signature}
use Rattle.sx_spec.specs.Built.{least_list, marks_list, signed_corrections, zfast_sections}
use Rattle.sx_spec.specs.Command.{Text}
use Rattle.sx_spec.specs.Fields.{packed, words_for}
use Rattle.sx_spec.specs.Kinds.{uses_buckets, uses_handles, uses_method}
use Rattle.sx_spec.specs.Laws.{IsHeader}
use Rattle.sx_spec.specs.Layout.{Header, corrections_section, function_section, list_section, signature_words}
use Rattle.sx_spec.specs.Parts.{kind_parts, least_width, parts_of}
use Rattle.sx_spec.specs.Reply.{handle_map, sign, top_bits}
use Rattle.sx_spec.specs.Signature.{signature}
use Rattle.sx_spec.specs.StaticFunction.{AllDiffer, Entry, Part, part_entries}
use Rattle.sx_spec.specs.Values.{plain_values}
use Rattle.sx_spec.proofs.Bounds.{Each, delimiters_short, node_list_le, nodes_small}
use Rattle.sx_spec.proofs.Digits.{packed_fields_are_read_back}
use Rattle.sx_spec.proofs.Members.{few_blocks, few_handles, few_key_codes, few_offsets, length-delimiters}
use Rattle.sx_fields.specs.Numbers.{Numbers as NumberList}
use Rattle.sx_bits.specs.declared.pieces.Piece.{Piece}
use Rattle.sx_bits.specs.KeyLists.{IsKeyList, Keys}
use Rattle.sx_bits.specs.Pieces.{piece_string}
use Rattle.sx_bits.proofs.KeyListBits.{key_list_bits}
use Rattle.sx_static.specs.declared.FuncBuf.{FuncBuf}
use Rattle.sx_static.specs.Answer.{IsDone, entries_of, function_of}
use Rattle.sx_trie.specs.Tries.{delimiter_bits}
use Rattle.sx_parts.specs.declared.layout.SectionBuf.{SectionBuf}
use Rattle.sx_parts.specs.declared.layout.SectionBuf.TheVariants.{Corrections, Function, Numbers}
use Rattle.sx_parts.specs.declared.parts.Stop.{Stop}
use Rattle.sx_parts.specs.Assembling.{key_signature, tries}
use Rattle.sx_parts.specs.Ranking.{ArePairs, offset_numbers}
use Rattle.sx_parts.specs.Sectioning.{AreKindSections, IsPartDone, StopsPart, StopsParts, header_for, held_words, piece_signature, section_built}
use Rattle.sx_parts.proofs.BuiltDumps.{AreSources, few_lines}
use Rattle.sx_parts.proofs.KeyPairs.{keys_signed, least_of, offsets_are}
use Rattle.sx_parts.proofs.KeyParts.{map_map}
use Rattle.sx_parts.proofs.KeySizes.{keys_short}
use Rattle.sx_parts.proofs.Layouts.{list_few}
use Rattle.sx_parts.proofs.PartLists.{cells_counted, function_few, stops_at, whole}
use Rattle.sx_assemble.specs.Handling.{AreCorrections, AreFunctions, AreNodeLists, IsBuilt, IsLeastList, IsZfastPlan, codes_part, delimiters_for, handles_for, handles_part, map_for, offsets_part}
use Rattle.sx_assemble.specs.declared.zfast.Built.{Built}
use Rattle.sx_assemble.specs.declared.zfast.CorrectionLists.{CorrectionLists}
use Rattle.sx_assemble.specs.declared.zfast.NodeLists.{NodeLists}
use Rattle.sx_assemble.specs.declared.zfast.ZfastFunctions.{ZfastFunctions}
use Rattle.sx_assemble.proofs.Corrections.{blocks_narrow, signed_few}
use Rattle.sx_assemble.proofs.LcpDumps.{entry_count}

-- ---- the pairs of the parts

handle_entries : (s : Bits → Signature) (n : ℕ) (xs : List Bits) → zip (map s xs) (range_with_len n (length xs)) ≡ map (λ (p : Bits × ℕ). (s p.0, p.1)) (map (λ (t : ℕ × Bits). pair t.1 t.0) (enumerate_from n xs))
handle_entries s n [] = refl
handle_entries s n (x ∷ xs) = ap (λ l. (s x, n) ∷ l) (handle_entries s (n + 1) xs)

handle_numbers : (n : ℕ) (xs : List Bits) → range_with_len n (length xs) ≡ map (λ (p : Bits × ℕ). p.1) (map (λ (t : ℕ × Bits). pair t.1 t.0) (enumerate_from n xs))
handle_numbers n [] = refl
handle_numbers n (x ∷ xs) = ap (λ l. n ∷ l) (handle_numbers (n + 1) xs)

code_entries : (s : Bits → Signature) (code : Bits → ℕ) (xs : List Bits) → zip (map s xs) (map code xs) ≡ map (λ (p : Bits × ℕ). (s p.0, p.1)) (map (λ k. pair k (code k)) xs)
code_entries s code [] = refl
code_entries s code (x ∷ xs) = ap (λ l. (s x, code x) ∷ l) (code_entries s code xs)

code_numbers : (code : Bits → ℕ) (xs : List Bits) → map code xs ≡ map (λ (p : Bits × ℕ). p.1) (map (λ k. pair k (code k)) xs)
code_numbers code [] = refl
code_numbers code (x ∷ xs) = ap (λ l. code x ∷ l) (code_numbers code xs)

module _ (plan : Plan) (lines : List Text) (seed : ℕ) where
  -- the handles' signatures with their places
  pub handles_signed : (pieces : List Piece) (sigs : List Signature) → map (piece_string lines) pieces ≡ handles_for plan lines → sigs ≡ map (piece_signature seed plan.sig_bits lines) pieces → sigs ≡ map (signature seed plan.sig_bits) (handles_for plan lines)
  handles_signed pieces sigs strings signed = signed ∙ sym (map_map (signature seed plan.sig_bits) (piece_string lines) pieces) ∙ ap (map (signature seed plan.sig_bits)) strings

  pub handles_are : (sigs : List Signature) (numbers : List ℕ) → sigs ≡ map (signature seed plan.sig_bits) (handles_for plan lines) → numbers ≡ range_with_len 0 (length sigs) → ArePairs plan.sig_bits seed (handles_pairs (delimiters_for plan lines)) sigs numbers
  unfolding handles_pairs
  handles_are sigs numbers signed numbered =
      let handles = handles_for plan lines in
      let many : length sigs ≡ length handles = ap (λ (l : List Signature). length l) signed ∙ length-map handles (signature seed plan.sig_bits) in
      let placed : numbers ≡ range_with_len 0 (length handles) = numbered ∙ ap (range_with_len 0) many in
      record {
        entries = (λ i. zip (signed i) (placed i)) ∙ handle_entries (signature seed plan.sig_bits) 0 handles;
        numbers = placed ∙ handle_numbers 0 handles;
      }

  -- the marks of the handles
  pub marks_are : (width : ℕ) (sigs : List Signature) (items : List ℕ) → sigs ≡ map (signature seed plan.sig_bits) (handles_for plan lines) → items ≡ map (top_bits width) sigs → items ≡ marks_list (header_for plan lines seed) width (handles_for plan lines)
  marks_are width sigs items signed are = are ∙ ap (map (top_bits width)) signed ∙ map_map (top_bits width) (signature seed plan.sig_bits) (handles_for plan lines)

  codes_are : (sigs : List Signature) (codes : List ℕ) → sigs ≡ map (key_signature seed plan.sig_bits) lines → codes ≡ map (code_of (delimiters_for plan lines)) (map key_bits lines) → ArePairs plan.sig_bits seed (codes_pairs (map key_bits lines) (delimiters_for plan lines)) sigs codes
  unfolding codes_pairs
  codes_are sigs codes signed are =
      let ds = delimiters_for plan lines in
      let keys = map key_bits lines in
      let all = signed ∙ keys_signed plan.sig_bits seed lines in
      record {
        entries = (λ i. zip (all i) (are i)) ∙ code_entries (signature seed plan.sig_bits) (code_of ds) keys;
        numbers = are ∙ code_numbers (code_of ds) keys;
      }

  -- what was built of the keys' signatures is the function of their offsets, and that of their codes
  pub offsets_built : (sigs : List Signature) → sigs ≡ map (key_signature seed plan.sig_bits) lines → (r : Result FuncBuf Stop)
      → (let numbers = offset_numbers (block_size plan.log_bucket) (length sigs) in MatchResult r (IsDone plan.method tries (least_width numbers) (entries_of sigs numbers)) (StopsPart 0 plan.method (entries_of sigs numbers)))
      → MatchResult r (IsPartDone plan seed (offsets_part plan lines)) (StopsPart 0 plan.method (part_entries plan.sig_bits seed (offsets_part plan lines)))
  offsets_built sigs signed r is =
      let b = block_size plan.log_bucket in
      let as_many : length sigs ≡ length lines = ap (λ (l : List Signature). length l) signed ∙ length-map lines (key_signature seed plan.sig_bits) in
      let numbers = offset_numbers b (length sigs) in
      least_of plan seed 0 (offsets_pairs b (map key_bits lines)) sigs numbers (offsets_are plan.sig_bits seed lines b sigs numbers signed (ap (offset_numbers b) as_many)) r is

  pub codes_built : (sigs : List Signature) (codes : List ℕ) → sigs ≡ map (key_signature seed plan.sig_bits) lines → codes ≡ map (code_of (delimiters_for plan lines)) (map key_bits lines) → (r : Result FuncBuf Stop)
      → MatchResult r (IsDone plan.method tries (least_width codes) (entries_of sigs codes)) (StopsPart 2 plan.method (entries_of sigs codes))
      → MatchResult r (IsPartDone plan seed (codes_part plan lines)) (StopsPart 2 plan.method (part_entries plan.sig_bits seed (codes_part plan lines)))
  codes_built sigs codes signed are r is = least_of plan seed 2 (codes_pairs (map key_bits lines) (delimiters_for plan lines)) sigs codes (codes_are sigs codes signed are) r is

-- the nodes of the trie are those of the delimiters
pub nodes_for : (plan : Plan) (lines : List Text) (built : Built) → IsBuilt plan.log_bucket lines built → built.trie.nodes ≡ nodes_of (delimiters_for plan lines)
nodes_for plan lines built is = is.trie.nodes ∙ ap (λ (ns : List ℕ). nodes_of (delimiter_bits lines ns)) is.same ∙ ap (λ (ds : List Bits). nodes_of ds) is.bits

-- the signatures of the offsets are those of the keys
offset_signatures : (sign : Bits → Signature) (b n : ℕ) (keys : List Bits) → map (λ (e : Entry). e.0) (map (λ (p : Bits × ℕ). (sign p.0, p.1)) (map (λ (t : ℕ × Bits). pair t.1 (t.0 % b)) (enumerate_from n keys))) ≡ map sign keys
offset_signatures sign b n [] = refl
offset_signatures sign b n (k ∷ keys) = ap (λ sigs. sign k ∷ sigs) (offset_signatures sign b (n + 1) keys)

-- where the offsets have a function, no two keys have one signature
pub keys_apart : (plan : Plan) (lines : List Text) (seed : ℕ) (sigs : List Signature) (f : FuncBuf) → sigs ≡ map (key_signature seed plan.sig_bits) lines → IsPartDone plan seed (offsets_part plan lines) f → AllDiffer sigs
unfolding offsets_pairs
keys_apart plan lines seed sigs f signed done =
    let same = offset_signatures (signature seed plan.sig_bits) (block_size plan.log_bucket) 0 (map key_bits lines) in
    subst AllDiffer (same ∙ sym (keys_signed plan.sig_bits seed lines) ∙ sym signed) done.built.differ

-- ---- parts

module _ (plan : Plan) (lines : List Text) (seed : ℕ) (is : IsZfastPlan plan) where
  abbrev all : List Part
  all = offsets_part plan lines ∷ handles_part plan lines ∷ codes_part plan lines ∷ []

  pub zfast_parts_are : (width : ℕ) (values : List ℕ) → parts_of plan width lines values ≡ offsets_part plan lines ∷ handles_part plan lines ∷ codes_part plan lines ∷ []
  zfast_parts_are width values = ap (λ (k : Kind). kind_parts k (block_size plan.log_bucket) width (map key_bits lines) values) is.kind

  pub zfast_parts_same : (width width' : ℕ) (values values' : List ℕ) → parts_of plan width lines values ≡ parts_of plan width' lines values'
  zfast_parts_same width width' values values' = zfast_parts_are width values ∙ sym (zfast_parts_are width' values')

  -- the parts before have functions, and this one has none
  pub stops_offsets : (stop : Stop) → StopsPart 0 plan.method (part_entries plan.sig_bits seed (offsets_part plan lines)) stop → StopsParts plan seed (parts_of plan 0 lines []) stop
  stops_offsets stop stops =
      subst (λ (ps : List Part). StopsParts plan seed ps stop) (sym (zfast_parts_are 0 []))
      (stops_at plan seed all [] 0 (offsets_part plan lines) stop tt refl stops)

  pub stops_handles : (f : FuncBuf) (stop : Stop) → IsPartDone plan seed (offsets_part plan lines) f → StopsPart 1 plan.method (part_entries plan.sig_bits seed (handles_part plan lines)) stop → StopsParts plan seed (parts_of plan 0 lines []) stop
  stops_handles f stop done stops =
      subst (λ (ps : List Part). StopsParts plan seed ps stop) (sym (zfast_parts_are 0 []))
      (stops_at plan seed all (f ∷ []) 1 (handles_part plan lines) stop (done, tt) refl stops)

  pub stops_codes : (f g : FuncBuf) (stop : Stop) → IsPartDone plan seed (offsets_part plan lines) f → IsPartDone plan seed (handles_part plan lines) g → StopsPart 2 plan.method (part_entries plan.sig_bits seed (codes_part plan lines)) stop → StopsParts plan seed (parts_of plan 0 lines []) stop
  stops_codes f g stop first second stops =
      subst (λ (ps : List Part). StopsParts plan seed ps stop) (sym (zfast_parts_are 0 []))
      (stops_at plan seed all (f ∷ g ∷ []) 2 (codes_part plan lines) stop (first, (second, tt)) refl stops)

-- what the exit of a `?` returns
pub leaves_by : {A : Type 0} (P : A → Type 0) (Q : Stop → Type 0) (r : Result A Stop) (e : Stop) → ((x : Stop) × (r ≡ Err x) × (x ≡ e)) → Q e → MatchResult r P Q
leaves_by {A} P Q r e (x, at, same) stops = subst (λ (o : Result A Stop). MatchResult o P Q) (sym at) (subst Q (sym same) stops)

-- ---- where a dump comes from

pub zfast_header : (plan : Plan) (lines : List Text) (seed : ℕ) → IsZfastPlan plan → length lines ≤ 4194304 → IsHeader (header_for plan lines seed)
zfast_header plan lines seed is few =
    let signed = is.signed in
    let handles = is.handles in
    record {
      method = λ e. let never : true ≡ false = sym (ap uses_method is.kind) ∙ e in absurd cc;
      keys = omega arith;
      sig_bits = is.bits;
      log_bucket = is.buckets;
      blocks = λ e. let never : true ≡ false = sym (ap uses_buckets is.kind) ∙ e in absurd cc;
      signed = omega arith;
      handle_bits = omega arith;
      handles = λ e. let never : true ≡ false = sym (ap uses_handles is.kind) ∙ e in absurd cc;
    }

pub zfast_sources : (plan : Plan) (list : Keys) (seed : ℕ) → IsZfastPlan plan → IsKeyList list → seed < 2 ^ 64 → AreSources list.lines (plain_values (length list.lines)) seed plan
zfast_sources plan list seed is are small =
    record {
      limits = list.limits;
      standard = are.limits;
      faultless = are.faultless;
      bytes = are.bytes;
      as_many = length-range_with_len 0 (length list.lines);
      seed_small = small;
      plain = λ signed. refl;
      header = zfast_header plan list.lines seed is (few_lines list.limits list.lines are.limits are.faultless);
    }

-- ---- sizes

-- numbers of 32 bits take half as many words
half_words : (n : ℕ) (w : ℕ) → w ≤ 32 → words_for (n * w) ≤ n / 2 + 1
half_words n w narrow =
    let most : n * w ≤ n * 32 = mul-le-mul_left n narrow in
    omega arith

pub half_list : (list : NumberList) → list.width ≤ 32 → length (held_words (Numbers list)) ≤ length list.items / 2 + 3
half_list list narrow =
    let a : length (packed list.width list.items) ≡ words_for (length list.items * list.width) = packed_fields_are_read_back.words list.width list.items in
    let b = half_words (length list.items) list.width narrow in
    omega arith

triples : (sigs : List Signature) → length (flat_map signature_words sigs) ≡ 3 * length sigs
triples [] = refl
triples (s ∷ sigs) = let rest = triples sigs in omega arith

least_built : (items : List ℕ) (list : NumberList) → IsLeastList items list → list_section list.width list.items ≡ least_list items
least_built items list is = λ i. list_section (is.width i) (is.items i)

-- no section has more words than stand beside it
AtMost : List SectionBuf → List ℕ → Type 0
AtMost [] [] = ⊤
AtMost [] (n ∷ ns) = ⊥
AtMost (s ∷ sections) [] = ⊥
AtMost (s ∷ sections) (n ∷ ns) = (length (held_words s) ≤ n) × AtMost sections ns

total : List ℕ → ℕ
total [] = 0
total (n ∷ ns) = n + total ns

words_most : (sections : List SectionBuf) (ns : List ℕ) → AtMost sections ns → length (flat_map held_words sections) ≤ total ns
unfolding AtMost total
words_most [] [] most = omega arith
words_most [] (n ∷ ns) most = absurd most
words_most (s ∷ sections) [] most = absurd most
words_most (s ∷ sections) (n ∷ ns) most =
    let here = most.0 in
    let rest = words_most sections ns most.1 in
    let both = length-append (held_words s) (flat_map held_words sections) in
    omega arith

-- ---- sections

module _ (plan : Plan) (list : Keys) (seed : ℕ) (is : IsZfastPlan plan) (are : IsKeyList list) where
  abbrev b : ℕ
  b = block_size plan.log_bucket

  abbrev keys : List Bits
  keys = map key_bits list.lines

  abbrev ds : List Bits
  ds = delimiters_for plan list.lines

  abbrev nodes : List Node
  nodes = nodes_of ds

  some : 0 < b
  some = pow_pos plan.log_bucket

  few_keys : length keys ≤ 4194304
  few_keys = let few = few_lines list.limits list.lines are.limits are.faultless in let count = length-map list.lines key_bits in omega arith

  few_delimiters : length ds ≤ 4194304
  few_delimiters = let few = few_keys in let count = length-delimiters b some keys in let blocks = few_blocks b some keys in omega arith

  few_nodes : length nodes ≤ 4194304
  few_nodes =
      let few = few_delimiters in
      let extents = length-extents_of ds (delimiters_are_keys b keys some (key_list_bits list are)) in
      let count : length nodes ≡ length (extents_of ds) = length-map (extents_of ds) (node_of ds) in
      omega arith

  -- there are few handles
  pub handles_few : length (handles_pairs (delimiters_for plan list.lines)) ≤ 4194304
  handles_few = let few = few_keys in let most = few_handles b some keys (key_list_bits list are) in omega arith

  pub strings_few : length (handles_for plan list.lines) ≤ 4194304
  strings_few =
      let few = few_delimiters in
      let extents = length-extents_of ds (delimiters_are_keys b keys some (key_list_bits list are)) in
      let count : length (handles_of (extents_of ds)) ≡ length (drop 1 (extents_of ds)) = length-map (drop 1 (extents_of ds)) (handle_of (extents_of ds)) in
      let less = length-drop 1 (extents_of ds) in
      omega arith

  small : Each (λ (v : Node). (v.extent < 2 ^ 32) × (v.first < 2 ^ 32) × (v.middle < 2 ^ 32) × (v.after < 2 ^ 32)) nodes
  small v i =
      let node = nodes_small (2 ^ 16) ds (delimiters_short b some keys (2 ^ 16) (keys_short list are)) v i in
      let few = few_delimiters in
      let e = node.extent in
      let f = node.first in
      let m = node.middle in
      let a = node.after in
      (omega arith, omega arith, omega arith, omega arith)

  -- a list of numbers of nodes has few words
  node_few : (field : Node → ℕ) (l : NumberList) → ((v : Node) → IsIn nodes v → field v < 2 ^ 32) → IsLeastList (map field nodes) l → length (held_words (Numbers l)) ≤ 2097155
  node_few field l low least =
      let narrow : l.width ≤ 32 = subst (λ (w : ℕ). w ≤ 32) (sym least.width) (node_list_le nodes field low) in
      let count : length l.items ≡ length nodes = ap (λ (ns : List ℕ). length ns) least.items ∙ length-map nodes field in
      let few = few_nodes in
      let words = half_list l narrow in
      omega arith

  module _ (f : ZfastFunctions) (lists : NodeLists) (corrections : CorrectionLists) (fs : AreFunctions plan list.lines seed f) (ns : AreNodeLists (nodes_of (delimiters_for plan list.lines)) lists)
      (cs : AreCorrections (signed_corrections (header_for plan list.lines seed) (map_for plan list.lines seed f.handles) (delimiters_for plan list.lines) (map key_bits list.lines)) corrections) where
    abbrev h : Header
    h = header_for plan list.lines seed

    abbrev marks : List ℕ
    marks = marks_list h plan.handle_bits (handles_for plan list.lines)

    abbrev found : List ℕ → List Entry
    found ms = signed_corrections h (handle_map h (function_of f.handles.function) ms) ds keys

    abbrev sections : List SectionBuf
    sections =
        Function f.offsets
        ∷ Numbers lists.extents
        ∷ Numbers lists.firsts
        ∷ Numbers lists.middles
        ∷ Numbers lists.afters
        ∷ Function f.handles.function
        ∷ Numbers f.handles.marks
        ∷ Function f.codes
        ∷ Corrections corrections.sigs
        ∷ Numbers corrections.blocks
        ∷ []

    built : map section_built sections ≡ zfast_sections h (function_of f.offsets ∷ function_of f.handles.function ∷ function_of f.codes ∷ []) ds keys
    built =
        let extents = least_built (map (λ (v : Node). v.extent) nodes) lists.extents ns.extents in
        let firsts = least_built (map (λ (v : Node). v.first) nodes) lists.firsts ns.firsts in
        let middles = least_built (map (λ (v : Node). v.middle) nodes) lists.middles ns.middles in
        let afters = least_built (map (λ (v : Node). v.after) nodes) lists.afters ns.afters in
        let sigs : corrections.sigs.items ≡ map (λ (e : Entry). e.0) (found marks) = cs.sigs ∙ ap (λ (ms : List ℕ). map (λ (e : Entry). e.0) (found ms)) fs.handles.items in
        let blocks : section_built (Numbers corrections.blocks) ≡ least_list (map (λ (e : Entry). e.1) (found marks)) =
        least_built (map (λ (e : Entry). e.1) (found f.handles.marks.items)) corrections.blocks cs.blocks ∙ ap (λ (ms : List ℕ). least_list (map (λ (e : Entry). e.1) (found ms))) fs.handles.items in
        λ i.
        function_section (function_of f.offsets)
        ∷ extents i
        ∷ firsts i
        ∷ middles i
        ∷ afters i
        ∷ function_section (function_of f.handles.function)
        ∷ list_section (fs.handles.width i) (fs.handles.items i)
        ∷ function_section (function_of f.codes)
        ∷ corrections_section (sigs i)
        ∷ blocks i
        ∷ []

    -- as many corrections as keys at most
    corrections_words : length (held_words (Corrections corrections.sigs)) ≤ 12582913
    corrections_words =
        let few = few_keys in
        let most = signed_few h (map_for plan list.lines seed f.handles) ds keys in
        let count : length corrections.sigs.items ≡ length (found f.handles.marks.items) = ap (λ (l : List Signature). length l) cs.sigs ∙ length-map (found f.handles.marks.items) (λ (e : Entry). e.0) in
        let three = triples corrections.sigs.items in
        omega arith

    blocks_words : length (held_words (Numbers corrections.blocks)) ≤ 2097155
    blocks_words =
        let few = few_keys in
        let delimiters = few_delimiters in
        let most = signed_few h (map_for plan list.lines seed f.handles) ds keys in
        let count : length corrections.blocks.items ≡ length (found f.handles.marks.items) = ap (λ (l : List ℕ). length l) cs.blocks.items ∙ length-map (found f.handles.marks.items) (λ (e : Entry). e.1) in
        let narrow : corrections.blocks.width ≤ 32 = subst (λ (w : ℕ). w ≤ 32) (sym cs.blocks.width) (blocks_narrow h (map_for plan list.lines seed f.handles) ds keys (omega arith)) in
        let words = half_list corrections.blocks narrow in
        omega arith

    marks_words : length (held_words (Numbers f.handles.marks)) ≤ 4194306
    marks_words =
        let few = strings_few in
        let count : length f.handles.marks.items ≡ length (handles_for plan list.lines) = ap (λ (l : List ℕ). length l) fs.handles.items ∙ length-map (handles_for plan list.lines) (λ y. top_bits plan.handle_bits (sign h y)) in
        let narrow : f.handles.marks.width ≤ 64 = subst (λ (w : ℕ). w ≤ 64) (sym fs.handles.width) is.handles in
        let words = list_few f.handles.marks narrow in
        omega arith

    -- how many entries a part has
    few_entries : (part : Part) → length part.pairs ≤ length keys → length (part_entries plan.sig_bits seed part) ≤ 4194304
    few_entries part few = let e = entry_count plan.sig_bits seed part in let k = few_keys in omega arith

    -- a function for each part, and lists and corrections between and behind
    pub zfast_done : AreKindSections Zfast plan list.lines seed (parts_of plan 0 list.lines [])
        (Function f.offsets
        ∷ Numbers lists.extents
        ∷ Numbers lists.firsts
        ∷ Numbers lists.middles
        ∷ Numbers lists.afters
        ∷ Function f.handles.function
        ∷ Numbers f.handles.marks
        ∷ Function f.codes
        ∷ Corrections corrections.sigs
        ∷ Numbers corrections.blocks
        ∷ [])
    unfolding AtMost total
    zfast_done =
        let first = offsets_part plan list.lines in
        let second = handles_part plan list.lines in
        let third = codes_part plan list.lines in
        let first_entries = part_entries plan.sig_bits seed first in
        let second_entries = part_entries plan.sig_bits seed second in
        let third_entries = part_entries plan.sig_bits seed third in
        let first_few = few_entries first (few_offsets b some keys) in
        let second_few = few_entries second (few_handles b some keys (key_list_bits list are)) in
        let third_few = few_entries third (few_key_codes b some keys ds) in
        let first_thin : first.width ≤ 64 = subst (λ (w : ℕ). w ≤ 64) fs.offsets.built.width fs.thin_offsets in
        let second_thin : second.width ≤ 64 = subst (λ (w : ℕ). w ≤ 64) fs.handles.function.built.width fs.handles.narrow in
        let third_thin : third.width ≤ 64 = subst (λ (w : ℕ). w ≤ 64) fs.codes.built.width fs.thin_codes in
        let m = plan.method in
        let words = words_most sections (16777218 ∷ 2097155 ∷ 2097155 ∷ 2097155 ∷ 2097155 ∷ 16777218 ∷ 4194306 ∷ 16777218 ∷ 12582913 ∷ 2097155 ∷ []) (
          function_few m first.width first_entries f.offsets fs.offsets first_few first_thin,
          (
            node_few (λ v. v.extent) lists.extents (λ v i. (small v i).0) ns.extents,
            (
              node_few (λ v. v.first) lists.firsts (λ v i. (small v i).1) ns.firsts,
              (
                node_few (λ v. v.middle) lists.middles (λ v i. (small v i).2) ns.middles,
                (
                  node_few (λ v. v.after) lists.afters (λ v i. (small v i).3) ns.afters,
                  (
                    function_few m second.width second_entries f.handles.function fs.handles.function second_few second_thin,
                    (
                      marks_words,
                      (
                        function_few m third.width third_entries f.codes fs.codes third_few third_thin,
                        (
                          corrections_words,
                          (blocks_words, tt),
                        ),
                      ),
                    ),
                  ),
                ),
              ),
            ),
          ),
        ) in
        let own : AreKindSections Zfast plan list.lines seed (first ∷ second ∷ third ∷ []) sections = record {
          functions = f.offsets ∷ f.handles.function ∷ f.codes ∷ [];
          done = (fs.offsets, (fs.handles.function, (fs.codes, tt)));
          built = built;
          whole = (whole m first.width first_entries f.offsets fs.offsets, (tt, (tt, (tt, (tt, (whole m second.width second_entries f.handles.function fs.handles.function, (tt, (whole m third.width third_entries f.codes fs.codes, (tt, (tt, tt))))))))));
          few = omega arith;
          cells = (cells_counted m first.width first_entries f.offsets fs.offsets first_few, (cells_counted m second.width second_entries f.handles.function fs.handles.function second_few, (cells_counted m third.width third_entries f.codes fs.codes third_few, tt)));
        } in
        subst (λ (ps : List Part). AreKindSections Zfast plan list.lines seed ps sections) (sym (zfast_parts_are plan list.lines seed is 0 [])) own

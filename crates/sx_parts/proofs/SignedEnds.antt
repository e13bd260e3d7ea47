-- The end of a signed dump, for any kind: behind the sections of the kind stand the numbers that are kept of the keys.
use Rattle.std.proofs.Common.{◌≡◌, ◌≢◌, ℕ, ◌+◌, ◌≤◌, true, false, List, [], ◌∷◌, ◌++◌, Result, Ok, Err, IfOk, length, map, refl, sym, ap, subst, ◌∙◌, arith, inl, inr}
use Rattle.std.specs.Prelude.{◌==◌, flat_map}
use Rattle.std.specs.List.{range_with_len}
use Rattle.std.proofs.lemmas.Bool.{cases_eq, eq-eqb, ne_eqb}
use Rattle.std.proofs.lemmas.Grind.{flat_map-append}
use Rattle.std.proofs.lemmas.List.{append-nil, length-append, length-map, map-append}
use Rattle.sx_spec_strings.specs.Bits.{Bits, key_bits}
use Rattle.sx_spec_kinds.specs.declared.Kind.{Kind}
use Rattle.sx_spec_kinds.specs.Blocks.{block_size}
use Rattle.sx_spec.specs.declared.Plan.{Plan}
use Rattle.sx_spec.specs.declared.Signature.{Signature}
use Rattle.sx_spec.specs.Built.{built_sections, kind_sections, marks_list, signed_sections}
use Rattle.sx_spec.specs.Command.{Text}
use Rattle.sx_spec.specs.Layout.{Header, Section, list_section}
use Rattle.sx_spec.specs.Reply.{sign, top_bits}
use Rattle.sx_spec.specs.StaticFunction.{Function as FunctionOf, Part}
use Rattle.sx_spec.proofs.FuncDumps.{all_append}
use Rattle.sx_fields.specs.Numbers.{Numbers as NumberList}
use Rattle.sx_static.specs.Answer.{function_of}
use Rattle.sx_bits.specs.KeyLists.{IsKeyList, Keys}
use Rattle.sx_signed.specs.Keeping.{AreKept}
use Rattle.sx_signed.proofs.KeptNumbers.{kept_in_order}
use Rattle.sx_parts.specs.declared.layout.SectionBuf.{SectionBuf}
use Rattle.sx_parts.specs.declared.layout.SectionBuf.TheVariants.{Numbers}
use Rattle.sx_parts.specs.Assembling.{key_signature}
use Rattle.sx_parts.specs.Sectioning.{AreKindSections, AreLaidOut, AreSectionsOf, AreSigned, IsWhole, header_for, held_words, section_built}
use Rattle.sx_parts.proofs.BuiltDumps.{few_lines}
use Rattle.sx_parts.proofs.KeyParts.{map_map}
use Rattle.sx_parts.proofs.Layouts.{list_few}

-- ---- the list

-- the signatures of keys are few
pub few_signatures : (list : Keys) → IsKeyList list → (seed kept : ℕ) (sigs : List Signature) → sigs ≡ map (key_signature seed kept) list.lines → length sigs ≤ 4194304
few_signatures list are seed kept sigs signed =
    let few = few_lines list.limits list.lines are.limits are.faultless in
    let count = ap (λ (l : List Signature). length l) signed ∙ length-map list.lines (key_signature seed kept) in
    omega arith

-- what is kept at the places 0, 1, 2 and so on stands in the order of the signatures
pub all_in_order : {E : Type 0} (width : ℕ) (sigs : List Signature) (places : List ℕ) → places ≡ range_with_len 0 (length sigs) → (r : Result NumberList E) → IfOk r (λ list. AreKept width sigs places list.items) → IfOk r (λ list. list.items ≡ map (top_bits width) sigs)
all_in_order width sigs places in_order (Err e) kept = tt
all_in_order width sigs places in_order (Ok list) kept = kept_in_order width sigs list.items (subst (λ (ps : List ℕ). AreKept width sigs ps list.items) in_order kept)

-- ---- the sections behind those of the kind

unsigned_none : (h : Header) (keys : List Bits) → h.plan.signed ≡ 0 → signed_sections h keys ≡ []
unsigned_none h keys unsigned = let e : (h.plan.signed == 0) ≡ true = eq-eqb h.plan.signed 0 unsigned in rw e refl

signed_one : (h : Header) (keys : List Bits) → h.plan.signed ≢ 0 → signed_sections h keys ≡ list_section h.plan.signed (marks_list h h.plan.signed keys) ∷ []
signed_one h keys signed = let e : (h.plan.signed == 0) ≡ false = ne_eqb h.plan.signed 0 signed in rw e refl

-- the sections of a dump, by those of the kind and those behind them
built_of : (h : Header) (k : Kind) (functions : List FunctionOf) (keys : List Bits) (kept : List Section) → h.plan.kind ≡ k → signed_sections h keys ≡ kept → kind_sections k h (block_size h.plan.log_bucket) functions keys ++ kept ≡ built_sections h functions keys
built_of h k functions keys kept kind signed = λ i. kind_sections (sym kind i) h (block_size h.plan.log_bucket) functions keys ++ sym signed i

module _ (kind : Kind) (plan : Plan) (lines : List Text) (seed : ℕ) (parts : List Part) (of_kind : plan.kind ≡ kind) (before after : List SectionBuf) (own : AreKindSections kind plan lines seed parts before) where
  abbrev h : Header
  h = header_for plan lines seed

  abbrev keys : List Bits
  keys = map key_bits lines

  abbrev functions : List FunctionOf
  functions = map function_of own.functions

  abbrev kind_own : List Section
  kind_own = kind_sections kind h (block_size plan.log_bucket) functions keys

  -- no list
  plain_end : plan.signed ≡ 0 → after ≡ before → AreSectionsOf plan lines seed parts after
  plain_end unsigned same =
      let room = own.few in
      record {
        functions = own.functions;
        done = own.done;
        built = ap (map section_built) same ∙ own.built ∙ sym (append-nil kind_own) ∙ built_of h kind functions keys [] of_kind (unsigned_none h keys unsigned);
        laid = subst AreLaidOut (sym same) (record { whole = own.whole; few = omega arith });
        cells = own.cells;
      }

  module _ (few : length lines ≤ 4194304) (narrow : plan.signed ≤ 64) (sigs : List Signature) (signatures : sigs ≡ map (key_signature seed plan.sig_bits) lines) where
    abbrev list : NumberList
    list = record { width = plan.signed; items = map (top_bits plan.signed) sigs }

    marks_are : map (top_bits plan.signed) sigs ≡ marks_list h plan.signed keys
    marks_are =
        ap (map (top_bits plan.signed)) signatures
        ∙ map_map (top_bits plan.signed) (key_signature seed plan.sig_bits) lines
        ∙ sym (map_map (λ (y : Bits). top_bits plan.signed (sign h y)) key_bits lines)

    list_laid : AreLaidOut (before ++ Numbers list ∷ [])
    list_laid =
        let count : length list.items ≡ length lines = ap (λ (l : List ℕ). length l) (ap (map (top_bits plan.signed)) signatures) ∙ length-map (map (key_signature seed plan.sig_bits) lines) (top_bits plan.signed) ∙ length-map lines (key_signature seed plan.sig_bits) in
        let size = list_few list narrow in
        let room = own.few in
        let alone : length (flat_map held_words (Numbers list ∷ [])) ≡ length (held_words (Numbers list)) = ap (λ (l : List ℕ). length l) (append-nil (held_words (Numbers list))) in
        let both : length (flat_map held_words (before ++ Numbers list ∷ [])) ≡ length (flat_map held_words before) + length (flat_map held_words (Numbers list ∷ [])) =
        ap (λ (l : List ℕ). length l) (flat_map-append held_words before (Numbers list ∷ [])) ∙ length-append (flat_map held_words before) (flat_map held_words (Numbers list ∷ [])) in
        record { whole = all_append IsWhole before (Numbers list ∷ []) own.whole (tt, tt); few = omega arith }

    signed_end : plan.signed ≢ 0 → after ≡ before ++ Numbers list ∷ [] → AreSectionsOf plan lines seed parts after
    signed_end signed same = record {
      functions = own.functions;
      done = own.done;
      built = ap (map section_built) same
          ∙ map-append section_built before (Numbers list ∷ [])
          ∙ (λ i. own.built i ++ list_section plan.signed (marks_are i) ∷ [])
          ∙ built_of h kind functions keys (list_section plan.signed (marks_list h plan.signed keys) ∷ []) of_kind (signed_one h keys signed);
      laid = subst AreLaidOut (sym same) list_laid;
      cells = own.cells;
    }

    -- all sections of a dump, signed or not
    pub all_sections : AreSigned plan.signed sigs before after → AreSectionsOf plan lines seed parts after
    all_sections are =
        elim (cases_eq plan.signed 0) [
          | inl unsigned ↦ plain_end unsigned (are.unsigned unsigned)
          | inr signed ↦ signed_end signed (are.signed signed)
        ]

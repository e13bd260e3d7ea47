-- The part of a static function, its section, and the header of its dump.
use Rattle.std.proofs.Common.{◌≡◌, ℕ, ◌≤◌, true, false, List, [], ◌∷◌, length, map, refl, sym, ap, subst, ◌∙◌, arith}
use Rattle.std.specs.Prelude.{zip}
use Rattle.std.proofs.lemmas.List.{length-map}
use Rattle.sx_spec_strings.specs.Bits.{Bits, key_bits}
use Rattle.sx_spec_kinds.specs.declared.Kind.{Kind}
use Rattle.sx_spec_kinds.specs.declared.Kind.TheVariants.{Func}
use Rattle.sx_spec_kinds.specs.Blocks.{block_size}
use Rattle.sx_spec.specs.declared.Plan.{Plan}
use Rattle.sx_spec.specs.declared.Signature.{Signature}
use Rattle.sx_spec.specs.Command.{Text}
use Rattle.sx_spec.specs.Kinds.{uses_method}
use Rattle.sx_spec.specs.Laws.{IsHeader}
use Rattle.sx_spec.specs.Parts.{kind_parts, least_width, parts_of, values_part}
use Rattle.sx_spec.specs.Signature.{signature}
use Rattle.sx_spec.specs.StaticFunction.{Entry, Part, part_entries}
use Rattle.sx_parts.specs.Assembling.{IsFuncPlan}
use Rattle.sx_static.specs.declared.FuncBuf.{FuncBuf}
use Rattle.sx_static.specs.Answer.{IsDone, entries_of}
use Rattle.sx_parts.specs.declared.layout.SectionBuf.TheVariants.{Function}
use Rattle.sx_parts.specs.declared.parts.Stop.{Stop}
use Rattle.sx_parts.specs.Assembling.{key_signature, tries}
use Rattle.sx_parts.specs.Sectioning.{AreKindSections, StopsPart, StopsParts, header_for}
use Rattle.sx_parts.proofs.Layouts.{few_words}
use Rattle.sx_parts.proofs.PartLists.{cells_counted, function_few, stops_at, whole}

-- ---- entries

zip_signed : (f : Bits → Signature) (xs : List Bits) (ys : List ℕ) → map (λ (p : Bits × ℕ). (f p.0, p.1)) (zip xs ys) ≡ zip (map f xs) ys
zip_signed f [] ys = refl
zip_signed f (x ∷ xs) [] = refl
zip_signed f (x ∷ xs) (y ∷ ys) = ap (λ l. (f x, y) ∷ l) (zip_signed f xs ys)

pub map_map : {A B C : Type 0} (f : B → C) (g : A → B) (xs : List A) → map f (map g xs) ≡ map (λ x. f (g x)) xs
map_map f g [] = refl
map_map f g (x ∷ xs) = ap (λ l. f (g x) ∷ l) (map_map f g xs)

values_entries : (seed kept width : ℕ) (lines : List Text) (values : List ℕ) → part_entries kept seed (values_part width (map key_bits lines) values) ≡ zip (map (key_signature seed kept) lines) values
values_entries seed kept width lines values =
    zip_signed (signature seed kept) (map key_bits lines) values
    ∙ ap (λ (sigs : List Signature). zip sigs values) (map_map (signature seed kept) key_bits lines)

pub length_zip : {A B : Type 0} (xs : List A) (ys : List B) → length ys ≡ length xs → length (zip xs ys) ≡ length xs
length_zip [] ys e = refl
length_zip (x ∷ xs) [] e = absurd (omega arith)
length_zip (x ∷ xs) (y ∷ ys) e = let rest = length_zip xs ys (omega arith) in omega arith

-- ---- static functions

pub func_header : (plan : Plan) (lines : List Text) (seed : ℕ) → IsFuncPlan plan → length lines ≤ 4194304 → IsHeader (header_for plan lines seed)
func_header plan lines seed offered few =
    let buckets = offered.buckets in
    let signed = offered.signed in
    let handles = offered.handles in
    record {
      method = λ e. let never : true ≡ false = ap uses_method (sym offered.kind) ∙ e in absurd cc;
      keys = omega arith;
      sig_bits = offered.bits;
      log_bucket = omega arith;
      blocks = λ e. buckets;
      signed = omega arith;
      handle_bits = omega arith;
      handles = λ e. handles;
    }

module _ (lines : List Text) (values : List ℕ) (seed : ℕ) (plan : Plan) (offered : IsFuncPlan plan) (as_many : length values ≡ length lines) (few : length lines ≤ 4194304) (sigs : List Signature) (signed : sigs ≡ map (key_signature seed plan.sig_bits) lines) where
  abbrev width : ℕ
  width = least_width values

  abbrev part : Part
  part = values_part width (map key_bits lines) values

  one_part : parts_of plan width lines values ≡ part ∷ []
  one_part = ap (λ (k : Kind). kind_parts k (block_size plan.log_bucket) width (map key_bits lines) values) offered.kind

  entries_are : entries_of sigs values ≡ part_entries plan.sig_bits seed part
  entries_are = ap (λ (s : List Signature). zip s values) signed ∙ sym (values_entries seed plan.sig_bits width lines values)

  count : length (part_entries plan.sig_bits seed part) ≤ 4194304
  count =
      let all : length (part_entries plan.sig_bits seed part) ≡ length (entries_of sigs values) = ap (λ (es : List Entry). length es) (sym entries_are) in
      let many : length sigs ≡ length lines = ap (λ (s : List Signature). length s) signed ∙ length-map lines (key_signature seed plan.sig_bits) in
      let zipped = length_zip sigs values (as_many ∙ sym many) in
      omega arith

  pub func_stops : (stop : Stop) → StopsPart 0 plan.method (entries_of sigs values) stop → StopsParts plan seed (parts_of plan (least_width values) lines values) stop
  func_stops stop is =
      subst (λ (ps : List Part). StopsParts plan seed ps stop) (sym one_part)
      (stops_at plan seed (part ∷ []) [] 0 part stop tt refl (subst (λ (es : List Entry). StopsPart 0 plan.method es stop) entries_are is))

  pub func_done : (f : FuncBuf) → least_width values ≤ 64 → IsDone plan.method tries (least_width values) (entries_of sigs values) f → AreKindSections Func plan lines seed (parts_of plan (least_width values) lines values) (Function f ∷ [])
  func_done f narrow is =
      let done = subst (λ (es : List Entry). IsDone plan.method tries width es f) entries_are is in
      let entries = part_entries plan.sig_bits seed part in
      let words = few_words (Function f ∷ []) (function_few plan.method width entries f done count narrow, tt) in
      let are : AreKindSections Func plan lines seed (part ∷ []) (Function f ∷ []) = record {
        functions = f ∷ [];
        done = (done, tt);
        built = refl;
        whole = (whole plan.method width entries f done, tt);
        few = omega arith;
        cells = (cells_counted plan.method width entries f done count, tt);
      } in
      subst (λ (ps : List Part). AreKindSections Func plan lines seed ps (Function f ∷ [])) (sym one_part) are

-- From sections that are built to a dump, for any kind.
use Rattle.std.proofs.Common.{◌≡◌, ◌≢◌, ℕ, ◌^◌, ◌<◌, ◌≤◌, List, [], length, map, Vec, Global, Result, Ok, Err, IfOk, MatchResult, Some, refl, sym, ap, subst, ◌∙◌, arith}
use Rattle.std.specs.Prelude.{flat_map}
use Rattle.std.proofs.lemmas.List.{length-append}
use Rattle.std.proofs.lemmas.List.FromFn.{length-range_with_len}
use Rattle.sx_spec_kinds.specs.declared.Kind.{Kind}
use Rattle.sx_spec.specs.declared.Limits.{Limits}
use Rattle.sx_spec.specs.declared.Plan.{Plan}
use Rattle.sx_spec.specs.Built.{IsBuilt}
use Rattle.sx_spec.specs.Command.{Text}
use Rattle.sx_spec.specs.Keys.{AreKeys}
use Rattle.sx_spec.specs.Laws.{AreBytes, IsHeader}
use Rattle.sx_spec.specs.Layout.{Dump, Header, dump_bytes, header_words, layout, section_words}
use Rattle.sx_spec.specs.Parts.{least_width, parts_of}
use Rattle.sx_spec.specs.Reply.{member_numbers}
use Rattle.sx_spec.specs.StaticFunction.{IsSeedFailure, Part}
use Rattle.sx_spec.specs.Values.{plain_values}
use Rattle.sx_spec.proofs.BuiltFits.{built_dumps_pass}
use Rattle.sx_spec.proofs.KeyFiles.{faultless_lines_are_keys}
use Rattle.sx_spec.proofs.Replies.{built_dumps_answer_members}
use Rattle.sx_spec.proofs.Words.{length-words_bytes}
use Rattle.sx_static.specs.Answer.{function_of}
use Rattle.sx_bits.specs.KeyLists.{IsWithinStandard}
use Rattle.sx_parts.specs.declared.Assembled.{Assembled}
use Rattle.sx_parts.specs.declared.Assembled.TheVariants.{Words, SeedFailed}
use Rattle.sx_parts.specs.declared.layout.SectionBuf.{SectionBuf}
use Rattle.sx_parts.specs.declared.parts.Stop.{Stop}
use Rattle.sx_parts.specs.declared.parts.Stop.TheVariants.{Memory, Part as PartStop}
use Rattle.sx_parts.specs.Assembling.{IsAssembled, IsDumpOf, IsFailure, failure_of, tries}
use Rattle.sx_parts.specs.Ranking.{IsRanked}
use Rattle.sx_parts.specs.Sectioning.{AreSectionsOf, IsFinished, StopsParts, header_for, section_built}
use Rattle.sx_parts.proofs.Layouts.{sections_laid}
use Rattle.sx_parts.proofs.PartLists.{all_built, all_fit, works}

-- keys of a list are few
pub few_lines : (limits : Limits) (lines : List Text) → IsWithinStandard limits → AreKeys limits lines → length lines ≤ 4194304
few_lines limits lines standard faultless =
    let file = faultless_lines_are_keys limits lines faultless in
    let a = file.count in
    let b = standard.keys in
    omega arith

-- keys and values that a dump is built from; a signed one has no values of its own
pub record AreSources (lines : List Text) (values : List ℕ) (seed : ℕ) (plan : Plan) : Type 0 where
  pub limits : Limits
  pub standard : IsWithinStandard limits
  pub faultless : AreKeys limits lines
  pub bytes : AreBytes lines
  pub as_many : length values ≡ length lines
  pub seed_small : seed < 2 ^ 64
  pub plain : plan.signed ≢ 0 → values ≡ plain_values (length lines)
  pub header : IsHeader (header_for plan lines seed)

module _ (lines : List Text) (values : List ℕ) (seed : ℕ) (plan : Plan) (sources : AreSources lines values seed plan) (width : ℕ) (narrow : width ≤ 64) (sections : List SectionBuf)
    (are : AreSectionsOf plan lines seed (parts_of plan width lines values) sections) where
  abbrev parts : List Part
  parts = parts_of plan width lines values

  abbrev dump : Dump
  dump = record { header = header_for plan lines seed; sections = map section_built sections }

  built : IsBuilt tries plan lines parts seed dump
  built = record {
    header = refl;
    works = works plan seed parts are.functions are.done;
    functions = map function_of are.functions;
    built = all_built plan seed parts are.functions are.done;
    fit = all_fit plan seed parts are.functions are.done;
    sections = are.built;
  }

  few : length (layout dump) < 2 ^ 27
  few =
      let a = are.laid.few in
      let same = ap (λ (ws : List ℕ). length ws) (sections_laid sections are.laid.whole) in
      let b = length-append (header_words dump.header) (flat_map section_words dump.sections) in
      omega arith

  few_keys : length lines ≤ 4194304
  few_keys = few_lines sources.limits lines sources.standard sources.faultless

  ready : (words : List ℕ) → parts ≡ parts_of plan (least_width values) lines values → words ≡ layout dump → IsDumpOf lines values plan seed words
  unfolding built
  ready words same is =
      let n = few_keys in
      let size : length (dump_bytes dump) ≤ 2 ^ 30 = let a = length-words_bytes (layout dump) in let b = few in omega arith in
      record {
        dump = dump;
        built = subst (λ (ps : List Part). IsBuilt tries plan lines ps seed dump) same built;
        passes = built_dumps_pass sources.limits tries width seed plan lines values dump sources.faultless sources.standard.line sources.bytes (omega arith) sources.as_many narrow (omega arith) sources.seed_small sources.header built are.cells size;
        members = built_dumps_answer_members sources.limits tries width seed plan lines values dump sources.faultless sources.bytes (omega arith) sources.as_many sources.plain built;
        words_are = is;
        few = (let a = few in let b = ap (λ (l : List ℕ). length l) is in omega arith);
      }

-- what is finished from the sections, or from why there are none, is what keys and values come to
pub assembled_by : (lines : List Text) (values : List ℕ) (seed : ℕ) (plan : Plan) → AreSources lines values seed plan → (width : ℕ) → width ≤ 64 → parts_of plan width lines values ≡ parts_of plan (least_width values) lines values
    → (r : Result (Vec SectionBuf Global) Stop) (a : Assembled)
    → MatchResult r (λ s. AreSectionsOf plan lines seed (parts_of plan width lines values) s.items) (StopsParts plan seed (parts_of plan width lines values))
    → IsFinished (header_for plan lines seed) r a → IsAssembled lines values plan seed a
assembled_by lines values seed plan sources width narrow same (Ok sections) (Words words) are is = ready lines values seed plan sources width narrow sections.items are words.items same is
assembled_by lines values seed plan sources width narrow same (Ok sections) (SeedFailed fault) are is = absurd is
assembled_by lines values seed plan sources width narrow same (Err Memory) a are is = absurd is
assembled_by lines values seed plan sources width narrow same (Err (PartStop why)) (Words words) are is = absurd is
assembled_by lines values seed plan sources width narrow same (Err (PartStop why)) (SeedFailed fault) are is =
    let all = subst (λ (ps : List Part). StopsParts plan seed ps (PartStop why)) same are in
    subst (λ f. IsFailure lines values plan seed f) (sym is) (record { failure = all.0; kinds = all.1 })

-- the same where memory may be wanting
pub all_assembled : {E : Type 0} (lines : List Text) (values : List ℕ) (seed : ℕ) (plan : Plan) → AreSources lines values seed plan → (width : ℕ) → width ≤ 64 → parts_of plan width lines values ≡ parts_of plan (least_width values) lines values
    → (r : Result (Vec SectionBuf Global) Stop) (h : Header) (o : Result Assembled E)
    → MatchResult r (λ s. AreSectionsOf plan lines seed (parts_of plan width lines values) s.items) (StopsParts plan seed (parts_of plan width lines values))
    → h ≡ header_for plan lines seed → IfOk o (IsFinished h r) → IfOk o (IsAssembled lines values plan seed)
all_assembled lines values seed plan sources width narrow same r h (Err e) are for is = tt
all_assembled lines values seed plan sources width narrow same r h (Ok a) are for is = assembled_by lines values seed plan sources width narrow same r a are (subst (λ (k : Header). IsFinished k r a) for is)

-- what keys come to with values is what they come to with others, where neither the parts nor the answers depend on them
carried : (lines : List Text) (seed : ℕ) (plan : Plan) (values values' : List ℕ) → parts_of plan (least_width values) lines values ≡ parts_of plan (least_width values') lines values' → member_numbers plan.kind values ≡ member_numbers plan.kind values'
    → (a : Assembled) → IsAssembled lines values plan seed a → IsAssembled lines values' plan seed a
carried lines seed plan values values' parts numbers (Words words) is =
    let kind : is.dump.header.plan.kind ≡ plan.kind = ap (λ (h : Header). h.plan.kind) is.built.header in
    let moved : member_numbers is.dump.header.plan.kind values ≡ member_numbers is.dump.header.plan.kind values' =
    subst (λ (k : Kind). member_numbers k values ≡ member_numbers k values') (sym kind) numbers in
    record {
      dump = is.dump;
      built = subst (λ (ps : List Part). IsBuilt tries plan lines ps seed is.dump) parts is.built;
      passes = is.passes;
      members = is.members ∙ ap (λ (ns : List ℕ). map (λ n. Some n) ns) moved;
      words_are = is.words_are;
      few = is.few;
    }
carried lines seed plan values values' parts numbers (SeedFailed fault) is =
    record { failure = subst (λ (ps : List Part). IsSeedFailure plan.method tries plan.sig_bits ps seed (failure_of fault)) parts is.failure; kinds = is.kinds }

-- what keys come to whose parts and whose answers don't depend on values
pub all_ranked : {E : Type 0} (lines : List Text) (seed : ℕ) (plan : Plan) → AreSources lines (plain_values (length lines)) seed plan → ((width width' : ℕ) (values values' : List ℕ) → parts_of plan width lines values ≡ parts_of plan width' lines values')
    → ((values : List ℕ) → member_numbers plan.kind values ≡ plain_values (length values))
    → (r : Result (Vec SectionBuf Global) Stop) (h : Header) (o : Result Assembled E)
    → MatchResult r (λ s. AreSectionsOf plan lines seed (parts_of plan 0 lines []) s.items) (StopsParts plan seed (parts_of plan 0 lines []))
    → h ≡ header_for plan lines seed → IfOk o (IsFinished h r) → IfOk o (IsRanked lines plan seed)
all_ranked lines seed plan sources same ranks r h (Err e) are for is = tt
all_ranked lines seed plan sources same ranks r h (Ok a) are for is =
    let plain = plain_values (length lines) in
    let with_plain : IsAssembled lines plain plan seed a =
    assembled_by lines plain seed plan sources 0 (omega arith) (same 0 (least_width plain) plain plain) r a
    (subst (λ (ps : List Part). MatchResult r (λ s. AreSectionsOf plan lines seed ps s.items) (StopsParts plan seed ps)) (same 0 0 [] plain) are)
    (subst (λ (k : Header). IsFinished k r a) for is) in
    λ values as_many.
    carried lines seed plan plain values (same (least_width plain) (least_width values) plain values)
    (ranks plain ∙ ap plain_values (length-range_with_len 0 (length lines) ∙ sym as_many) ∙ sym (ranks values)) a with_plain

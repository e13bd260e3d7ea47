-- What a build promises whose keys and values were read.
use Rattle.std.proofs.Common.{◌≡◌, ◌≢◌, ◌≤◌, ℕ, List, length, arith, refl, sym, subst, ap, ◌∙◌, inl, inr, ◌⊎◌, Option, Some, None}
use Rattle.std.specs.Prelude.{IsSome}
use Rattle.std.specs.Io.KnownBytes.{Keeps}
use Rattle.std.proofs.lemmas.List.FromFn.{length-range_with_len}
use Rattle.sx_spec.specs.declared.Status.{Status}
use Rattle.sx_spec.specs.declared.Status.TheVariants.{BadInput, Memory}
use Rattle.sx_spec.specs.Causes.{is_fault}
use Rattle.sx_spec.specs.Command.{Text, BuildTask, build}
use Rattle.sx_spec.specs.Keys.{KeyFault, AreKeys, standard_limits}
use Rattle.sx_spec.specs.Layout.{words_bytes}
use Rattle.sx_spec.specs.Messages.{at_values, memory_text, key_text, values_text}
use Rattle.sx_spec.specs.Outcomes.{GivesValues}
use Rattle.sx_spec.specs.Run.{Promise}
use Rattle.sx_spec.specs.Values.{plain_values}
use Rattle.sx_spec.specs.World.{World, Files, CountsStay, KeepsFiles, world}
use Rattle.sx_spec_program.specs.Program.{sux_program, IsOfferedBuild}
use Rattle.sx_edge.specs.Kept.{KeepsFiles-trans}
use Rattle.sx_edge.proofs.Files.{SetsFile-after_kept}
use Rattle.sx_cli.specs.Building.{RefusesLine}
use Rattle.sx_cli.specs.Progress.{ReadsAll}
use Rattle.sx_cli.specs.Storing.{GivenEnds, Stores}
use Rattle.sx_cli.specs.Telling.{Tells, Fails}
use Rattle.sx_cli.specs.ValueLines.{Given, StopsGiving}
use Rattle.sx_text.specs.Reasons.{values_fault_of}
use Rattle.sx_cli.specs.Writing.{SetsPart}
use Rattle.sx_cli.specs.declared.values.ValuesStop.TheVariants.{Refused, Failed}
use Rattle.sx_text.specs.declared.messages.ValuesFault.{ValuesFault}
use Rattle.sx_cli.proofs.Builds.{key_refused, build_memory, values_failed, values_refused, seeds_fail, build_done, dump_failed, line_failed}

kept_part : (name : Text) (bytes : List ℕ) (a b c : Option Files) → KeepsFiles a b → SetsPart name bytes b c → SetsPart name bytes a c
kept_part name bytes a b c k (inl kept) = inl (KeepsFiles-trans a b c k kept)
kept_part name bytes a b c k (inr (part, begins, set)) = inr (part, begins, SetsFile-after_kept name part a b c k set)

-- the values that were given are those that are due
pub gives : (values : Option Text) (keys : ℕ) (before : World) (vs : List ℕ) → Given values keys before.files vs → GivesValues values keys before vs
gives None keys before vs given = given
gives (Some name) keys before vs given = given.told

pub many : (values : Option Text) (keys : ℕ) (files : Option Files) (vs : List ℕ) → Given values keys files vs → length vs ≡ keys
many None keys files vs given = ap (λ (l : List ℕ). length l) given ∙ length-range_with_len 0 keys
many (Some name) keys files vs given = given.as_many

-- with a signed width no file of values is named, so the values are the keys' numbers
pub numbers : (t : BuildTask) (keys : ℕ) (files : Option Files) (vs : List ℕ) → IsOfferedBuild t → Given t.values keys files vs → t.plan.signed ≢ 0 → vs ≡ plain_values keys
numbers t keys files vs offered given width = subst (λ (v : Option Text). Given v keys files vs) (offered.values width) given

module _ (t : BuildTask) (before after : World) (ticks : ℕ) (result : Status) (counts : CountsStay (is_fault result) before after) where
  -- either message is one that may come
  pub refuses_key : (fault : KeyFault) → RefusesLine before.input after.input fault → KeepsFiles before.files after.files → Keeps before.out after.out
      → Tells (key_text fault) BadInput before.err after.err before.faults.err after.faults.err result ⊎ Tells memory_text Memory before.err after.err before.faults.err after.faults.err result
      → Promise sux_program (build t) before after ticks result
  refuses_key fault refuses files out (inl told) = key_refused t before after ticks result counts fault refuses files out told
  refuses_key fault refuses files out (inr told) = build_memory t before after ticks result counts files out told

  module _ (keys : List Text) (all : ReadsAll before.input after.input keys) (valid : AreKeys standard_limits keys) (files : KeepsFiles before.files after.files) (out : Keeps before.out after.out) where
    -- the values file is refused, or memory is wanting for the message
    pub refuses_values : (values : Option Text) → t.values ≡ values → (fault : ValuesFault) (b a : ℕ) → StopsGiving values (length keys) before.files b a (Refused fault)
        → Tells (values_text (length keys) (values_fault_of fault)) BadInput before.err after.err before.faults.err after.faults.err result ⊎ Tells memory_text Memory before.err after.err before.faults.err after.faults.err result
        → Promise sux_program (build t) before after ticks result
    refuses_values None named fault b a stops told = absurd cc
    refuses_values (Some name) named fault b a stops (inl told) = values_refused t before after ticks result counts keys all valid name named (values_fault_of fault) stops files out told
    refuses_values (Some name) named fault b a stops (inr told) = build_memory t before after ticks result counts files out told

    -- the values file failed
    pub fails_values : (values : Option Text) → t.values ≡ values → StopsGiving values (length keys) before.files before.faults.shelf after.faults.shelf Failed
        → Fails at_values before.err after.err before.faults.err after.faults.err result → Promise sux_program (build t) before after ticks result
    fails_values None named stops told = absurd cc
    fails_values (Some name) named stops told = values_failed t before after ticks result counts keys all valid (subst IsSome (sym named) refl) stops files out told

  module _ (keys : List Text) (all : ReadsAll before.input after.input keys) (valid : AreKeys standard_limits keys) (vs : List ℕ) (given : Given t.values (length keys) before.files vs)
      (files : Option Files) (shelf_faults : ℕ) (kept : KeepsFiles before.files files) (later : before.faults.shelf ≤ shelf_faults) where
    abbrev old : World
    old = world files None before.out before.err shelf_faults 0 before.faults.out before.faults.err

    abbrev new : World
    new = world after.files None after.out after.err after.faults.shelf 0 after.faults.out after.faults.err

    -- what the keys and values come to is what is due
    pub given_ends : GivenEnds t keys vs old new result → Promise sux_program (build t) before after ticks result
    given_ends (inl s) = stored s.stores
      where
        due : GivesValues t.values (length keys) before vs
        due = gives t.values (length keys) before vs given

        all_many : length vs ≡ length keys
        all_many = many t.values (length keys) before.files vs given

        stored : Stores t.dump s.words s.line old new result → Promise sux_program (build t) before after ticks result
        stored (inl w) = build_done t before after ticks result counts keys all valid vs due all_many s.words s.line s.ready (SetsFile-after_kept t.dump (words_bytes s.words) before.files files after.files kept w.files) w.out w.err w.is
        stored (inr (inl f)) = let cause = f.cause in
            dump_failed t before after ticks result counts keys all valid vs due all_many s.words s.line s.ready (kept_part t.dump (words_bytes s.words) before.files files after.files kept f.files) (omega (arith, cause, later)) f.out f.count f.told
        stored (inr (inr l)) = line_failed t before after ticks result counts keys all valid vs due all_many s.words s.line s.ready (SetsFile-after_kept t.dump (words_bytes s.words) before.files files after.files kept l.files) l.out l.cause l.told
    given_ends (inr (inl f)) =
        seeds_fail t before after ticks result counts keys all valid vs (gives t.values (length keys) before vs given) (many t.values (length keys) before.files vs given) f.message f.fail
        (subst (KeepsFiles before.files) (sym f.unstored.files) kept) f.unstored.out f.unstored.told
    given_ends (inr (inr u)) = build_memory t before after ticks result counts (subst (KeepsFiles before.files) (sym u.files) kept) u.out u.told

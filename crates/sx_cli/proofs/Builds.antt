-- What each end of `build` promises.
use Rattle.std.proofs.Common.{◌≡◌, ℕ, List, [], ◌++◌, length, refl, sym, ap, subst, ◌∙◌, inl, inr, Option, Some, None, append-nil, ◌⊎◌}
use Rattle.std.specs.Prelude.{IfSome, IsSome}
use Rattle.std.specs.Io.KnownBytes.{Keeps, Appends}
use Rattle.sx_spec_strings.specs.Bits.{IsPrefix}
use Rattle.sx_spec_strings.specs.Lines.{lines}
use Rattle.sx_edge.specs.Parts.{AppendsPrefix}
use Rattle.sx_spec.specs.declared.Status.{Status}
use Rattle.sx_spec.specs.declared.Status.TheVariants.{Done, BadInput, SeedsFailed, Memory}
use Rattle.sx_spec.specs.Causes.{is_fault}
use Rattle.sx_spec.specs.Command.{Text, BuildTask, build}
use Rattle.sx_spec.specs.Keys.{KeyFault, AreKeys, standard_limits}
use Rattle.sx_spec.specs.Layout.{words_bytes, dump_bytes}
use Rattle.sx_spec.specs.Messages.{Place, at_input, at_values, at_dump, at_output, memory_text, built_line, key_text, values_text}
use Rattle.sx_spec.specs.Outcomes.{IsGiven, IsBuildDone, GivesValues, first_values_fault}
use Rattle.sx_spec.specs.Run.{Promise, FilesAfterFault}
use Rattle.sx_spec.specs.Values.{ValuesFault}
use Rattle.sx_spec.specs.World.{World, Outcome, CountsStay, CountRose, OnlyRose, KeepsFiles, SetsFile, partly, to_end, the_shelf, the_input, the_out}
use Rattle.sx_spec_program.specs.Program.{sux_program}
use Rattle.sx_trial.specs.Seeds.{IsReady, AllFail}
use Rattle.sx_cli.specs.Building.{RefusesLine}
use Rattle.sx_cli.specs.Progress.{ReadsAll, FailsBehind}
use Rattle.sx_cli.specs.Telling.{Tells, Fails}
use Rattle.sx_cli.specs.Writing.{SetsPart}
use Rattle.sx_cli.proofs.Endings.{by_message, by_memory_message, by_failure, kept_appends}
use Rattle.sx_cli.proofs.Promises.{by_outcome}
use Rattle.sx_cli.specs.Lines.{longest_line}

-- the lines that were read to the end are those of input
pub all_lines : (old new : Option (List ℕ)) (ls : List Text) → ReadsAll old new ls → IfSome old (λ bytes. ls ≡ lines bytes)
all_lines None new ls r = tt
all_lines (Some xs) None ls r = absurd r.consumed
all_lines (Some xs) (Some ys) ls r = sym r.are ∙ ap lines (sym (append-nil r.taken) ∙ ap (λ (l : List ℕ). r.taken ++ l) (sym r.end) ∙ sym r.consumed)

module _ (t : BuildTask) (before after : World) (ticks : ℕ) (result : Status) (counts : CountsStay (is_fault result) before after) where
  -- where the count of another object than out rose, it isn't out's alone
  not_out : {P : Type 0} (place : Place) → CountRose before after the_shelf ⊎ CountRose before after the_input → OnlyRose before after the_out → P
  not_out place (inl shelf) only = absurd (only.alone the_shelf (λ same. absurd cc) shelf)
  not_out place (inr input) only = absurd (only.alone the_input (λ same. absurd cc) input)

  -- input failed in the midst of the keys
  pub keys_failed : (keys : List Text) → FailsBehind before.input after.input longest_line keys → AreKeys standard_limits keys → CountRose before after the_input
      → KeepsFiles before.files after.files → Keeps before.out after.out → Fails at_input before.err after.err before.faults.err after.faults.err result
      → Promise sux_program (build t) before after ticks result
  keys_failed keys fails valid rose files out told = by_failure (build t) before after ticks at_input result told rose
      (record { taken = fails.taken; consumed = fails.consumed; fine = subst (AreKeys standard_limits) (sym fails.are) valid; short = fails.short })
      [] (kept_appends before.out after.out out) (inl refl) (inl files) (not_out at_input (inr rose)) (λ other e. absurd cc) tt tt counts

  -- a line is no key
  pub key_refused : (fault : KeyFault) → RefusesLine before.input after.input fault
      → KeepsFiles before.files after.files → Keeps before.out after.out → Tells (key_text fault) BadInput before.err after.err before.faults.err after.faults.err result
      → Promise sux_program (build t) before after ticks result
  key_refused fault refuses files out told = by_message (build t) before after ticks
      (record { status = BadInput; reading = partly; out = []; err = key_text fault; file = None })
      (inr (inl (record { fault = fault; first_fault = refuses.first_fault; is = refl })))
      (key_text fault) refl BadInput result refl (λ e. absurd cc) (λ e. absurd cc) refl
      files (refuses.taken, refuses.consumed) (kept_appends before.out after.out out) told (λ other e. absurd cc) tt tt tt counts

  -- memory was wanting
  pub build_memory : KeepsFiles before.files after.files → Keeps before.out after.out
      → Tells memory_text Memory before.err after.err before.faults.err after.faults.err result → Promise sux_program (build t) before after ticks result
  build_memory files out told = by_memory_message (build t) before after ticks result files out (λ other e. absurd cc) told (λ other e. absurd cc) tt tt tt counts

  module _ (keys : List Text) (all : ReadsAll before.input after.input keys) (valid : AreKeys standard_limits keys) where
    -- the values file failed
    pub values_failed : IsSome t.values → CountRose before after the_shelf → KeepsFiles before.files after.files → Keeps before.out after.out
        → Fails at_values before.err after.err before.faults.err after.faults.err result → Promise sux_program (build t) before after ticks result
    values_failed named rose files out told = by_failure (build t) before after ticks at_values result told rose
        (named, (keys, all_lines before.input after.input keys all, valid), files)
        [] (kept_appends before.out after.out out) (inl refl) (inl files) (not_out at_values (inl rose)) (λ other e. absurd cc) tt tt counts

    -- the values file is refused
    pub values_refused : (name : Text) → t.values ≡ Some name → (fault : ValuesFault) → IfSome before.files (λ files. first_values_fault (length keys) (files name) ≡ Some fault)
        → KeepsFiles before.files after.files → Keeps before.out after.out
        → Tells (values_text (length keys) fault) BadInput before.err after.err before.faults.err after.faults.err result → Promise sux_program (build t) before after ticks result
    values_refused name named fault first_fault files out told = by_message (build t) before after ticks
        (record { status = BadInput; reading = to_end; out = []; err = values_text (length keys) fault; file = None })
        (inr (inr (inl (record { keys = keys; name = name; fault = fault; input = all_lines before.input after.input keys all; keys_fit = valid; named = named; first_fault = first_fault; is = refl }))))
        (values_text (length keys) fault) refl BadInput result refl (λ e. absurd cc) (λ e. absurd cc) refl
        files (all.taken, all.consumed, all.end) (kept_appends before.out after.out out) told (λ other e. absurd cc) tt tt tt counts

    module _ (values : List ℕ) (gives : GivesValues t.values (length keys) before values) (many : length values ≡ length keys) where
      given : IsGiven sux_program t before keys values
      given = record { input = all_lines before.input after.input keys all; keys_fit = valid; values_fit = gives; as_many = many }

      -- no seed works
      pub seeds_fail : (message : Text) → AllFail t.plan t.seeds keys values message → KeepsFiles before.files after.files → Keeps before.out after.out
          → Tells message SeedsFailed before.err after.err before.faults.err after.faults.err result → Promise sux_program (build t) before after ticks result
      seeds_fail message fail files out told = by_message (build t) before after ticks
          (record { status = SeedsFailed; reading = to_end; out = []; err = sux_program.seeds_text t.plan t.seeds fail.failures; file = None })
          (inr (inr (inr (record { keys = keys; values = values; failures = fail.failures; given = given; each_seed = fail.each_seed; is = refl }))))
          message (sym fail.message_is) SeedsFailed result refl (λ e. absurd cc) (λ e. absurd cc) refl
          files (all.taken, all.consumed, all.end) (kept_appends before.out after.out out) told (λ other e. absurd cc) tt tt tt counts

      module _ (words line : List ℕ) (ready : IsReady t.plan t.seeds keys values words line) where
        outcome : Outcome
        outcome = record { status = Done; reading = to_end; out = built_line ready.dump; err = []; file = Some (t.dump, dump_bytes ready.dump) }

        done : IsBuildDone sux_program t before outcome
        unfolding outcome
        done = record {
          keys = keys;
          values = values;
          seed = ready.seed;
          dump = ready.dump;
          given = given;
          first_seed = ready.first_seed;
          built = ready.built;
          passes = ready.passes;
          members = ready.members;
          is = refl;
        }

        bytes_are : words_bytes words ≡ dump_bytes ready.dump
        bytes_are = ap words_bytes ready.words_are

        -- the file that is due, as far as it was written
        part_files : SetsPart t.dump (words_bytes words) before.files after.files → FilesAfterFault sux_program (build t) before after
        unfolding outcome
        part_files (inl kept) = inl kept
        part_files (inr (part, begins, set)) = inr (outcome, inl done, (part, subst (IsPrefix part) bytes_are begins, set))

        whole_set : SetsFile t.dump (words_bytes words) before.files after.files → SetsFile t.dump (dump_bytes ready.dump) before.files after.files
        whole_set files = subst (λ (bs : List ℕ). SetsFile t.dump bs before.files after.files) bytes_are files

        -- the dump is written, and the line on out
        pub build_done : SetsFile t.dump (words_bytes words) before.files after.files → Appends before.out after.out line → Keeps before.err after.err → result ≡ Done → Promise sux_program (build t) before after ticks result
        unfolding outcome
        build_done files out err is = by_outcome sux_program (build t) before after ticks result outcome (inl done) (sym is) (λ e. absurd cc) (λ e. absurd cc)
            (record {
              files = whole_set files;
              input = (all.taken, all.consumed, all.end);
              out = subst (Appends before.out after.out) ready.line_is out;
              err = kept_appends before.err after.err err;
            })
            tt tt counts

        -- a call on the shelf failed
        pub dump_failed : SetsPart t.dump (words_bytes words) before.files after.files → CountRose before after the_shelf → Keeps before.out after.out → after.faults.out ≡ before.faults.out
            → Fails at_dump before.err after.err before.faults.err after.faults.err result → Promise sux_program (build t) before after ticks result
        dump_failed files rose out count told = by_failure (build t) before after ticks at_dump result told rose ((outcome, done), record { bytes = out; count = count })
            [] (kept_appends before.out after.out out) (inl refl) (part_files files) (not_out at_dump (inl rose)) (λ other e. absurd cc) tt tt counts

        -- a write of the line failed
        pub line_failed : SetsFile t.dump (words_bytes words) before.files after.files → AppendsPrefix before.out after.out line → CountRose before after the_out
            → Fails at_output before.err after.err before.faults.err after.faults.err result → Promise sux_program (build t) before after ticks result
        unfolding outcome
        line_failed files (part, begins, out) rose told = by_failure (build t) before after ticks at_output result told rose tt
            part out (inr (outcome, inl done, subst (IsPrefix part) ready.line_is begins))
            (inr (outcome, inl done, (dump_bytes ready.dump, ([], sym (append-nil (dump_bytes ready.dump))), whole_set files)))
            (λ only other same. (outcome, subst (λ (x : BuildTask). IsBuildDone sux_program x before outcome) (same_task other same) done, whole_set files))
            (λ other e. absurd cc) tt tt counts
          where
            same_task : (other : BuildTask) → build t ≡ build other → t ≡ other
            same_task other e = cc

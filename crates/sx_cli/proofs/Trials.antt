-- What each end of `trial` promises.
use Rattle.std.proofs.Common.{◌≡◌, ℕ, List, [], refl, sym, subst, inl, inr, None}
use Rattle.std.specs.Io.KnownBytes.{Keeps, Appends}
use Rattle.sx_spec_strings.specs.Bits.{IsPrefix}
use Rattle.sx_edge.specs.Parts.{AppendsPrefix}
use Rattle.sx_spec_kinds.specs.declared.Kind.{Kind}
use Rattle.sx_spec.specs.declared.Status.{Status}
use Rattle.sx_spec.specs.declared.Status.TheVariants.{Done, SeedsFailed, Memory}
use Rattle.sx_spec.specs.Causes.{is_fault}
use Rattle.sx_spec.specs.Command.{Text, trial, default_plan, default_seeds}
use Rattle.sx_spec.specs.Messages.{Place, at_output, memory_text}
use Rattle.sx_spec.specs.Outcomes.{IsDue, trial_line}
use Rattle.sx_spec.specs.Run.{Promise}
use Rattle.sx_spec.specs.Trial.{trial_keys}
use Rattle.sx_spec.specs.Values.{plain_values}
use Rattle.sx_spec.specs.World.{World, Outcome, CountsStay, CountRose, KeepsShelf, KeepsInput, untouched, the_out}
use Rattle.sx_spec_program.specs.Program.{sux_program}
use Rattle.sx_trial.specs.Seeds.{AllFail}
use Rattle.sx_trial.specs.Trials.{IsLine}
use Rattle.sx_cli.specs.Telling.{Tells, Fails}
use Rattle.sx_cli.proofs.Endings.{by_message, by_memory_message, by_failure, kept_appends}
use Rattle.sx_cli.proofs.Promises.{by_outcome}

module _ (kind : Kind) (n : ℕ) (before after : World) (ticks : ℕ) (result : Status) (counts : CountsStay (is_fault result) before after) (shelf : KeepsShelf before after) (input : KeepsInput before after) where
  -- memory was wanting
  pub trial_memory : Keeps before.out after.out → Tells memory_text Memory before.err after.err before.faults.err after.faults.err result → Promise sux_program (trial kind n) before after ticks result
  trial_memory out told = by_memory_message (trial kind n) before after ticks result shelf.files out (λ other e. absurd cc) told (λ other e. absurd cc) tt tt (shelf, input) counts

  -- no default seed works
  pub seeds_fail : (message : Text) → AllFail (default_plan kind) default_seeds (trial_keys n) (plain_values n) message → Keeps before.out after.out
      → Tells message SeedsFailed before.err after.err before.faults.err after.faults.err result → Promise sux_program (trial kind n) before after ticks result
  seeds_fail message fail out told = by_message (trial kind n) before after ticks
      (record { status = SeedsFailed; reading = untouched; out = []; err = sux_program.seeds_text (default_plan kind) default_seeds fail.failures; file = None })
      (inr (record { failures = fail.failures; each_seed = fail.each_seed; is = refl }))
      message (sym fail.message_is) SeedsFailed result refl (λ e. absurd cc) (λ e. absurd cc) refl
      shelf.files input.bytes (kept_appends before.out after.out out) told (λ other e. absurd cc) tt tt (shelf, input) counts

  module _ (line : List ℕ) (made : IsLine kind n line) where
    outcome : Outcome
    outcome = record { status = Done; reading = untouched; out = trial_line kind n made.dump; err = []; file = None }

    due : IsDue sux_program (trial kind n) before outcome
    unfolding outcome
    due = inl (record { seed = made.seed; dump = made.dump; first_seed = made.first_seed; built = made.built; passes = made.passes; is = refl })

    -- the line was written
    pub line_written : Appends before.out after.out line → Keeps before.err after.err → result ≡ Done → Promise sux_program (trial kind n) before after ticks result
    unfolding outcome
    line_written out err is = by_outcome sux_program (trial kind n) before after ticks result outcome due (sym is) (λ e. absurd cc) (λ e. absurd cc)
        (record {
          files = shelf.files;
          input = input.bytes;
          out = subst (Appends before.out after.out) made.line_is out;
          err = kept_appends before.err after.err err;
        })
        tt (shelf, input) counts

    -- a write of the line failed
    pub line_failed : AppendsPrefix before.out after.out line → CountRose before after the_out
        → Fails at_output before.err after.err before.faults.err after.faults.err result → Promise sux_program (trial kind n) before after ticks result
    unfolding outcome
    line_failed (part, begins, out) rose told = by_failure (trial kind n) before after ticks at_output result told rose tt
        part out (inr (outcome, due, subst (IsPrefix part) made.line_is begins)) (inl shelf.files) (λ only b e. absurd cc) (λ other e. absurd cc)
        tt (shelf, input) counts

-- What each end of `open` and of `dump` promises.
use Rattle.std.proofs.Common.{◌≡◌, ℕ, [], refl, sym, subst, inl, inr, None}
use Rattle.std.specs.Io.KnownBytes.{Keeps}
use Rattle.sx_spec.specs.declared.Status.{Status}
use Rattle.sx_spec.specs.declared.Status.TheVariants.{Done, BadDump, Memory}
use Rattle.sx_spec.specs.Causes.{is_fault}
use Rattle.sx_spec.specs.Command.{Text, BuildTask, build, query}
use Rattle.sx_spec.specs.Layout.{Dump}
use Rattle.sx_spec.specs.Messages.{Place, at_dump, at_output, at_error, memory_text}
use Rattle.sx_spec.specs.Outcomes.{IsDue, IsDumpRefused, IsShown}
use Rattle.sx_spec.specs.Run.{Promise, QueryReads, KeepsUnused, DumpMayFail}
use Rattle.sx_spec.specs.World.{World, Outcome, CountsStay, KeepsFiles, KeepsInput, untouched}
use Rattle.sx_spec_program.specs.Program.{sux_program}
use Rattle.sx_cli.specs.Opening.{IsOpened, StopsAtFile, StopsAtCheck}
use Rattle.sx_cli.specs.Showing.{wanted_task, wanted_text, Shows}
use Rattle.sx_cli.specs.Telling.{Tells}
use Rattle.sx_cli.specs.declared.show.Wanted.{Wanted}
use Rattle.sx_cli.specs.declared.show.Wanted.TheVariants.{Line, Whole}
use Rattle.sx_cli.proofs.Asked.{stored_of}
use Rattle.sx_cli.proofs.Endings.{by_message, by_memory_message, by_failure, kept_appends}
use Rattle.sx_cli.proofs.Promises.{by_outcome}

-- ---- what the definitions say of either command

due_refused : (w : Wanted) (name : Text) (before : World) (o : Outcome) → IsDumpRefused sux_program name before o → IsDue sux_program (wanted_task w name) before o
due_refused Line name before o r = inr r
due_refused Whole name before o r = inr r

due_shown : (w : Wanted) (name : Text) (before : World) (o : Outcome) → IsShown sux_program name (wanted_text w) before o → IsDue sux_program (wanted_task w name) before o
due_shown Line name before o s = inl s
due_shown Whole name before o s = inl s

no_reads : (w : Wanted) (name : Text) (before after : World) (place : Place) (ticks : ℕ) → QueryReads sux_program (wanted_task w name) before after place ticks
no_reads Line name before after place ticks = tt
no_reads Whole name before after place ticks = tt

keeps_input : (w : Wanted) (name : Text) (before after : World) → KeepsInput before after → KeepsUnused (wanted_task w name) before after
keeps_input Line name before after k = k
keeps_input Whole name before after k = k

may_fail : (w : Wanted) (name : Text) (before after : World) → DumpMayFail sux_program (wanted_task w name) before after
may_fail Line name before after = tt
may_fail Whole name before after = tt

no_query : {P : Type 0} (w : Wanted) (name other : Text) → wanted_task w name ≡ query other → P
no_query Line name other e = absurd cc
no_query Whole name other e = absurd cc

no_build : {P : Type 0} (w : Wanted) (name : Text) (b : BuildTask) → wanted_task w name ≡ build b → P
no_build Line name b e = absurd cc
no_build Whole name b e = absurd cc

-- ---- the ends

module _ (w : Wanted) (name : Text) (before after : World) (ticks : ℕ) (result : Status) (counts : CountsStay (is_fault result) before after) (input : KeepsInput before after) (files : KeepsFiles before.files after.files) where
  -- there is no such dump
  refused : Keeps before.out after.out → (reason : Text) (o : Outcome) → o ≡ record { status = BadDump; reading = untouched; out = []; err = reason; file = None } → IsDumpRefused sux_program name before o
      → Tells reason BadDump before.err after.err before.faults.err after.faults.err result → Promise sux_program (wanted_task w name) before after ticks result
  refused out reason o is r told = by_message (wanted_task w name) before after ticks
      (record { status = BadDump; reading = untouched; out = []; err = reason; file = None }) (due_refused w name before (record { status = BadDump; reading = untouched; out = []; err = reason; file = None }) (subst (IsDumpRefused sux_program name before) is r))
      reason refl BadDump result refl (λ e. absurd cc) (λ e. absurd cc) refl
      files input.bytes (kept_appends before.out after.out out) told (λ other e. no_query w name other e)
      (no_reads w name before after at_output ticks) (no_reads w name before after at_error ticks) (keeps_input w name before after input) counts

  -- memory was wanting
  wanting : Keeps before.out after.out → Tells memory_text Memory before.err after.err before.faults.err after.faults.err result → Promise sux_program (wanted_task w name) before after ticks result
  wanting out told = by_memory_message (wanted_task w name) before after ticks result files out (λ other e. no_query w name other e) told (λ other e. no_query w name other e)
      (no_reads w name before after at_output ticks) (no_reads w name before after at_error ticks) (keeps_input w name before after input) counts

  -- the file isn't there, or couldn't be read
  pub file_stops : Keeps before.out after.out → StopsAtFile name before.files before.faults.shelf after.faults.shelf before.err after.err before.faults.err after.faults.err result
      → Promise sux_program (wanted_task w name) before after ticks result
  file_stops out (inl r) = refused out r.reason _ refl (record { reason = r.reason; first_reason = r.first_reason; is = refl }) r.told
  file_stops out (inr (inl (rose, told))) = by_failure (wanted_task w name) before after ticks at_dump result told rose (may_fail w name before after)
      [] (kept_appends before.out after.out out) (inl refl) (inl files) (λ only b e. no_build w name b e) (λ other e. no_query w name other e)
      (no_reads w name before after at_dump ticks) (keeps_input w name before after input) counts
  file_stops out (inr (inr told)) = wanting out told

  -- the file is no dump
  pub check_stops : Keeps before.out after.out → StopsAtCheck name before.files before.err after.err before.faults.err after.faults.err result → Promise sux_program (wanted_task w name) before after ticks result
  check_stops out (inl r) = refused out r.reason _ refl (record { reason = r.reason; first_reason = r.first_reason; is = refl }) r.told
  check_stops out (inr told) = wanting out told

  module _ (d : Dump) (opened : IsOpened name before.files d) where
    outcome : Outcome
    outcome = record { status = Done; reading = untouched; out = wanted_text w d; err = []; file = None }

    due : IsDue sux_program (wanted_task w name) before outcome
    unfolding outcome
    due = due_shown w name before outcome (record { dump = d; stored = stored_of name before d opened; is = refl })

    -- the text was written, or not to its end, or not begun
    pub shown_ends : Shows (wanted_text w d) before.out after.out before.faults.out after.faults.out before.err after.err before.faults.err after.faults.err result
        → Promise sux_program (wanted_task w name) before after ticks result
    unfolding outcome
    shown_ends (inl s) = let is = s.is in by_outcome sux_program (wanted_task w name) before after ticks result outcome due (sym s.is) (λ e. absurd cc) (λ e. absurd cc)
        (record { files = files; input = input.bytes; out = s.out; err = kept_appends before.err after.err s.err })
        (no_reads w name before after at_output ticks) (keeps_input w name before after input) counts
    shown_ends (inr (inl s)) = by_failure (wanted_task w name) before after ticks at_output result s.told s.cause tt
        s.out.0 s.out.2 (inr (outcome, due, s.out.1)) (inl files) (λ only b e. no_build w name b e) (λ other e. no_query w name other e)
        (no_reads w name before after at_output ticks) (keeps_input w name before after input) counts
    shown_ends (inr (inr u)) = wanting u.out u.told

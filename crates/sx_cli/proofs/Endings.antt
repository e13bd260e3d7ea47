-- The ends of a run that a message on err goes with.
use Rattle.std.proofs.Common.{◌≡◌, ◌≢◌, ℕ, List, [], ◌++◌, true, refl, sym, subst, ◌∙◌, inl, inr, ◌⊎◌, Option, Some, None, append-nil}
use Rattle.std.specs.Io.KnownBytes.{Keeps, Appends}
use Rattle.sx_spec_strings.specs.Bits.{IsPrefix}
use Rattle.sx_spec.specs.declared.Status.{Status}
use Rattle.sx_spec.specs.declared.Status.TheVariants.{Fault, Memory}
use Rattle.sx_spec.specs.Causes.{is_fault}
use Rattle.sx_spec.specs.Command.{Text, Task, BuildTask, build, query}
use Rattle.sx_spec.specs.Messages.{Place, at_output, at_error, memory_text}
use Rattle.sx_spec.specs.Outcomes.{IsDue, IsBuildDone}
use Rattle.sx_spec.specs.Run.{Promise, QueryReads, QueryAfterFault, KeepsUnused, BeginsDue, ErrAfterFault, MayFail, FilesAfterFault}
use Rattle.sx_spec.specs.World.{World, Outcome, CountsStay, CountRose, OnlyRose, KeepsFiles, ChangesFiles, Reads, the_err, the_out, object_at, Files}
use Rattle.sx_spec_program.specs.Program.{sux_program}
use Rattle.sx_cli.specs.Telling.{Tells, Fails}
use Rattle.sx_cli.proofs.Promises.{by_outcome, by_memory, by_fault, counts_as}

pub same_files : (o : Option Files) → KeepsFiles o o
same_files None = tt
same_files (Some f) = λ name. refl

-- what is kept got nothing
pub kept_appends : (a b : Option (List ℕ)) → Keeps a b → Appends a b []
kept_appends None b k = tt
kept_appends (Some xs) None k = k
kept_appends (Some xs) (Some ys) k = k ∙ sym (append-nil xs)

module _ (task : Task) (before after : World) (ticks : ℕ) where
  -- what err got where a call on the object of a place failed
  pub err_after : (place : Place) (result : Status) → Fails place before.err after.err before.faults.err after.faults.err result → ErrAfterFault sux_program task before after place
  err_after place result fails = record {
    message = [];
    note = fails.note;
    written = fails.err;
    message_begins = inl (inl refl);
    note_begins = fails.begins;
    calm = λ calm. (refl, fails.calm calm);
  }

  -- a write of a message failed
  pub cut_off : (part note : Text) → BeginsDue sux_program task before (λ o. o.err) part ⊎ IsPrefix part memory_text → Appends before.err after.err (part ++ note)
      → IsPrefix note (sux_program.fault_text at_error) → CountRose before after the_err
      → (out : Text) → Appends before.out after.out out → BeginsDue sux_program task before (λ o. o.out) out → KeepsFiles before.files after.files
      → ((name : Text) → task ≡ query name → QueryAfterFault sux_program name before after at_error) → QueryReads sux_program task before after at_error ticks
      → KeepsUnused task before after → CountsStay true before after → Promise sux_program task before after ticks Fault
  cut_off part note begins err note_begins rose out out_got out_begins files queries reads unused counts =
      by_fault sux_program task before after ticks
      (record {
        place = at_error;
        cause = rose;
        may_fail = tt;
        err_got = record {
          message = part;
          note = note;
          written = err;
          message_begins = begins;
          note_begins = note_begins;
          calm = λ calm. absurd (calm rose);
        };
        out_text = out;
        out_got = out_got;
        out_begins = out_begins;
        files = inl files;
        whole_file = λ only. absurd (only.alone the_err (λ same. absurd cc) rose);
        queries = queries;
        reads = reads;
      })
      unused counts

  -- an outcome that is due comes with a message
  pub by_message : (o : Outcome) → IsDue sux_program task before o → (text : Text) → o.err ≡ text → (status result : Status) → o.status ≡ status → status ≢ Fault → status ≢ Memory → o.file ≡ None
      → KeepsFiles before.files after.files → Reads o.reading before.input after.input → Appends before.out after.out o.out
      → Tells text status before.err after.err before.faults.err after.faults.err result
      → ((name : Text) → task ≡ query name → QueryAfterFault sux_program name before after at_error) → QueryReads sux_program task before after at_output ticks → QueryReads sux_program task before after at_error ticks
      → KeepsUnused task before after → CountsStay (is_fault result) before after → Promise sux_program task before after ticks result
  by_message o due text text_is status result same no_fault no_memory no_file files input out (inl told) queries reads reads_cut unused counts =
      subst (Promise sux_program task before after ticks) (sym told.is)
      (by_outcome sux_program task before after ticks status o due same no_fault no_memory
      (record {
        files = subst (λ f. ChangesFiles f before.files after.files) (sym no_file) files;
        input = input;
        out = out;
        err = subst (Appends before.err after.err) (sym text_is) told.err;
      })
      reads unused (counts_as before after result status told.is counts))
  by_message o due text text_is status result same no_fault no_memory no_file files input out (inr cut) queries reads reads_cut unused counts =
      subst (Promise sux_program task before after ticks) (sym cut.is)
      (cut_off cut.part cut.note (inl (inr (o, due, subst (IsPrefix cut.part) (sym text_is) cut.begins))) cut.err cut.note_begins cut.cause
      o.out out (inr (o, due, ([], sym (append-nil o.out)))) files queries reads_cut unused (counts_as before after result Fault cut.is counts))

  -- memory was wanting, and that is told
  pub by_memory_message : (result : Status) → KeepsFiles before.files after.files → Keeps before.out after.out
      → ((name : Text) → task ≡ query name → Keeps before.input after.input)
      → Tells memory_text Memory before.err after.err before.faults.err after.faults.err result
      → ((name : Text) → task ≡ query name → QueryAfterFault sux_program name before after at_error) → QueryReads sux_program task before after at_output ticks → QueryReads sux_program task before after at_error ticks
      → KeepsUnused task before after → CountsStay (is_fault result) before after → Promise sux_program task before after ticks result
  by_memory_message result files out input (inl told) queries reads reads_cut unused counts =
      subst (Promise sux_program task before after ticks) (sym told.is)
      (by_memory sux_program task before after ticks (record { files = files; out = out; err = told.err; input = input }) reads unused (counts_as before after result Memory told.is counts))
  by_memory_message result files out input (inr cut) queries reads reads_cut unused counts =
      subst (Promise sux_program task before after ticks) (sym cut.is)
      (cut_off cut.part cut.note (inr cut.begins) cut.err cut.note_begins cut.cause [] (kept_appends before.out after.out out) (inl refl) files queries reads_cut unused (counts_as before after result Fault cut.is counts))

  -- a call on the object of a place failed, before anything was written to out
  pub by_failure : (place : Place) (result : Status) → Fails place before.err after.err before.faults.err after.faults.err result
      → CountRose before after (object_at place) → MayFail sux_program task before after place
      → (out : Text) → Appends before.out after.out out → BeginsDue sux_program task before (λ o. o.out) out → FilesAfterFault sux_program task before after
      → (OnlyRose before after the_out → (b : BuildTask) → task ≡ build b → (o : Outcome) × IsBuildDone sux_program b before o × ChangesFiles o.file before.files after.files)
      → ((name : Text) → task ≡ query name → QueryAfterFault sux_program name before after place) → QueryReads sux_program task before after place ticks
      → KeepsUnused task before after → CountsStay (is_fault result) before after → Promise sux_program task before after ticks result
  by_failure place result fails rose may out out_got out_begins files whole queries reads unused counts =
      subst (Promise sux_program task before after ticks) (sym fails.is)
      (by_fault sux_program task before after ticks
      (record {
        place = place;
        cause = rose;
        may_fail = may;
        err_got = err_after place result fails;
        out_text = out;
        out_got = out_got;
        out_begins = out_begins;
        files = files;
        whole_file = whole;
        queries = queries;
        reads = reads;
      })
      unused (counts_as before after result Fault fails.is counts))

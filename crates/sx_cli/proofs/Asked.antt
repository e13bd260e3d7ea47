-- What a query promises whose dump was opened.
use Rattle.std.proofs.Common.{◌≡◌, ℕ, None, ◌+◌, ◌<◌, ◌≤◌, length, sym, subst, inl, inr}
use Rattle.sx_spec.specs.declared.Status.{Status}
use Rattle.sx_spec.specs.declared.Status.TheVariants.{BadInput}
use Rattle.sx_spec.specs.Causes.{is_fault}
use Rattle.sx_spec.specs.Command.{Text, query}
use Rattle.sx_spec.specs.Keys.{standard_limits}
use Rattle.sx_spec.specs.Layout.{Dump}
use Rattle.sx_spec.specs.Messages.{long_query_text, many_queries_text}
use Rattle.sx_spec.specs.Outcomes.{IsStored}
use Rattle.sx_spec.specs.Run.{Promise}
use Rattle.sx_spec.specs.World.{World, CountsStay, KeepsFiles, KeepsInput, world}
use Rattle.sx_spec_program.specs.Program.{sux_program}
use Rattle.sx_cli.specs.declared.serve.Served.{Served}
use Rattle.sx_cli.specs.declared.serve.Served.TheVariants.{Done, TooLong, TooMany, InputFailed, OutputFailed}
use Rattle.sx_cli.specs.Serving.{ServedTo, Ends}
use Rattle.sx_cli.specs.Telling.{Tells}
use Rattle.sx_cli.proofs.FirstFaults.{long_query_is, many_queries_is}
use Rattle.sx_cli.proofs.Queries.{file_failed, dump_refused, query_memory, query_done, input_failed, answers_failed, line_refused}
use Rattle.sx_cli.specs.Opening.{IsOpened, StopsAtFile, StopsAtCheck}
use Rattle.std.specs.Io.KnownBytes.{Keeps}
use Rattle.sx_cli.specs.Lines.{longest_line}

module _ (name : Text) (before after : World) (ticks : ℕ) (result : Status) (counts : CountsStay (is_fault result) before after) (d : Dump) (stored : IsStored sux_program name before d) where
  abbrev old : World
  old = world None before.input before.out None 0 before.faults.input before.faults.out 0

  abbrev new : World
  new = world None after.input after.out None 0 after.faults.input after.faults.out 0

  -- what the lines came to is as much of what is due as could be done
  pub served_ends : (served : Served) → ServedTo d old new ticks served → KeepsFiles before.files after.files → Ends served before.err after.err before.faults.err after.faults.err result
      → Promise sux_program (query name) before after ticks result
  served_ends Done all files e = query_done name before after ticks result counts d stored all.lines all.all all.answered files e.err e.is
  served_ends (TooLong line) long files e =
      line_refused name before after ticks result counts d stored long.lines (long_query_text (length long.lines + 1)) (λ l. longest_line < length l) long.stops long.answered
      (λ l more is. long_query_is standard_limits long.lines l more long.answered.queries.short long.answered.queries.few is) files
      (subst (λ (n : ℕ). Tells (long_query_text n) BadInput before.err after.err before.faults.err after.faults.err result) long.at e)
  served_ends TooMany many files e =
      line_refused name before after ticks result counts d stored many.lines (many_queries_text (length many.lines + 1)) (λ l. length l ≤ longest_line) many.stops many.answered
      (λ l more is. many_queries_is standard_limits many.lines l more many.answered.queries.short many.many is) files
      (subst (λ (n : ℕ). Tells (many_queries_text (n + 1)) BadInput before.err after.err before.faults.err after.faults.err result) (sym many.many) e)
  served_ends InputFailed broken files e = input_failed name before after ticks result counts d stored broken.lines broken.fails broken.answered broken.cause files e
  served_ends OutputFailed broken files e =
      answers_failed name before after ticks result counts d stored broken.lines broken.behind broken.queries broken.bound broken.out.0 broken.out.1 broken.out.2 broken.cause files e

module _ (name : Text) (before after : World) (ticks : ℕ) (result : Status) (counts : CountsStay (is_fault result) before after) (none : ticks ≡ 0) (files : KeepsFiles before.files after.files) (input : KeepsInput before after) (out : Keeps before.out after.out) where
  -- the file isn't there, or couldn't be read
  pub file_stops : StopsAtFile name before.files before.faults.shelf after.faults.shelf before.err after.err before.faults.err after.faults.err result → Promise sux_program (query name) before after ticks result
  file_stops (inl r) = dump_refused name before after ticks result counts none r.reason r.first_reason files input out r.told
  file_stops (inr (inl (rose, told))) = file_failed name before after ticks result counts none rose files out told
  file_stops (inr (inr told)) = query_memory name before after ticks result counts none files input out told

  -- the file is no dump
  pub check_stops : StopsAtCheck name before.files before.err after.err before.faults.err after.faults.err result → Promise sux_program (query name) before after ticks result
  check_stops (inl r) = dump_refused name before after ticks result counts none r.reason r.first_reason files input out r.told
  check_stops (inr told) = query_memory name before after ticks result counts none files input out told

-- the file that was opened is stored
pub stored_of : (name : Text) (before : World) (d : Dump) → IsOpened name before.files d → IsStored sux_program name before d
stored_of name before d o = record { file = o.file; passes = o.passes; accepted = o.accepted }

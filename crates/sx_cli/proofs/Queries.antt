-- What each end of `query` promises.
use Rattle.std.proofs.Common.{◌≡◌, ℕ, ◌+◌, ◌-◌, ◌≤◌, List, [], ◌∷◌, ◌++◌, length, take, refl, sym, ap, subst, ◌∙◌, arith, inl, inr, Option, Some, None, append-nil, append_assoc}
use Rattle.std.specs.Prelude.{IfSome, nat_lt, option_map}
use Rattle.std.specs.Io.KnownBytes.{Keeps, Appends, Consumes}
use Rattle.std.specs.List.{filter_map, enumerate_from, cons_option}
use Rattle.std.specs.Option.{option_map_or}
use Rattle.std.proofs.lemmas.Grind.{flat_map-append}
use Rattle.std.proofs.lemmas.List.Elements.{filter_map-append}
use Rattle.std.proofs.lemmas.List.Sums.{sum_by-append}
use Rattle.std.proofs.Math.Seq.{take-append-add}
use Rattle.sx_spec_strings.specs.Bits.{IsPrefix}
use Rattle.sx_spec_strings.specs.First.{first, first_holding}
use Rattle.sx_spec_strings.specs.Lines.{lines, complete_lines}
use Rattle.sx_spec.specs.declared.Limits.{Limits}
use Rattle.sx_spec.specs.Causes.{is_fault}
use Rattle.sx_spec.specs.Command.{Text}
use Rattle.sx_spec.specs.Layout.{Dump}
use Rattle.sx_spec.specs.Messages.{long_query_text, many_queries_text}
use Rattle.sx_spec.specs.Outcomes.{QueryFault, query_refusal, first_query_fault, served, max_queries}
use Rattle.sx_spec.specs.Reply.{answers, all_reads, reads}
use Rattle.sx_spec.specs.declared.Status.{Status}
use Rattle.sx_spec.specs.declared.Status.TheVariants.{Done, BadInput, BadDump, Memory}
use Rattle.sx_spec.specs.Command.{Task, query}
use Rattle.sx_spec.specs.Keys.{standard_limits}
use Rattle.sx_spec.specs.Messages.{Place, at_input, at_dump, at_output, at_error, memory_text}
use Rattle.sx_spec.specs.Outcomes.{IsDue, IsStored, InputHas, dump_refusal}
use Rattle.sx_spec.specs.Run.{Promise, ReadsWithin, QueryAfterFault, BeginsDue, taken_lines}
use Rattle.sx_spec.specs.World.{World, Outcome, CountsStay, CountRose, KeepsFiles, KeepsInput, untouched, partly, to_end, the_shelf, the_input, the_out}
use Rattle.sx_spec_program.specs.Program.{sux_program}
use Rattle.sx_cli.specs.Progress.{Begins, BreaksBehind, ReadsAll, FailsBehind, StopsAt}
use Rattle.sx_cli.specs.Served.{AreQueries, Answers}
use Rattle.sx_cli.specs.Telling.{Tells, Fails}
use Rattle.sx_cli.proofs.Builds.{all_lines}
use Rattle.sx_cli.proofs.Endings.{by_message, by_memory_message, by_failure, kept_appends}
use Rattle.sx_cli.proofs.Promises.{by_outcome}
use Rattle.sx_cli.proofs.FirstFaults.{served_before, enumerate_from-append, queries_fine, no_query_fault, all_served}
use Rattle.sx_cli.specs.Lines.{longest_line}

-- ---- the lines that are served

-- a refusal names the line's number
refusal_line : (limits : Limits) (n : ℕ) (line : Text) (fault : QueryFault) → query_refusal limits (n, line) ≡ Some fault → fault.line ≡ n
refusal_line limits n line fault e = named (first_holding ((nat_lt limits.max_line (length line), long_query_text n) ∷ (nat_lt max_queries n, many_queries_text n) ∷ [])) e
  where
    named : (o : Option Text) → option_map (λ text. record { line = n; text = text }) o ≡ Some fault → fault.line ≡ n
    named None e = absurd cc
    named (Some text) e = ap (λ (f : Option QueryFault). option_map_or (λ (x : QueryFault). x.line) f n) (sym e)

-- the first refusal of lines numbered from n on names one of them
refusal_behind : (limits : Limits) (n : ℕ) (ls : List Text) (fault : QueryFault) → first (filter_map (query_refusal limits) (enumerate_from n ls)) ≡ Some fault → n ≤ fault.line
refusal_behind limits n [] fault e = absurd cc
refusal_behind limits n (l ∷ ls) fault e = cases (λ h. refusal_behind limits (n + 1) ls fault h) (query_refusal limits (n, l)) refl e
  where
    cases : (first (filter_map (query_refusal limits) (enumerate_from (n + 1) ls)) ≡ Some fault → n + 1 ≤ fault.line)
        → (o : Option QueryFault) → query_refusal limits (n, l) ≡ o → first (cons_option o (filter_map (query_refusal limits) (enumerate_from (n + 1) ls))) ≡ Some fault → n ≤ fault.line
    cases later None is h = let rest = later h in omega arith
    cases later (Some f) is h = let same : f ≡ fault = cc in let at = refusal_line limits n l f is in omega (arith, ap (λ (x : QueryFault). x.line) same)

-- fine lines are served, whatever comes behind them
pub serves : (ls more : List Text) → AreQueries ls → (rest : List Text) × (served standard_limits (ls ++ more) ≡ ls ++ rest)
serves ls more fine = cases (first_query_fault standard_limits (ls ++ more)) refl
  where
    split : first_query_fault standard_limits (ls ++ more) ≡ first (filter_map (query_refusal standard_limits) (enumerate_from (1 + length ls) more))
    split =
        let all : filter_map (query_refusal standard_limits) (enumerate_from 1 (ls ++ more)) ≡ filter_map (query_refusal standard_limits) (enumerate_from 1 ls) ++ filter_map (query_refusal standard_limits) (enumerate_from (1 + length ls) more)
        = ap (filter_map (query_refusal standard_limits)) (enumerate_from-append 1 ls more) ∙ filter_map-append (query_refusal standard_limits) (enumerate_from 1 ls) (enumerate_from (1 + length ls) more) in
        let none : filter_map (query_refusal standard_limits) (enumerate_from 1 ls) ≡ [] = queries_fine standard_limits 0 ls fine.short (omega (arith, fine.few)) in
        ap first (all ∙ ap (λ l. l ++ filter_map (query_refusal standard_limits) (enumerate_from (1 + length ls) more)) none)

    cases : (o : Option QueryFault) → first_query_fault standard_limits (ls ++ more) ≡ o → (rest : List Text) × (served standard_limits (ls ++ more) ≡ ls ++ rest)
    cases None is = (more, ap (λ (o : Option QueryFault). option_map_or (λ fault. take (fault.line - 1) (ls ++ more)) o (ls ++ more)) is)
    cases (Some fault) is =
        let far = refusal_behind standard_limits (1 + length ls) more fault (sym split ∙ is) in
        let at : fault.line - 1 ≡ length ls + (fault.line - 1 - length ls) = omega arith in (
          take (fault.line - 1 - length ls) more,
          ap (λ (o : Option QueryFault). option_map_or (λ fault. take (fault.line - 1) (ls ++ more)) o (ls ++ more)) is
              ∙ ap (λ (n : ℕ). take n (ls ++ more)) at ∙ take-append-add ls more (fault.line - 1 - length ls),
        )

-- the answers to more lines begin with those to the first
pub answers_begin : (d : Dump) (ls rest : List Text) → answers d (ls ++ rest) ≡ answers d ls ++ answers d rest
answers_begin d ls rest = flat_map-append _ ls rest

pub reads_more : (d : Dump) (ls rest : List Text) → all_reads d ls ≤ all_reads d (ls ++ rest)
reads_more d ls rest = let e = sum_by-append (reads d) ls rest in omega arith

-- ---- the ends of `query`

module _ (name : Text) (before after : World) (ticks : ℕ) (result : Status) (counts : CountsStay (is_fault result) before after) where
  abbrev task : Task
  task = query name

  -- nothing was asked
  unasked : KeepsInput before after → Keeps before.out after.out → (other : Text) → task ≡ query other → QueryAfterFault sux_program other before after at_error
  unasked input out other same = record {
    input_failed = λ _ _ _. inr (refl, record { input = input; out = out });
    message_failed = λ _. inl out;
  }

  -- a call on the shelf failed
  pub file_failed : ticks ≡ 0 → CountRose before after the_shelf → KeepsFiles before.files after.files → Keeps before.out after.out
      → Fails at_dump before.err after.err before.faults.err after.faults.err result → Promise sux_program task before after ticks result
  file_failed none rose files out told = by_failure task before after ticks at_dump result told rose tt
      [] (kept_appends before.out after.out out) (inl refl) (inl files)
      (λ only. absurd (only.alone the_shelf (λ same. absurd cc) rose))
      (λ other same. record { input_failed = λ _ _ no. absurd (no rose); message_failed = λ only. absurd (only.alone the_shelf (λ e. absurd cc) rose) })
      (inl none) tt counts

  -- there is no such dump
  pub dump_refused : ticks ≡ 0 → (reason : Text) → IfSome before.files (λ files. dump_refusal sux_program (files name) ≡ Some reason)
      → KeepsFiles before.files after.files → KeepsInput before after → Keeps before.out after.out → Tells reason BadDump before.err after.err before.faults.err after.faults.err result
      → Promise sux_program task before after ticks result
  dump_refused none reason refused files input out told = by_message task before after ticks
      (record { status = BadDump; reading = untouched; out = []; err = reason; file = None })
      (inr (inr (record { reason = reason; first_reason = refused; is = refl })))
      reason refl BadDump result refl (λ e. absurd cc) (λ e. absurd cc) refl
      files input.bytes (kept_appends before.out after.out out) told (unasked input out) (inl none) (inl none) tt counts

  -- memory was wanting, before a line was asked for
  pub query_memory : ticks ≡ 0 → KeepsFiles before.files after.files → KeepsInput before after → Keeps before.out after.out
      → Tells memory_text Memory before.err after.err before.faults.err after.faults.err result → Promise sux_program task before after ticks result
  query_memory none files input out told = by_memory_message task before after ticks result files out (λ _ _. input.bytes) told (unasked input out) (inl none) (inl none) tt counts

  module _ (d : Dump) (stored : IsStored sux_program name before d) where
    -- the same file, by the name of the task
    stored_as : (other : Text) → task ≡ query other → IsStored sux_program other before d
    stored_as other same = let e : name ≡ other = cc in subst (λ (n : Text). IsStored sux_program n before d) e stored

    -- the reads of these lines are within the bound of the served ones
    within : (taken : List ℕ) (place : Place) (ls more : List Text) → Consumes before.input after.input taken → taken_lines place taken ≡ ls ++ more → AreQueries ls → ticks ≤ all_reads d ls
        → ReadsWithin sux_program name before after place ticks
    within taken place ls more consumed are fine bound =
        let (rest, all) = serves ls more fine in
        let e : served standard_limits (taken_lines place taken) ≡ ls ++ rest = ap (served standard_limits) are ∙ all in
        let grows = reads_more d ls rest in
        record { dump = d; stored = stored; taken = taken; consumed = consumed; bound = rw e (omega arith) }

    -- what is written of the answers begins what is due
    due_out : (ls : List Text) (out : Text) → AreQueries ls → Begins before.input ls → IsPrefix out (answers d ls) → BeginsDue sux_program task before (λ o. o.out) out
    due_out ls out fine told (tail, is) = by_input before.input refl told
      where
        -- more lines are answered behind these
        longer : (asked rest : List Text) → asked ≡ ls ++ rest → IsPrefix out (answers d asked)
        longer asked rest are = (
          tail ++ answers d rest,
          ap (answers d) are ∙ answers_begin d ls rest ∙ ap (λ (l : List ℕ). l ++ answers d rest) is ∙ append_assoc out tail (answers d rest),
        )

        done : (asked rest : List Text) → InputHas before asked → first_query_fault standard_limits asked ≡ None → asked ≡ ls ++ rest → BeginsDue sux_program task before (λ o. o.out) out
        done asked rest has none are = inr (
          record { status = Done; reading = to_end; out = answers d asked; err = []; file = None },
          inl (record { dump = d; asked = asked; stored = stored; input = has; fits = none; is = refl }),
          longer asked rest are,
        )

        refused : (asked rest : List Text) (fault : QueryFault) → InputHas before asked → first_query_fault standard_limits asked ≡ Some fault → served standard_limits asked ≡ ls ++ rest → BeginsDue sux_program task before (λ o. o.out) out
        refused asked rest fault has some are = inr (
          record { status = BadInput; reading = partly; out = answers d (served standard_limits asked); err = fault.text; file = None },
          inr (inl (record { dump = d; asked = asked; fault = fault; stored = stored; input = has; first_fault = some; is = refl })),
          longer (served standard_limits asked) rest are,
        )

        by_fault_of : (asked more : List Text) → InputHas before asked → asked ≡ ls ++ more → (o : Option QueryFault) → first_query_fault standard_limits asked ≡ o → BeginsDue sux_program task before (λ o. o.out) out
        by_fault_of asked more has are None is_none = done asked more has is_none are
        by_fault_of asked more has are (Some fault) is_fault =
            let (rest, all) = serves ls more fine in
            refused asked rest fault has is_fault (ap (served standard_limits) are ∙ all)

        by_input : (i : Option (List ℕ)) → before.input ≡ i → Begins i ls → BeginsDue sux_program task before (λ o. o.out) out
        by_input None e begins = done ls [] (rw e tt) (no_query_fault standard_limits ls fine.short fine.few) (sym (append-nil ls))
        by_input (Some bytes) e begins = by_fault_of (lines bytes) begins.0 (rw e refl) begins.1 (first_query_fault standard_limits (lines bytes)) refl

    -- all lines are answered
    pub query_done : (ls : List Text) → ReadsAll before.input after.input ls → Answers d ls before.out after.out ticks
        → KeepsFiles before.files after.files → Keeps before.err after.err → result ≡ Done → Promise sux_program task before after ticks result
    query_done ls all answered files err is = by_outcome sux_program task before after ticks result
        (record { status = Done; reading = to_end; out = answers d ls; err = []; file = None })
        (inl (record { dump = d; asked = ls; stored = stored; input = all_lines before.input after.input ls all; fits = no_query_fault standard_limits ls answered.queries.short answered.queries.few; is = refl }))
        (sym is) (λ e. absurd cc) (λ e. absurd cc)
        (record { files = files; input = (all.taken, all.consumed, all.end); out = answered.out; err = kept_appends before.err after.err err })
        (inr (within all.taken at_output ls [] all.consumed (all.are ∙ sym (append-nil ls)) answered.queries answered.bound))
        tt counts

    -- input failed; the complete lines before are answered
    pub input_failed : (ls : List Text) → FailsBehind before.input after.input longest_line ls → Answers d ls before.out after.out ticks → CountRose before after the_input
        → KeepsFiles before.files after.files → Fails at_input before.err after.err before.faults.err after.faults.err result → Promise sux_program task before after ticks result
    input_failed ls fails answered rose files told =
        let whole : served standard_limits (complete_lines fails.taken) ≡ ls = ap (served standard_limits) fails.are ∙ all_served standard_limits ls answered.queries.short answered.queries.few in
        by_failure task before after ticks at_input result told rose
        (record { taken = fails.taken; consumed = fails.consumed; fine = ap (first_query_fault standard_limits) fails.are ∙ no_query_fault standard_limits ls answered.queries.short answered.queries.few; short = fails.short })
        (answers d ls) answered.out (due_out ls (answers d ls) answered.queries fails.told ([], sym (append-nil (answers d ls)))) (inl files)
        (λ only. absurd (only.alone the_input (λ same. absurd cc) rose))
        (λ other same. record {
          input_failed = λ _ _ _. inl (record { dump = d; stored = stored_as other same; taken = fails.taken; consumed = fails.consumed; out = subst (λ (l : List Text). Appends before.out after.out (answers d l)) (sym whole) answered.out });
          message_failed = λ only. absurd (only.alone the_input (λ e. absurd cc) rose);
        })
        (inr (within fails.taken at_input ls [] fails.consumed (fails.are ∙ sym (append-nil ls)) answered.queries answered.bound))
        tt counts

    -- a write of the answers failed
    pub answers_failed : (ls : List Text) → BreaksBehind before.input after.input ls → AreQueries ls → ticks ≤ all_reads d ls → (part : Text) → IsPrefix part (answers d ls)
        → Appends before.out after.out part → CountRose before after the_out → KeepsFiles before.files after.files
        → Fails at_output before.err after.err before.faults.err after.faults.err result → Promise sux_program task before after ticks result
    answers_failed ls behind fine bound part begins out rose files told = by_failure task before after ticks at_output result told rose tt
        part out (due_out ls part fine behind.told begins) (inl files)
        (λ only other same. absurd cc)
        (λ other same. record {
          input_failed = λ _ no _. absurd (no rose);
          message_failed = λ only. absurd (only.alone the_out (λ e. absurd cc) rose);
        })
        (inr (within behind.taken at_output ls behind.more behind.consumed behind.are fine bound))
        tt counts

    -- a line is refused: those before are answered
    pub line_refused : (ls : List Text) (text : Text) (IsLine : Text → Type 0) → StopsAt before.input after.input ls IsLine → Answers d ls before.out after.out ticks
        → ((line : Text) (more : List Text) → IsLine line → first_query_fault standard_limits (ls ++ line ∷ more) ≡ Some (record { line = length ls + 1; text = text }))
        → KeepsFiles before.files after.files → Tells text BadInput before.err after.err before.faults.err after.faults.err result
        → Promise sux_program task before after ticks result
    line_refused ls text IsLine stops answered refuses files told = by_input before.input refl stops.told
      where
        fault : QueryFault
        fault = record { line = length ls + 1; text = text }

        -- what was taken is refused at the same line
        taken_served : served standard_limits (lines stops.taken) ≡ ls
        taken_served = ap (served standard_limits) stops.are ∙ served_before standard_limits ls (stops.line ∷ stops.more) text (refuses stops.line stops.more stops.is)

        with_asked : (asked : List Text) (line : Text) (more : List Text) → InputHas before asked → asked ≡ ls ++ line ∷ more → IsLine line → Promise sux_program task before after ticks result
        with_asked asked line more has are is =
            let first_fault : first_query_fault standard_limits asked ≡ Some (record { line = length ls + 1; text = text }) = ap (first_query_fault standard_limits) are ∙ refuses line more is in
            let whole : served standard_limits asked ≡ ls = ap (served standard_limits) are ∙ served_before standard_limits ls (line ∷ more) text (refuses line more is) in
            let same_out : answers d (served standard_limits asked) ≡ answers d ls = ap (answers d) whole in
            let o : Outcome = record { status = BadInput; reading = partly; out = answers d (served standard_limits asked); err = text; file = None } in
            let due : IsDue sux_program task before o = inr (inl (record { dump = d; asked = asked; fault = record { line = length ls + 1; text = text }; stored = stored; input = has; first_fault = first_fault; is = refl })) in
            let got : Appends before.out after.out (answers d (served standard_limits asked)) = subst (Appends before.out after.out) (sym same_out) answered.out in
            by_message task before after ticks o due text refl BadInput result refl (λ e. absurd cc) (λ e. absurd cc) refl
            files (stops.taken, stops.consumed) got told
            (λ other same. record {
              input_failed = λ _ _ _. inl (record { dump = d; stored = stored_as other same; taken = stops.taken; consumed = stops.consumed; out = subst (λ (l : List Text). Appends before.out after.out (answers d l)) (sym taken_served) answered.out });
              message_failed = λ _. inr (o, subst (λ (t : Task). IsDue sux_program t before o) same due, λ e. absurd cc, got);
            })
            (inr (within stops.taken at_output ls (stops.line ∷ stops.more) stops.consumed stops.are answered.queries answered.bound))
            (inr (within stops.taken at_error ls (stops.line ∷ stops.more) stops.consumed stops.are answered.queries answered.bound))
            tt counts

        by_input : (i : Option (List ℕ)) → before.input ≡ i → IfSome i (λ bytes. (rest : List Text) × (other : Text) × IsLine other × (lines bytes ≡ ls ++ other ∷ rest)) → Promise sux_program task before after ticks result
        by_input None e told_line = with_asked (ls ++ stops.line ∷ stops.more) stops.line stops.more (rw e tt) refl stops.is
        by_input (Some bytes) e (rest, other, is, are) = with_asked (lines bytes) other rest (rw e refl) are is

-- How query lines are answered, one after the other.
use Rattle.std.proofs.Common.{◌≡◌, ℕ, ◌+◌, ◌<◌, ◌≤◌, Bool, false, List, [], ◌∷◌, ◌++◌, length, sym, ap, subst, ◌∙◌, arith, Option, Some, None, inl, inr, append_assoc, append-nil}
use Rattle.std.specs.Prelude.{IfSome}
use Rattle.std.proofs.lemmas.List.Sums.{sum_by-append}
use Rattle.std.specs.Io.KnownBytes.{Appends, Consumes, IsAtEnd}
use Rattle.std.proofs.KnownBytes.{Appends-trans, Appends-nil}
use Rattle.std.proofs.lemmas.List.{length-append}
use Rattle.sx_spec_strings.specs.Lines.{lines}
use Rattle.sx_spec.specs.Command.{Text}
use Rattle.sx_spec.specs.Layout.{Dump}
use Rattle.sx_spec.specs.Outcomes.{max_queries}
use Rattle.sx_spec.specs.Reply.{answers, reply, reply_text, reads, all_reads}
use Rattle.sx_spec.specs.Causes.{Rose}
use Rattle.sx_spec.specs.World.{World}
use Rattle.sx_edge.specs.Parts.{AppendsPrefix}
use Rattle.sx_edge.specs.Reading.{Reading, GivesLine, GivesEnd, FailsRead, IsTooLong}
use Rattle.sx_cli.specs.Progress.{ReadsAll, FailsBehind, BreaksBehind, StopsAt, Begins}
use Rattle.sx_cli.specs.Served.{Answers}
use Rattle.sx_cli.specs.Serving.{Serving, InputBroken, OutputBroken, ServedTo, WritesHeld, Finishes}
use Rattle.sx_cli.specs.declared.serve.Served.{Served}
use Rattle.sx_cli.specs.declared.serve.Served.TheVariants.{Done, TooLong, TooMany}
use Rattle.sx_cli.proofs.Advances.{starts, stops_at_last}
use Rattle.sx_cli.proofs.FedLines.{all_push}
use Rattle.sx_cli.proofs.Queries.{answers_begin}
use Rattle.sx_cli.proofs.Readings.{after_line, line_short, at_end, at_fault, at_long_line}
use Rattle.sx_cli.specs.Lines.{longest_line}

-- a number and a line feed were put behind what was held
pub put_answer : (held mid put : List ℕ) (d : Dump) (line : Text) (text : Text) → text ≡ reply_text (reply d line) → mid ≡ held ++ text → put ≡ mid ++ 10 ∷ []
    → put ≡ held ++ answers d (line ∷ [])
put_answer held mid put d line text is first last =
    last ∙ ap (λ (l : List ℕ). l ++ 10 ∷ []) (first ∙ ap (λ (l : List ℕ). held ++ l) is)
    ∙ append_assoc held (reply_text (reply d line)) (10 ∷ [])
    ∙ ap (λ (l : List ℕ). held ++ l) (sym (append-nil (reply_text (reply d line) ++ 10 ∷ [])))

-- ---- how serving goes on

-- before the first line
pub begins : (d : Dump) (input out : Option (List ℕ)) (reader : Reading) (held : List ℕ) (ticks : ℕ) → reader ≡ record { max = longest_line; number = 0; held = []; ended = false; fault = None; line = None } → held ≡ [] → ticks ≡ 0
    → Serving d input input reader out out held ticks
begins d input out reader held ticks fresh none no_ticks = record {
  lines = [];
  progress = rw fresh (starts input);
  queries = record { short = tt; few = omega arith };
  number = ap (λ (r : Reading). r.number) fresh;
  max = ap (λ (r : Reading). r.max) fresh;
  fault = ap (λ (r : Reading). r.fault) fresh;
  written = [];
  out = Appends-nil out;
  whole = none;
  bound = omega (arith, no_ticks);
}

-- what was held was written in part
pub part_written : (d : Dump) (first now : Option (List ℕ)) (reader : Reading) (out mid then : Option (List ℕ)) (held left : List ℕ) (ticks : ℕ) (ready : Bool)
    → Serving d first now reader out mid held ticks → WritesHeld held left ready mid then → Serving d first now reader out then left ticks
part_written d first now reader out mid then held left ticks ready s w = record {
  lines = s.lines;
  progress = s.progress;
  queries = s.queries;
  number = s.number;
  max = s.max;
  fault = s.fault;
  written = s.written ++ w.written;
  out = Appends-trans out mid then s.written w.written s.out w.out;
  whole = append_assoc s.written w.written left ∙ ap (λ (xs : List ℕ). s.written ++ xs) (sym w.whole) ∙ s.whole;
  bound = s.bound;
}

-- all that was held was written
pub all_answered : (d : Dump) (first now : Option (List ℕ)) (reader : Reading) (out mid then : Option (List ℕ)) (held : List ℕ) (ticks : ℕ) (s : Serving d first now reader out mid held ticks)
    → Appends mid then held → Answers d s.lines out then ticks
all_answered d first now reader out mid then held ticks s w = record {
  queries = s.queries;
  out = subst (Appends out then) s.whole (Appends-trans out mid then s.written held s.out w);
  bound = s.bound;
}

-- a write of what was held failed
pub cut_answers : (d : Dump) (first now : Option (List ℕ)) (reader : Reading) (out mid then : Option (List ℕ)) (held : List ℕ) (ticks : ℕ) (s : Serving d first now reader out mid held ticks)
    → AppendsPrefix mid then held → AppendsPrefix out then (answers d s.lines)
cut_answers d first now reader out mid then held ticks s (part, (rest, is), w) = (
  s.written ++ part,
  (rest, sym s.whole ∙ ap (λ (xs : List ℕ). s.written ++ xs) is ∙ sym (append_assoc s.written part rest)),
  Appends-trans out mid then s.written part s.out w,
)

-- one more line was answered
pub line_answered : (d : Dump) (first now then : Option (List ℕ)) (reader new : Reading) (out mid : Option (List ℕ)) (held replies : List ℕ) (ticks more : ℕ)
    → Serving d first now reader out mid held ticks → GivesLine reader new now then → (line : Text) → new.line ≡ Some line → new.max ≡ reader.max → new.fault ≡ None → new.number ≤ max_queries
    → replies ≡ held ++ answers d (line ∷ []) → more ≤ ticks + reads d line → Serving d first then new out mid replies more
line_answered d first now then reader new out mid held replies ticks more s gives line is max fault few put bound =
    let short : length line ≤ longest_line = subst (λ (n : ℕ). length line ≤ n) s.max (line_short first now then reader new s.lines s.progress gives line is) in
    let count = length-append s.lines (line ∷ []) in
    let number = gives.number in
    let number_before = s.number in
    let bound_before = s.bound in
    let bound_more : all_reads d (s.lines ++ line ∷ []) ≡ all_reads d s.lines + all_reads d (line ∷ []) = sum_by-append (reads d) s.lines (line ∷ []) in
    let bound_last : all_reads d (line ∷ []) ≡ reads d line = omega arith in
    record {
      lines = s.lines ++ line ∷ [];
      progress = after_line first now then reader new s.lines s.progress gives line is;
      queries = record { short = all_push (λ (l : Text). length l ≤ longest_line) s.lines line s.queries.short short; few = omega (arith, count) };
      number = omega (arith, count);
      max = max ∙ s.max;
      fault = fault;
      written = s.written;
      out = s.out;
      whole = ap (λ (xs : List ℕ). s.written ++ xs) put ∙ sym (append_assoc s.written held (answers d (line ∷ []))) ∙ ap (λ (xs : List ℕ). xs ++ answers d (line ∷ [])) s.whole ∙ sym (answers_begin d s.lines (line ∷ []));
      bound = omega (arith, bound, bound_before, bound_more, bound_last);
    }

-- ---- how serving ends

-- all lines were read, so what was taken begins with them
pub read_behind : (old new : Option (List ℕ)) (ls : List Text) → ReadsAll old new ls → BreaksBehind old new ls
read_behind old new ls all = record { taken = all.taken; consumed = all.consumed; more = []; are = all.are ∙ sym (append-nil ls); told = told old new all.consumed all.end }
  where
    told : (o n : Option (List ℕ)) → Consumes o n all.taken → IsAtEnd n → Begins o ls
    told None n c end = tt
    told (Some xs) None c end = absurd c
    told (Some xs) (Some ys) c end = ([], ap lines (c ∙ ap (λ (x : List ℕ). all.taken ++ x) end ∙ append-nil all.taken) ∙ all.are ∙ sym (append-nil ls))

-- what was taken begins with the lines behind which it stops
pub stopped_behind : (old new : Option (List ℕ)) (ls : List Text) (IsLine : Text → Type 0) → StopsAt old new ls IsLine → BreaksBehind old new ls
stopped_behind old new ls IsLine stops = record { taken = stops.taken; consumed = stops.consumed; more = stops.line ∷ stops.more; are = stops.are; told = told old stops.told }
  where
    told : (o : Option (List ℕ)) → IfSome o (λ bytes. (rest : List Text) × (other : Text) × IsLine other × (lines bytes ≡ ls ++ other ∷ rest)) → Begins o ls
    told None h = tt
    told (Some bytes) (rest, other, is, are) = (other ∷ rest, are)

module _ (d : Dump) (old new : World) (now mid : Option (List ℕ)) (reader : Reading) (held : List ℕ) (ticks : ℕ) (s : Serving d old.input now reader old.out mid held ticks) where
  -- a write failed
  pub output_broken : (between : ℕ) → BreaksBehind old.input new.input s.lines → AppendsPrefix mid new.out held → old.faults.out ≤ between → Rose between new.faults.out → OutputBroken d old new ticks
  output_broken between behind part later rose = record {
    lines = s.lines;
    behind = behind;
    queries = s.queries;
    bound = s.bound;
    out = cut_answers d old.input now reader old.out mid new.out held ticks s part;
    cause = omega (arith, rose);
  }

  -- the last answers were written, or a write failed
  pub finished : (between : ℕ) (served result : Served) → (Answers d s.lines old.out new.out ticks → ServedTo d old new ticks served) → BreaksBehind old.input new.input s.lines → old.faults.out ≤ between
      → Finishes held mid new.out between new.faults.out served result → ServedTo d old new ticks result
  finished between served result ends behind later (inl f) = subst (ServedTo d old new ticks) (sym f.is) (ends (all_answered d old.input now reader old.out mid new.out held ticks s f.out))
  finished between served result ends behind later (inr u) = subst (ServedTo d old new ticks) (sym u.is) (output_broken between behind u.out later u.cause)

  -- at the end of input
  pub ends_done : (after : Reading) → GivesEnd reader after now new.input → (between : ℕ) (result : Served) → old.faults.out ≤ between → Finishes held mid new.out between new.faults.out Done result → ServedTo d old new ticks result
  ends_done after gives between result later finishes =
      let all = at_end old.input now new.input reader after s.lines s.progress gives in
      finished between Done result (λ a. record { lines = s.lines; all = all; answered = a }) (read_behind old.input new.input s.lines all) later finishes

  -- at a line that is too long
  pub ends_long : (after : Reading) (n : ℕ) → IsTooLong reader after now new.input n → (between : ℕ) (result : Served) → old.faults.out ≤ between → Finishes held mid new.out between new.faults.out (TooLong n) result → ServedTo d old new ticks result
  ends_long after n long between result later finishes =
      let stops = subst (λ (m : ℕ). StopsAt old.input new.input s.lines (λ line. m < length line)) s.max (at_long_line old.input now new.input reader after s.lines s.progress n long) in
      finished between (TooLong n) result (λ a. record { lines = s.lines; stops = stops; at = long.at ∙ ap (λ (m : ℕ). m + 1) s.number; answered = a })
      (stopped_behind old.input new.input s.lines _ stops) later finishes

  -- at a line too many
  pub ends_many : (after : Reading) → GivesLine reader after now new.input → max_queries < after.number → (between : ℕ) (result : Served) → old.faults.out ≤ between → Finishes held mid new.out between new.faults.out TooMany result → ServedTo d old new ticks result
  ends_many after gives over between result later finishes =
      let short : length gives.line ≤ longest_line = subst (λ (n : ℕ). length gives.line ≤ n) s.max (line_short old.input now new.input reader after s.lines s.progress gives gives.line gives.is) in
      let stops = stops_at_last old.input new.input after.held after.ended s.lines gives.line (λ line. length line ≤ longest_line) short (after_line old.input now new.input reader after s.lines s.progress gives gives.line gives.is) in
      let number = gives.number in
      let number_before = s.number in
      let few = s.queries.few in
      finished between TooMany result (λ a. record { lines = s.lines; stops = stops; many = omega arith; answered = a })
      (stopped_behind old.input new.input s.lines _ stops) later finishes

  -- where input failed, nothing was held
  pub ends_broken : (after : Reading) → FailsRead reader after now new.input → held ≡ [] → mid ≡ new.out → (between : ℕ) → old.faults.input ≤ between → Rose between new.faults.input → InputBroken d old new ticks
  ends_broken after fails none same between later rose = record {
    lines = s.lines;
    fails = subst (λ (m : ℕ). FailsBehind old.input new.input m s.lines) s.max (at_fault old.input now new.input reader after s.lines s.progress fails);
    answered = all_answered d old.input now reader old.out mid new.out held ticks s (subst (Appends mid new.out) (sym none) (subst (λ (o : Option (List ℕ)). Appends mid o []) same (Appends-nil mid)));
    cause = omega (arith, rose);
  }

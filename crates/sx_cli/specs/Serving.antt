-- What answering the query lines of input comes to.
use Rattle.std.specs.Prelude.{◌≡◌, ◌⊎◌, Bool, true, false, ℕ, ◌+◌, ◌<◌, ◌≤◌, List, [], ◌++◌, length, Option, None}
use Rattle.std.specs.Io.KnownBytes.{Appends, Keeps}
use Rattle.sx_spec.specs.Causes.{Rose}
use Rattle.sx_spec.specs.Command.{Text}
use Rattle.sx_spec.specs.Layout.{Dump}
use Rattle.sx_spec.specs.Messages.{at_input, at_output, long_query_text, many_queries_text}
use Rattle.sx_spec.specs.Outcomes.{max_queries}
use Rattle.sx_spec.specs.World.{World}
use Rattle.sx_spec.specs.declared.Status.{Status}
use Rattle.sx_spec.specs.declared.Status.TheVariants.{Done as AllDone, BadInput}
use Rattle.sx_cli.specs.Telling.{Tells, Fails}
use Rattle.sx_spec.specs.Reply.{answers, all_reads}
use Rattle.sx_edge.specs.Parts.{AppendsPrefix}
use Rattle.sx_edge.specs.Reading.{Reading}
use Rattle.sx_cli.specs.declared.serve.Served.{Served}
use Rattle.sx_cli.specs.declared.serve.Served.TheVariants.{Done, TooLong, TooMany, InputFailed, OutputFailed}
use Rattle.sx_cli.specs.Progress.{Progress, ReadsAll, FailsBehind, BreaksBehind, StopsAt}
use Rattle.sx_cli.specs.Served.{AreQueries, Answers}
use Rattle.sx_cli.specs.Lines.{longest_line}

-- whether the lines came to an end since input has failed
abbrev pub input_failed : Served → Bool
input_failed InputFailed = true
input_failed _ = false

-- whether they came to an end since out has failed
abbrev pub out_failed : Served → Bool
out_failed OutputFailed = true
out_failed _ = false

-- all lines were answered
pub record AllServed (d : Dump) (old new : World) (ticks : ℕ) : Type 0 where
  pub lines : List Text
  pub all : ReadsAll old.input new.input lines
  pub answered : Answers d lines old.out new.out ticks

-- a line is too long; those before it were answered
pub record LongLine (d : Dump) (old new : World) (ticks number : ℕ) : Type 0 where
  pub lines : List Text
  pub stops : StopsAt old.input new.input lines (λ line. longest_line < length line)
  pub at : number ≡ length lines + 1
  pub answered : Answers d lines old.out new.out ticks

-- a line is one too many; those before it were answered
pub record OneTooMany (d : Dump) (old new : World) (ticks : ℕ) : Type 0 where
  pub lines : List Text
  pub stops : StopsAt old.input new.input lines (λ line. length line ≤ longest_line)
  pub many : length lines ≡ max_queries
  pub answered : Answers d lines old.out new.out ticks

-- input failed; the complete lines before were answered
pub record InputBroken (d : Dump) (old new : World) (ticks : ℕ) : Type 0 where
  pub lines : List Text
  pub fails : FailsBehind old.input new.input longest_line lines
  pub answered : Answers d lines old.out new.out ticks
  pub cause : Rose old.faults.input new.faults.input

-- a write failed; out got a prefix of the answers to these lines
pub record OutputBroken (d : Dump) (old new : World) (ticks : ℕ) : Type 0 where
  pub lines : List Text
  pub behind : BreaksBehind old.input new.input lines
  pub queries : AreQueries lines
  pub bound : ticks ≤ all_reads d lines
  pub out : AppendsPrefix old.out new.out (answers d lines)
  pub cause : Rose old.faults.out new.faults.out

-- what the lines came to
abbrev pub ServedTo : Dump → World → World → ℕ → Served → Type 0
ServedTo d old new ticks Done = AllServed d old new ticks
ServedTo d old new ticks (TooLong line) = LongLine d old new ticks line
ServedTo d old new ticks TooMany = OneTooMany d old new ticks
ServedTo d old new ticks InputFailed = InputBroken d old new ticks
ServedTo d old new ticks OutputFailed = OutputBroken d old new ticks

-- how far serving has come: the answers to these lines were written or are held
pub record Serving (d : Dump) (first now : Option (List ℕ)) (reader : Reading) (old_out new_out : Option (List ℕ)) (held : List ℕ) (ticks : ℕ) : Type 0 where
  pub lines : List Text
  pub progress : Progress first now reader.held reader.ended lines
  pub queries : AreQueries lines
  pub number : reader.number ≡ length lines
  pub max : reader.max ≡ longest_line
  pub fault : reader.fault ≡ None
  pub written : List ℕ
  pub out : Appends old_out new_out written
  pub whole : written ++ held ≡ answers d lines
  pub bound : ticks ≤ all_reads d lines

-- what was held was written, or the next line needs no read and there is room for its answer
pub record WritesHeld (held left : List ℕ) (ready : Bool) (old new : Option (List ℕ)) : Type 0 where
  pub written : List ℕ
  pub whole : held ≡ written ++ left
  pub out : Appends old new written
  pub room : length left ≤ 65494
  pub none : ready ≡ false → left ≡ []

-- all answers that were held were written
pub record IsFinished (held : List ℕ) (old new : Option (List ℕ)) (served result : Served) : Type 0 where
  pub is : result ≡ served
  pub out : Appends old new held

-- a write of them failed
pub record IsUnfinished (held : List ℕ) (old new : Option (List ℕ)) (before after : ℕ) (result : Served) : Type 0 where
  pub is : result ≡ OutputFailed
  pub out : AppendsPrefix old new held
  pub cause : Rose before after

-- one of the two
abbrev pub Finishes : List ℕ → Option (List ℕ) → Option (List ℕ) → ℕ → ℕ → Served → Served → Type 0
Finishes held old new before after served result = IsFinished held old new served result ⊎ IsUnfinished held old new before after result

-- nothing is told
pub record IsQuiet (status : Status) (old new : Option (List ℕ)) (result : Status) : Type 0 where
  pub is : result ≡ status
  pub err : Keeps old new

-- what is told where the lines came to this, and the status
abbrev pub Ends : Served → Option (List ℕ) → Option (List ℕ) → ℕ → ℕ → Status → Type 0
Ends Done old new before after result = IsQuiet AllDone old new result
Ends (TooLong line) old new before after result = Tells (long_query_text line) BadInput old new before after result
Ends TooMany old new before after result = Tells (many_queries_text (max_queries + 1)) BadInput old new before after result
Ends InputFailed old new before after result = Fails at_input old new before after result
Ends OutputFailed old new before after result = Fails at_output old new before after result

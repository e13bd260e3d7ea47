-- How far query lines were answered.
use Rattle.std.specs.Prelude.{ℕ, ◌≤◌, List, length, Option}
use Rattle.std.specs.Io.KnownBytes.{Appends}
use Rattle.std.specs.List.{AllByRecursion}
use Rattle.sx_spec.specs.Command.{Text}
use Rattle.sx_spec.specs.Layout.{Dump}
use Rattle.sx_spec.specs.Outcomes.{max_queries}
use Rattle.sx_spec.specs.Reply.{answers, all_reads}
use Rattle.sx_cli.specs.Lines.{longest_line}

-- lines that `query` answers: short enough, and no more than may be asked
pub record AreQueries (ls : List Text) : Type 0 where
  pub short : AllByRecursion (λ line. length line ≤ longest_line) ls
  pub few : length ls ≤ max_queries

-- the lines are answered, within the reads that their replies have
pub record Answers (d : Dump) (ls : List Text) (old new : Option (List ℕ)) (ticks : ℕ) : Type 0 where
  pub queries : AreQueries ls
  pub out : Appends old new (answers d ls)
  pub bound : ticks ≤ all_reads d ls

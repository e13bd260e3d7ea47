-- How far the lines of input were read.
use Rattle.std.specs.Prelude.{◌≡◌, ◌⊎◌, ℕ, ◌<◌, ◌≤◌, Bool, true, List, [], ◌∷◌, ◌++◌, length, Option, IfSome}
use Rattle.std.specs.Io.KnownBytes.{Consumes, IsAtEnd}
use Rattle.std.specs.List.{AllByRecursion}
use Rattle.sx_spec.specs.Command.{Text}
use Rattle.sx_spec_strings.specs.Lines.{lines, complete_lines, unfinished_line}
use Rattle.sx_edge.specs.Places.{HasNoFeed}
use Rattle.sx_cli.specs.KeyLines.{fed}

-- the lines were taken with a line feed behind each, and the bytes held after them
pub record Going (first now : Option (List ℕ)) (held : List ℕ) (ls : List Text) : Type 0 where
  pub taken : Consumes first now (fed ls ++ held)
  pub no_feeds : AllByRecursion HasNoFeed ls

-- the last line had no line feed, and nothing is left
pub record Over (first now : Option (List ℕ)) (held : List ℕ) (ended : Bool) (ls : List Text) : Type 0 where
  pub front : List Text
  pub last : Text
  pub is : ls ≡ front ++ last ∷ []
  pub taken : Consumes first now (fed front ++ last)
  pub no_feeds : AllByRecursion HasNoFeed front
  pub no_feed : HasNoFeed last
  pub some : 0 < length last
  pub ended_here : ended ≡ true
  pub none_held : held ≡ []

-- these lines were read so far; the end was met only where nothing is left
pub record Progress (first now : Option (List ℕ)) (held : List ℕ) (ended : Bool) (ls : List Text) : Type 0 where
  pub state : Going first now held ls ⊎ Over first now held ended ls
  pub end : ended ≡ true → IsAtEnd now

-- all lines were read
pub record ReadsAll (old new : Option (List ℕ)) (ls : List Text) : Type 0 where
  pub taken : List ℕ
  pub consumed : Consumes old new taken
  pub are : lines taken ≡ ls
  pub end : IsAtEnd new

-- all that was there begins with these lines, where it is told
abbrev pub Begins : Option (List ℕ) → List Text → Type 0
Begins old ls = IfSome old (λ bytes. (more : List Text) × (lines bytes ≡ ls ++ more))

-- what was taken begins with these lines
pub record BreaksBehind (old new : Option (List ℕ)) (ls : List Text) : Type 0 where
  pub taken : List ℕ
  pub consumed : Consumes old new taken
  pub more : List Text
  pub are : lines taken ≡ ls ++ more
  pub told : Begins old ls

-- input failed behind these lines, in the midst of a line of at most so many bytes
pub record FailsBehind (old new : Option (List ℕ)) (max : ℕ) (ls : List Text) : Type 0 where
  pub taken : List ℕ
  pub consumed : Consumes old new taken
  pub are : complete_lines taken ≡ ls
  pub short : length (unfinished_line taken) ≤ max
  pub told : Begins old ls

-- behind these lines comes one of which something is known, in what was taken and in all that was there
pub record StopsAt (old new : Option (List ℕ)) (ls : List Text) (IsLine : Text → Type 0) : Type 0 where
  pub taken : List ℕ
  pub consumed : Consumes old new taken
  pub line : Text
  pub more : List Text
  pub are : lines taken ≡ ls ++ line ∷ more
  pub is : IsLine line
  pub told : IfSome old (λ bytes. (rest : List Text) × (other : Text) × IsLine other × (lines bytes ≡ ls ++ other ∷ rest))

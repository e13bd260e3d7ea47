-- What a line reader is to a contract, and what its calls do.
use Rattle.std.specs.Prelude.{◌≡◌, ◌≢◌, ℕ, ◌+◌, ◌<◌, ◌≤◌, ◌⊎◌, ◌||◌, nat_lt, List, [], ◌∷◌, ◌++◌, length, slice_index_or, Bool, true, false, Option, Some, is_some, Result, Err}
use Rattle.std.specs.List.{list_any}
use Rattle.std.specs.Io.KnownBytes.{Consumes, IsAtEnd}
use Rattle.sx_spec_strings.specs.Lines.{is_line_feed, lines}
use Rattle.sx_edge.specs.Places.{HasNoFeed}
use Rattle.sx_edge.specs.declared.line.LineFault.{LineFault}
use Rattle.sx_edge.specs.declared.line.LineFault.TheVariants.{ReadFault}
use Rattle.sx_edge.specs.declared.line.Step.{Step}

-- a line reader
pub record Reading : Type 0 where
  -- the longest line that is given
  pub max : ℕ
  -- how many lines were given
  pub number : ℕ
  -- the bytes that were taken and not yet given
  pub held : List ℕ
  -- a source has told its end
  pub ended : Bool
  -- the fault that every call answers
  pub fault : Option LineFault
  -- the line that was given last
  pub line : Option (List ℕ)

-- the first line of the bytes, or [] where they have none
abbrev pub first_line : List ℕ → List ℕ
first_line bytes = slice_index_or (lines bytes) 0 []

-- whether the next line can be told from what is held, without a read
abbrev pub is_ready : Reading → Bool
is_ready r = is_some r.fault || r.ended || list_any is_line_feed r.held || nat_lt r.max (length r.held)

-- nothing was read from a source that had these bytes left and so many faults
abbrev pub ReadsNothing : Option (List ℕ) → Option (List ℕ) → ℕ → ℕ → Type 0
ReadsNothing before after faults now = (after ≡ before) × (now ≡ faults)

-- bytes were taken from the source, and `cut` was given of what was held and them; nothing is taken after the end
pub record Takes (old new : Reading) (before after : Option (List ℕ)) (cut : List ℕ) : Type 0 where
  pub bytes : List ℕ
  pub consumed : Consumes before after bytes
  pub whole : old.held ++ bytes ≡ cut ++ new.held
  pub end : new.ended ≡ true → (old.ended ≡ true) ⊎ IsAtEnd after
  pub ended : old.ended ≡ true → (bytes ≡ []) × (after ≡ before) × (new.ended ≡ true)

-- a line was given: up to a line feed, or a rest that is not empty at the end
pub record GivesLine (old new : Reading) (before after : Option (List ℕ)) : Type 0 where
  pub line : List ℕ
  pub is : new.line ≡ Some line
  pub number : new.number ≡ old.number + 1
  pub no_feed : HasNoFeed line
  pub short : length line ≤ old.max
  pub takes : Takes old new before after (line ++ 10 ∷ []) ⊎ (Takes old new before after line × (new.held ≡ []) × (new.ended ≡ true) × (line ≢ []))

-- nothing is left to be given
pub record GivesEnd (old new : Reading) (before after : Option (List ℕ)) : Type 0 where
  pub number : new.number ≡ old.number
  pub takes : Takes old new before after []
  pub none : new.held ≡ []
  pub ended : new.ended ≡ true

-- the source failed before a line's end, or one byte too many, was there
pub record FailsRead (old new : Reading) (before after : Option (List ℕ)) : Type 0 where
  pub number : new.number ≡ old.number
  pub takes : Takes old new before after []
  pub no_feed : HasNoFeed new.held
  pub short : length new.held ≤ old.max
  pub goes_on : new.ended ≡ false
  -- it was read only where the line couldn't be told without
  pub wanted : is_ready old ≡ false

-- line number n is too long, whatever bytes come behind those held
pub record IsTooLong (old new : Reading) (before after : Option (List ℕ)) (n : ℕ) : Type 0 where
  pub at : n ≡ old.number + 1
  pub number : new.number ≡ old.number
  pub takes : Takes old new before after []
  pub long : (rest : List ℕ) → old.max < length (first_line (new.held ++ rest))

-- whether the answer of a call of `next` is that of a failed read
abbrev pub read_failed : Result Step LineFault → Bool
read_failed (Err ReadFault) = true
read_failed _ = false

-- ---- what the steps of a call do

-- the same but for the bytes held, the end and the last line
pub record SameBut (old new : Reading) : Type 0 where
  pub max : new.max ≡ old.max
  pub number : new.number ≡ old.number
  pub fault : new.fault ≡ old.fault

-- one read: bytes were taken from the front of what was left and put behind those held
pub record Fills (old new : Reading) (before after : Option (List ℕ)) : Type 0 where
  pub part : List ℕ
  pub consumed : Consumes before after part
  pub grown : new.held ≡ old.held ++ part
  pub end : new.ended ≡ true → IsAtEnd after
  pub more : new.ended ≡ false → 0 < length part

-- the first line of what is held was cut off it
pub record CutsLine (old new : Reading) : Type 0 where
  pub line : List ℕ
  pub is : new.line ≡ Some line
  pub number : new.number ≡ old.number + 1
  pub no_feed : HasNoFeed line
  pub short : length line ≤ old.max
  pub ended : new.ended ≡ old.ended
  pub cut : (old.held ≡ (line ++ 10 ∷ []) ++ new.held) ⊎ ((old.held ≡ line) × (new.held ≡ []) × (old.ended ≡ true) × (line ≢ []))

-- the bytes held are fewer than a line that is too long, have no line feed, and more may come
pub record Waits (r : Reading) : Type 0 where
  pub no_feed : HasNoFeed r.held
  pub short : length r.held ≤ r.max
  pub goes_on : r.ended ≡ false

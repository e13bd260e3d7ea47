-- Parts of a buffer and line feeds in them.
use Rattle.std.specs.Prelude.{◌≡◌, ℕ, ◌+◌, ◌-◌, ◌<◌, ◌≤◌, false, List, ◌++◌, length, take, drop, slice_index, Option}
use Rattle.std.specs.Io.KnownBytes.{Consumes, IsAtEnd}
use Rattle.std.specs.List.{list_any}
use Rattle.sx_spec_strings.specs.Lines.{is_line_feed}

-- no byte is a line feed
abbrev pub HasNoFeed : List ℕ → Type 0
HasNoFeed bytes = list_any is_line_feed bytes ≡ false

-- the bytes of a buffer from one place to before another
abbrev pub bytes_between : List ℕ → ℕ → ℕ → List ℕ
bytes_between buf start end = take (end - start) (drop start buf)

-- the place of the first line feed from start to before end, or end where there is none
pub record IsFeedPlace (buf : List ℕ) (start end place : ℕ) : Type 0 where
  pub from : start ≤ place
  pub to : place ≤ end
  pub none : HasNoFeed (bytes_between buf start place)
  pub found : place < end → slice_index buf place ≡ 10

-- so many bytes were taken from the front of what was left and put behind the first len of the buffer, and none only at the end
pub record TakesBehind (before after : Option (List ℕ)) (old new : List ℕ) (len count : ℕ) : Type 0 where
  pub part : List ℕ
  pub number : length part ≡ count
  pub within : len + count ≤ length new
  pub grown : take (len + count) new ≡ take len old ++ part
  pub consumed : Consumes before after part
  pub end : count ≡ 0 → IsAtEnd after

-- What a dump answers a line.
use Rattle.std.specs.Prelude.{ℕ, List, length, Option, Some, None, nat_lt, if◌then◌else◌}
use Rattle.sx_spec.specs.Layout.{Dump}
use Rattle.sx_spec.specs.Reply.{reply}
use Rattle.sux_c.specs.declared.answer.Answer.{Answer}
use Rattle.sux_c.specs.declared.answer.Answer.TheVariants.{Number, NoNumber, TooLong}

-- by its reply
abbrev pub answer_of : Option ℕ → Answer
answer_of (Some number) = Number number
answer_of None = NoNumber

-- a line of more than 8,191 bytes is too long, and any other has a reply
abbrev pub answer_for : Dump → List ℕ → Answer
answer_for d line = if nat_lt 8191 (length line) then TooLong else answer_of (reply d line)

-- the status by which it is told: 0 a number, 1 too long, 3 no number
abbrev pub status_of : Answer → ℕ
status_of (Number number) = 0
status_of NoNumber = 3
status_of TooLong = 1

-- the number, and another one where there is none
abbrev pub number_or : Answer → ℕ → ℕ
number_or (Number number) other = number
number_or NoNumber other = other
number_or TooLong other = other

-- the number, 0 where there is none
abbrev pub number_of : Answer → ℕ
number_of a = number_or a 0

-- The numbers of checks.
use Rattle.std.specs.Prelude.{ℕ, Option, Some, None}
use Rattle.sx_sections.specs.declared.number.Check.{Check}
use Rattle.sx_sections.specs.declared.number.Check.TheVariants.{Size, Magic, Words, Kind, Method, Keys, SigBits, LogBucket, Signed, HandleBits, Room, Count, Width, Table, Padding, Sums, Order, Rest}

-- the number of a check
abbrev pub check_number : Check → ℕ
check_number Size = 1
check_number Magic = 2
check_number Words = 3
check_number Kind = 4
check_number Method = 5
check_number Keys = 6
check_number SigBits = 7
check_number LogBucket = 8
check_number Signed = 9
check_number HandleBits = 10
check_number Room = 11
check_number Count = 12
check_number Width = 13
check_number Table = 14
check_number Padding = 15
check_number Sums = 16
check_number Order = 17
check_number Rest = 18

-- the number of the check that there may be
abbrev pub number_in : Option Check → Option ℕ
number_in None = None
number_in (Some check) = Some (check_number check)

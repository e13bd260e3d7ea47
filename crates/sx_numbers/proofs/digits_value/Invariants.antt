use Rattle.std.proofs.Common.{◌≡◌, drop}
use Rattle.std.specs.Char.{is_ascii_digit}
use Rattle.std.specs.List.{list_all}
use Rattle.sx_numbers.proofs.Numerals.{digits_from}
use Rattle.sx_numbers.proofs.digits_value.Given as goal

abbrev pub invariant-loop-byte : goal.invariant-loop-byte
invariant-loop-byte l = record {
  value : digits_from 0 l.text ≡ digits_from l.number (drop l.byte-index l.text);
  digits : list_all is_ascii_digit l.text ≡ list_all is_ascii_digit (drop l.byte-index l.text);
}

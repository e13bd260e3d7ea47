use Rattle.std.proofs.Common.{arith}
use Rattle.std.specs.Char.{is_ascii_digit}
use Rattle.std.specs.List.{list_all}
use Rattle.sx_numbers.proofs.Numerals.{too_large}
use Rattle.sx_numbers.proofs.digits_value.Goals as goal

pub returns-then-number-digit : goal.returns-then-number-digit
returns-then-number-digit c = too_large (list_all is_ascii_digit c.args.text.now) c.args.text.now c.loop-byte.byte-index c.loop-byte.number c.loop-byte.invariant.value (omega arith) (omega arith)

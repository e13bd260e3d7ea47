-- The bit string of a view, and the bytes that are read out of a line.
use Rattle.std.specs.Prelude.{ℕ, ◌+◌, ◌-◌, ◌*◌, ◌/◌, ◌%◌, ◌^◌, List, take, drop}
use Rattle.sx_spec_strings.specs.Bits.{Bits, key_bits, packed_byte}
use Rattle.sx_bits.specs.declared.view.BitView.{BitView}

-- the bits that a view shows: those of its line, from the first up to before the last
unfoldable pub bits_of : BitView → Bits
bits_of view = take (view.to - view.from) (drop view.from (key_bits view.line.now))

-- the byte that begins so many bits behind the start of the higher of two bytes
abbrev pub shifted_byte : ℕ → ℕ → ℕ → ℕ
shifted_byte high low shift = (high * 256 + low) / 2 ^ (8 - shift) % 256

-- byte k of a line's bits from bit `start` on
unfoldable pub window_byte : List ℕ → ℕ → ℕ → ℕ
window_byte line start k = packed_byte (drop start (key_bits line)) k

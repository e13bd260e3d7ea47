use Rattle.std.proofs.Common.{◌≡◌, ℕ, ◌+◌, ◌<◌, slice_index}
use Rattle.sx_bits.specs.Views.{shifted_byte}
use Rattle.sx_bits.proofs.packing.shift_bytes.Given as goal

abbrev pub invariant-loop-i : goal.invariant-loop-i
invariant-loop-i l =
    (l.high ≡ slice_index l.line (l.first + l.i))
    × ((k : ℕ) → k < l.i → slice_index l.out k ≡ shifted_byte (slice_index l.line (l.first + k)) (slice_index l.line (l.first + k + 1)) l.shift)

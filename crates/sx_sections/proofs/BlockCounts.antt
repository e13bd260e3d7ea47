-- There are no more blocks than keys.
use Rattle.std.proofs.Common.{◌≡◌, ℕ, ◌+◌, ◌-◌, ◌*◌, ◌/◌, ◌<◌, ◌≤◌, arith}
use Rattle.std.proofs.Math.Nat.{add-mul, div-lt_iff_lt-mul, le-mul_of_pos_right}
use Rattle.sx_spec_kinds.specs.Blocks.{block_count}

pub blocks_few : (b n : ℕ) → 0 < b → block_count b n ≤ n
blocks_few b n some =
    let more : n ≤ n * b = le-mul_of_pos_right n some in
    let split : (n + 1) * b ≡ n * b + 1 * b = add-mul n 1 b in
    let below : (n + b - 1) / b < n + 1 = (div-lt_iff_lt-mul some).1 (omega arith) in
    omega arith

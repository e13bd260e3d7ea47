use Rattle.std.proofs.Common.{◌≡◌, ◌<◌, ◌≤◌, ℕ, length, get_or}
use Rattle.std.specs.Prelude.{bit_xor}
use Rattle.sx_solve.proofs.bits.add_bits.Given as goal

abbrev pub invariant-loop-k : goal.invariant-loop-k
invariant-loop-k l = record {
  size : length l.words.items ≡ length l.initial.words.items;
  done : (j : ℕ) → j < l.k → get_or l.words.items j 0 ≡ bit_xor (get_or l.initial.words.items j 0) (get_or l.others j 0);
  rest : (j : ℕ) → l.k ≤ j → get_or l.words.items j 0 ≡ get_or l.initial.words.items j 0;
}

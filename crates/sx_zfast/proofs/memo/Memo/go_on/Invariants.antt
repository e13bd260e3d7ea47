use Rattle.std.proofs.Common.{◌≡◌, ℕ, ◌<◌, ◌≤◌, length}
use Rattle.sx_zfast.specs.Memo.{known_at, IsKept}
use Rattle.sx_zfast.proofs.memo.Memo.go_on.Given as goal

abbrev pub invariant-loop-i : goal.invariant-loop-i
invariant-loop-i l = record {
  many : length l.self.slots ≡ 32;
  before : length l.initial.self.slots ≡ 32;
  done : (j : ℕ) → j < l.i → IsKept l.shared (known_at l.initial.self.slots j) (known_at l.self.slots j);
  rest : (j : ℕ) → l.i ≤ j → known_at l.self.slots j ≡ known_at l.initial.self.slots j;
}

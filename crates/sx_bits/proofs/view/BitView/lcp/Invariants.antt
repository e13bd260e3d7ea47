use Rattle.std.proofs.Common.{◌≡◌, ℕ, ◌-◌, ◌<◌, false, get_or}
use Rattle.sx_bits.specs.Views.{bits_of}
use Rattle.sx_bits.proofs.view.BitView.lcp.Given as goal

abbrev pub invariant-loop-at : goal.invariant-loop-at
invariant-loop-at l = (j : ℕ) → j < l.at → j < l.most → get_or (bits_of l.self) j false ≡ get_or (bits_of l.other) j false

abbrev pub decreases-loop-at : goal.decreases-loop-at
decreases-loop-at l = l.most - l.at

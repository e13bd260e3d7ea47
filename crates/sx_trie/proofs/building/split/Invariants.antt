use Rattle.std.proofs.Common.{◌≡◌, ℕ, ◌-◌, ◌<◌, ◌≤◌, true, false}
use Rattle.sx_spec_strings.specs.Bits.{bit_at}
use Rattle.sx_trie.specs.Ranges.{string_at}
use Rattle.sx_trie.proofs.building.split.Given as goal

abbrev pub invariant-loop-low : goal.invariant-loop-low
invariant-loop-low l = record {
  low : l.first ≤ l.low;
  ordered : l.low ≤ l.high;
  high : l.high ≤ l.after;
  zeros : (j : ℕ) → l.first ≤ j → j < l.low → bit_at (string_at l.keys.lines l.delimiters j) l.extent ≡ false;
  ones : (j : ℕ) → l.high ≤ j → j < l.after → bit_at (string_at l.keys.lines l.delimiters j) l.extent ≡ true;
}

abbrev pub decreases-loop-low : goal.decreases-loop-low
decreases-loop-low l = l.high - l.low

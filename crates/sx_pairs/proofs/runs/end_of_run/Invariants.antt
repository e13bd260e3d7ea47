use Rattle.std.proofs.Common.{◌≡◌, ℕ, ◌-◌, ◌<◌, ◌≤◌, true, false, length, take}
use Rattle.sx_spec_strings.specs.Bits.{begins_with}
use Rattle.sx_pairs.specs.Pairs.{key_at}
use Rattle.sx_pairs.proofs.runs.end_of_run.Given as goal

abbrev pub invariant-loop-low : goal.invariant-loop-low
invariant-loop-low l = record {
  above : l.at < l.low;
  ordered : l.low ≤ l.high;
  within : l.high ≤ length l.keys.lines;
  run : (i : ℕ) → l.at ≤ i → i < l.low → begins_with (key_at l.keys.lines i) (take l.len (key_at l.keys.lines l.at)) ≡ true;
  beyond : (i : ℕ) → l.high ≤ i → i < length l.keys.lines → begins_with (key_at l.keys.lines i) (take l.len (key_at l.keys.lines l.at)) ≡ false;
}

abbrev pub decreases-loop-low : goal.decreases-loop-low
decreases-loop-low l = l.high - l.low

use Rattle.std.proofs.Common.{◌≡◌, ℕ, ◌-◌, ◌<◌, ◌≤◌, true, false, take}
use Rattle.sx_spec_strings.specs.Bits.{begins_with}
use Rattle.sx_pairs.specs.Pairs.{key_at}
use Rattle.sx_pairs.proofs.runs.start_of_run.Given as goal

abbrev pub invariant-loop-low : goal.invariant-loop-low
invariant-loop-low l = record {
  ordered : l.low ≤ l.high;
  within : l.high ≤ l.at;
  run : (i : ℕ) → l.high ≤ i → i ≤ l.at → begins_with (key_at l.keys.lines i) (take l.len (key_at l.keys.lines l.at)) ≡ true;
  before : (i : ℕ) → i < l.low → begins_with (key_at l.keys.lines i) (take l.len (key_at l.keys.lines l.at)) ≡ false;
}

abbrev pub decreases-loop-low : goal.decreases-loop-low
decreases-loop-low l = l.high - l.low

use Rattle.std.proofs.Common.{◌≡◌, ◌≤◌, ◌<◌, ◌^◌, length, true}
use Rattle.sx_spec.specs.Fields.{ones_of, words_number}
use Rattle.sx_ranksel.specs.Directory.{rank_of}
use Rattle.sx_ef.specs.Parts.{sums_of, never_falls}
use Rattle.sx_ef.proofs.Numbers.{last_of}
use Rattle.sx_ef.proofs.check.are_sums_counted.Given as goal

abbrev pub invariant-loop-place : goal.invariant-loop-place
invariant-loop-place g l =
    let x = words_number l.upper in
    let lows = g.F.Fields.items l.low in
    let numbers = sums_of (g.F.Fields.bits l.low) (ones_of l.place x) lows in
    record {
      seen : l.seen ≡ rank_of l.place x;
      few : l.seen ≤ length lows;
      keeps : never_falls numbers ≡ true;
      last : l.previous ≡ last_of numbers;
      small : l.previous < 2 ^ 98;
    }

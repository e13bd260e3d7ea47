use Rattle.std.proofs.Common.{◌≡◌, ◌-◌, ◌*◌, ◌/◌, ◌<◌, ◌≤◌, ◌++◌, map}
use Rattle.std.specs.List.{range_with_len}
use Rattle.sx_spec.specs.Fields.{words_for}
use Rattle.sx_ranksel.specs.Directory.{number_at, rank_of}
use Rattle.sx_ranksel.specs.Groups.{place_of}
use Rattle.sx_ranksel.proofs.groups.push_places.Given as goal

abbrev pub invariant-loop-k : goal.invariant-loop-k
invariant-loop-k g l =
    let x = number_at l.first (g.B.WordBank.words_of l.bank) in
    record {
      places : l.places.items ≡ l.initial.places.items ++ map (place_of l.bits x) (range_with_len l.from (l.k - l.from));
      below : l.one.below ≡ rank_of (64 * (l.one.place / 64)) x;
      low : l.one.below ≤ l.k;
      start : l.one.place < 64 * words_for l.bits;
    }

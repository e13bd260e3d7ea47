use Rattle.std.proofs.Common.{◌+◌, ◌*◌, ◌%◌, ◌^◌, ◌<◌, ◌≤◌}
use Rattle.std.specs.Int.Count.{ones}
use Rattle.sx_ranksel.proofs.search.pieces_before.Given as goal

abbrev pub invariant-loop-piece : goal.invariant-loop-piece
invariant-loop-piece l =
    record {
      few : l.pieces < l.piece;
      low : ones (l.word % 2 ^ (l.size * l.pieces)) ≤ l.k;
      high : l.pieces + 1 < l.piece → l.k < ones (l.word % 2 ^ (l.size * (l.pieces + 1)));
    }

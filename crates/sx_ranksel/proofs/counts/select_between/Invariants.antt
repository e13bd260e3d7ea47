use Rattle.std.proofs.Common.{◌≡◌, ◌+◌, ◌-◌, ◌*◌, ◌≤◌}
use Rattle.sx_ranksel.specs.Directory.{number_at, rank_of}
use Rattle.sx_ranksel.proofs.counts.select_between.Given as goal

abbrev pub invariant-loop-word : goal.invariant-loop-word
invariant-loop-word g l =
    record {
      before : l.before ≡ rank_of (64 * l.word) (number_at l.first (g.B.WordBank.words_of l.bank));
      low : l.before ≤ l.k;
      cost : l.steps ≡ l.initial.steps + (l.word - l.from);
    }

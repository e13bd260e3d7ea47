use Rattle.std.proofs.Common.{◌≡◌, ◌+◌, ◌-◌, ◌*◌}
use Rattle.sx_ranksel.specs.Directory.{number_at, rank_of}
use Rattle.sx_ranksel.proofs.counts.next_between.Given as goal

abbrev pub invariant-loop-word : goal.invariant-loop-word
invariant-loop-word g l =
    let x = number_at l.first (g.B.WordBank.words_of l.bank) in
    record {
      none : rank_of (64 * l.word) x ≡ rank_of (64 * l.from) x;
      cost : l.steps ≡ l.initial.steps + (l.word - l.from);
    }

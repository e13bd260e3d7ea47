use Rattle.std.proofs.Common.{◌≡◌, ◌+◌, ◌*◌, map}
use Rattle.std.specs.List.{range_with_len}
use Rattle.sx_ranksel.specs.Directory.{number_at, rank_of}
use Rattle.sx_ranksel.proofs.directories.block_counts.Given as goal

abbrev pub invariant-loop-block : goal.invariant-loop-block
invariant-loop-block g l =
    let x = number_at l.first (g.B.WordBank.words_of l.bank) in
    record {
      counts : l.counts.items ≡ map (λ block. rank_of (512 * block) x) (range_with_len 0 (l.block + 1));
      ones : l.ones ≡ rank_of (512 * l.block) x;
      cost : l.steps ≡ l.initial.steps + 8 * l.block;
    }

use Rattle.std.proofs.Common.{◌≡◌, ◌+◌, ◌≤◌, ◌++◌, codes, take}
use Rattle.sx_ef.specs.Parts.{low_size}
use Rattle.sx_ranksel.specs.Directory.{number_at, rank_of}
use Rattle.sx_dump.specs.Showing.{IsShown, number_lines, sums_read}
use Rattle.sx_dump.proofs.show.show_sums_items.Given as goal

abbrev pub invariant-bits : goal.invariant-bits
invariant-bits g l =
    let words = g.B.WordBank.words_of l.bank in
    record {
      seen : l.i ≡ rank_of l.bit (number_at (l.sums.body + low_size l.sums.count l.sums.below) words);
      shown : IsShown (g.O.Sink.written l.initial.out) (g.O.Sink.written l.out)
          (l.initial.page.bytes ++ number_lines (codes "item") (take l.i (sums_read words l.sums)))
          l.page.bytes;
      calm : g.O.Sink.faults l.out ≡ g.O.Sink.faults l.initial.out;
      counted : l.initial.steps ≤ l.steps;
    }

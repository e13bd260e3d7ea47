use Rattle.std.proofs.Common.{◌≡◌, ◌≤◌, ◌++◌, length, take}
use Rattle.std.specs.Prelude.{flat_map, zip}
use Rattle.sx_dump.specs.Showing.{IsShown, place_lines}
use Rattle.sx_dump.proofs.show.show_places.Given as goal

abbrev pub invariant-sections : goal.invariant-sections
invariant-sections g l =
    let pairs = l.initial.slot-iterator in
    record {
      shown : IsShown (g.O.Sink.written l.initial.out) (g.O.Sink.written l.out)
          (l.initial.page.bytes ++ flat_map (λ p. place_lines (g.B.WordBank.words_of l.bank) p.0.name p.1) (take (length l.yielded) (zip pairs.a.rest.now pairs.b.rest.now)))
          l.page.bytes;
      calm : g.O.Sink.faults l.out ≡ g.O.Sink.faults l.initial.out;
      counted : l.initial.steps ≤ l.steps;
    }

use Rattle.std.proofs.Common.{◌≡◌, ◌+◌, ◌/◌, ◌^◌, ◌<◌, All, length, take, get_or}
use Rattle.sx_spec.specs.Fields.{words_for, words_number}
use Rattle.sx_ef.specs.Parts.{places_number}
use Rattle.sx_ef.proofs.encode.set_places.Given as goal

abbrev pub invariant-loop-i : goal.invariant-loop-i
invariant-loop-i l =
    record {
      size : length l.upper.items ≡ words_for l.bits;
      small : All (λ w. w < 2 ^ 64) l.upper.items;
      number : words_number l.upper.items ≡ places_number l.width (take l.i l.list);
      below : l.i < length l.list → words_number l.upper.items < 2 ^ (get_or l.list l.i 0 / 2 ^ l.width + l.i);
    }

use Rattle.std.proofs.Common.{◌≡◌, ◌-◌, ◌%◌, ◌^◌, ◌++◌, length, map, take, replicate}
use Rattle.sx_ef.proofs.encode.pack_low.Given as goal

abbrev pub invariant-loop-i : goal.invariant-loop-i
invariant-loop-i l =
    record {
      width : l.low.width ≡ l.width;
      items : l.low.items ≡ map (λ x. x % 2 ^ l.width) (take l.i l.list) ++ replicate (length l.list - l.i) 0;
    }

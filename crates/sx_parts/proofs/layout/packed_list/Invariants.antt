use Rattle.std.proofs.Common.{◌≡◌, ◌-◌, ◌++◌, length, take, replicate}
use Rattle.sx_parts.proofs.layout.packed_list.Given as goal

abbrev pub invariant-loop-i : goal.invariant-loop-i
invariant-loop-i l = record {
  width : l.list.width ≡ l.width;
  items : l.list.items ≡ take l.i l.numbers ++ replicate (length l.numbers - l.i) 0;
}

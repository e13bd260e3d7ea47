use Rattle.std.proofs.Common.{◌≡◌, map, take}
use Rattle.sx_assemble.specs.Handling.{number_of}
use Rattle.sx_assemble.proofs.zfast.node_list.Given as goal

abbrev pub invariant-loop-i : goal.invariant-loop-i
invariant-loop-i l = l.numbers.items ≡ map (number_of l.of) (take l.i l.trie.nodes)

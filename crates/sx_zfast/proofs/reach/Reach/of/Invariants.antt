use Rattle.std.proofs.Common.{◌≡◌, take}
use Rattle.sx_zfast.specs.Largest.{largest}
use Rattle.sx_zfast.proofs.ProbeStages.{lens_in}
use Rattle.sx_zfast.proofs.reach.Reach.of.Given as goal

abbrev pub invariant-loop-node : goal.invariant-loop-node
invariant-loop-node l = l.longest ≡ largest (take l.node (lens_in l.trie.nodes))

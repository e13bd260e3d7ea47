use Rattle.sx_solve.proofs.dense.xor_of_word.Given as goal

abbrev pub decreases-loop-left : goal.decreases-loop-left
decreases-loop-left l = l.left

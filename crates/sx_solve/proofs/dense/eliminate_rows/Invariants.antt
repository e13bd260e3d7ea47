use Rattle.std.proofs.Common.{All, length}
use Rattle.sx_solve.specs.Lazy.{IsStepWithin}
use Rattle.sx_solve.proofs.dense.eliminate_rows.Given as goal

abbrev pub invariant-loop-row : goal.invariant-loop-row
invariant-loop-row l = All (IsStepWithin l.words (length l.values)) l.steps.items

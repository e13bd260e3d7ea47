use Rattle.std.proofs.Common.{ℕ, ◌<◌}
use Rattle.std.specs.List.{AllZip, range_with_len}
use Rattle.sx_spec.specs.StaticFunction.{CanBeBuilt}
use Rattle.sx_static.specs.Tries.{IsFailure, try_equations}
use Rattle.sx_static.proofs.chunk.make_tries.Given as goal

abbrev pub invariant-loop-number : goal.invariant-loop-number
invariant-loop-number l = record {
  none : (t : ℕ) → t < l.number → ¬ CanBeBuilt l.method (try_equations l.s t l.sigs l.values);
  each : AllZip (IsFailure l.method l.s l.sigs l.values l.numbers) (range_with_len 0 l.number) l.witnesses.items;
}

use Rattle.std.proofs.Common.{◌≡◌, ◌*◌, All, map, take}
use Rattle.sx_spec.specs.StaticFunction.{entry_equation}
use Rattle.sx_solve.specs.Solving.{IsEquationWithin}
use Rattle.sx_static.specs.Answer.{entries_of}
use Rattle.sx_static.proofs.edges.equations_of.Given as goal

abbrev pub invariant-loop-place : goal.invariant-loop-place
invariant-loop-place l = record {
  equations : l.equations.items ≡ map (entry_equation l.t l.s) (take l.place (entries_of l.sigs l.values));
  within : All (IsEquationWithin (3 * l.s)) l.equations.items;
}

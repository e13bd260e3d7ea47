use Rattle.std.proofs.Common.{◌*◌, ◌≤◌, All, length}
use Rattle.sx_solve.specs.Solving.{IsEquationWithin}
use Rattle.sx_solve.proofs.random_tests.random_equations.Given as goal

abbrev pub invariant-loop : goal.invariant-loop
invariant-loop l = record {
  within : All (IsEquationWithin (3 * l.third)) l.eqs.items;
  count : length l.eqs.items ≤ l.counter;
}

use Rattle.std.specs.Prelude.{◌≡◌, ◌≤◌, length, take}
use Rattle.sux_c.specs.Building.{AllFail}
use Rattle.sux_c.specs.Told.{failures_in}
use Rattle.sux_c.proofs.tries.try_counted.Given as goal

abbrev pub invariant-tries : goal.invariant-tries
invariant-tries g l = record {
  failing : AllFail l.plan l.keys.lines l.values (take l.seed-index l.seeds) (failures_in l.failures);
  count : l.failures.count ≡ l.seed-index;
  long : length (failures_in l.failures) ≡ l.seed-index;
}

use Rattle.std.specs.Prelude.{◌≤◌, take}
use Rattle.sx_trial.specs.Seeds.{FailSoFar}
use Rattle.sx_trial.proofs.seeds.try_seeds.Given as goal

abbrev pub invariant-tries : goal.invariant-tries
invariant-tries g l = record {
  failing : FailSoFar l.plan (take l.seed-index l.seeds) l.keys.lines l.values l.message.items;
  counted : l.fn.steps ≤ l.steps;
}

use Rattle.std.proofs.Common.{arith, refl, ◌∙◌}
use Rattle.sx_trial.proofs.Tries.{none_tried, seed_fails, seed_works}
use Rattle.sx_trial.proofs.seeds.try_seeds.Goals as goal

pub tries-init : goal.tries-init
tries-init g c = record {
  failing = none_tried c.args.plan.now c.args.keys.now.lines c.args.values.now _ c.new-message.ensures.items;
  counted = omega arith;
}

pub tries-preserved : goal.tries-preserved
tries-preserved g c = record {
  failing = seed_fails c.args.plan.now c.args.seeds.now c.args.keys.now.lines c.args.values.now c.tries.message.items c.tries.seed-index _ (omega arith) refl c.tries.invariant.failing
      c.in-SeedFailed.fault (rw c.in-SeedFailed.is at c.in_ok-words.ensures.assembled) c.push_failure.new.text.items c.in_ok-push_failure-in-SeedFailed.ensures;
  counted = omega (arith, c.tries.invariant.counted, c.in_ok-words.ensures.counted);
}

pub returns-in-Words-clause-tried : goal.returns-in-Words-clause-tried
returns-in-Words-clause-tried g c =
    seed_works c.args.plan.now c.args.seeds.now c.args.keys.now.lines c.args.values.now c.tries.message.items c.tries.seed-index _ (omega arith) refl c.tries.invariant.failing
    c.in-Words.words.items c.in_ok-line-in-Words.line.items (rw c.in-Words.is at c.in_ok-words.ensures.assembled) _ _ (c.from.ensures ∙ c.len.ensures.value) (omega (arith, c.len-in-Words.ensures)) c.in_ok-line-in-Words.ensures

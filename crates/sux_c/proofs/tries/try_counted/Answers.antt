use Rattle.std.proofs.Common.{ℕ, ◌+◌, ◌∙◌, ◌∷◌, [], ap, arith, length, refl}
use Rattle.std.proofs.lemmas.List.{length-append}
use Rattle.sux_c.proofs.SeedTries.{seed_fails, seed_works}
use Rattle.sux_c.specs.Told.{failures_in}
use Rattle.sux_c.proofs.tries.try_counted.Goals as goal

pub tries-preserved : goal.tries-preserved
tries-preserved g c =
    let failing = seed_fails c.args.plan.now c.args.seeds.now c.args.keys.now.lines c.args.values.now (failures_in c.tries.failures) c.tries.seed-index _ c.tries-test.true refl c.tries.invariant.failing
    c.in-SeedFailed.fault (rw c.in-SeedFailed.is at c.in_ok-words.ensures.assembled) _ c.of.ensures (failures_in c.push.new.self) c.push.ensures.failures in
    record {
      failing = failing;
      count = c.push.ensures.count ∙ ap (λ (n : ℕ). n + 1) c.tries.invariant.count;
      long = ap length c.push.ensures.failures ∙ length-append (failures_in c.tries.failures) (_ ∷ []) ∙ ap (λ (n : ℕ). n + 1) c.tries.invariant.long;
    }

pub returns-in-Words : goal.returns-in-Words
returns-in-Words g c =
    seed_works c.args.plan.now c.args.seeds.now c.args.keys.now.lines c.args.values.now (failures_in c.tries.failures) c.tries.seed-index _ c.tries-test.true refl c.tries.invariant.failing
    c.in-Words.words.items (rw c.in-Words.is at c.in_ok-words.ensures.assembled) c.tries.invariant.long

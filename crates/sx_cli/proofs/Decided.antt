-- An outcome that is due agrees with what the seeds decide.
use Rattle.std.proofs.Common.{◌≡◌, ℕ, zero, suc, ◌<◌, List, [], ◌∷◌, ◌++◌, length, refl, sym, ap, subst, ◌∙◌, inl, inr, arith}
use Rattle.std.specs.Prelude.{slice_index_or}
use Rattle.std.specs.List.{AllByRecursion, AllZip}
use Rattle.sx_spec.specs.declared.Method.{Method}
use Rattle.sx_spec.specs.declared.Status.TheVariants.{Done, SeedsFailed}
use Rattle.sx_spec.specs.Command.{Text, Task, BuildTask, usage, build, query, open_dump, show_dump, trial, default_plan}
use Rattle.sx_spec.specs.Outcomes.{Profile, IsDue, IsGiven, GivesValues, task_parts, trial_build, trial_parts}
use Rattle.sx_spec.specs.Run.{TellsEnough, SeedsDecide, IsDecided}
use Rattle.sx_spec.specs.StaticFunction.{Part, SeedFailure, IsSeedFailure, IsFirstWorkingSeed, SeedWorks}
use Rattle.sx_spec.specs.World.{World, Outcome}
use Rattle.sx_spec.proofs.Due.{keys_are, valid_or_refused, one_value, given_or_refused}
use Rattle.sx_spec.proofs.Witnesses.{failures_refute_seeds}

module _ (method : Method) (tries sig_bits : ℕ) (parts : List Part) where
  -- where each seed has a failure, none of them works
  none_works : (seeds : List ℕ) (failures : List SeedFailure) (seed k : ℕ) → AllZip (λ s failure. IsSeedFailure method tries sig_bits parts s failure) seeds failures
      → k < length seeds → slice_index_or seeds k seed ≡ seed → SeedWorks method tries sig_bits parts seed → ⊥
  none_works [] failures seed k all lt at works = absurd (omega arith)
  none_works (s ∷ seeds) [] seed k all lt at works = absurd all
  none_works (s ∷ seeds) (f ∷ failures) seed zero all lt at works = failures_refute_seeds method tries sig_bits parts s f all.0 (subst (SeedWorks method tries sig_bits parts) (sym at) works)
  none_works (s ∷ seeds) (f ∷ failures) seed (suc k) all lt at works = none_works seeds failures seed k all.1 (omega arith) at works

  -- a seed among seeds that don't work
  one_works : (before after : List ℕ) (seed : ℕ) → AllByRecursion (λ s. ¬ SeedWorks method tries sig_bits parts s) (before ++ seed ∷ after) → SeedWorks method tries sig_bits parts seed → ⊥
  one_works [] after seed all works = all.0 works
  one_works (b ∷ before) after seed all works = one_works before after seed all.1 works

  works_decides : (p : Profile) (task : BuildTask) (seed : ℕ) → task.plan.method ≡ method → p.tries ≡ tries → task.plan.sig_bits ≡ sig_bits
      → IsFirstWorkingSeed method tries sig_bits parts task.seeds seed → SeedsDecide p task parts Done
  works_decides p task seed same_method same_tries same_bits first = record {
    works = λ s within works. inl refl;
    fails = λ all.
        let (front, after, is, none) = first.first in
        let all_here : AllByRecursion (λ s. ¬ SeedWorks method tries sig_bits parts s) task.seeds = rw (← same_method, ← same_tries, ← same_bits) all in
        absurd (one_works front after seed (subst (AllByRecursion (λ s. ¬ SeedWorks method tries sig_bits parts s)) is all_here) first.works);
  }

  failures_decide : (p : Profile) (task : BuildTask) (failures : List SeedFailure) → task.plan.method ≡ method → p.tries ≡ tries → task.plan.sig_bits ≡ sig_bits
      → AllZip (λ s failure. IsSeedFailure method tries sig_bits parts s failure) task.seeds failures → SeedsDecide p task parts SeedsFailed
  failures_decide p task failures same_method same_tries same_bits all = record {
    works = λ s within works.
        let works_here : SeedWorks method tries sig_bits parts s = rw (← same_method, ← same_tries, ← same_bits) works in
        absurd (none_works task.seeds failures s within.0 all within.1 within.2 works_here);
    fails = λ _. inl refl;
  }

-- the parts of two given lists of keys and values are the same
same_parts : (p : Profile) (task : BuildTask) (before : World) → TellsEnough (build task) before → (xs ys : List Text) (vs ws : List ℕ)
    → IsGiven p task before xs vs → IsGiven p task before ys ws → task_parts p task xs vs ≡ task_parts p task ys ws
same_parts p task before enough xs ys vs ws x y =
    let keys : xs ≡ ys = keys_are p task before enough xs x.input ∙ sym (keys_are p task before enough ys y.input) in
    let gives : GivesValues task.values (length ys) before vs = rw (← keys) x.values_fit in
    let values : vs ≡ ws = one_value p task before enough task.values enough.1 (length ys) vs ws gives y.values_fit in
    ap (λ (ks : List Text). task_parts p task ks vs) keys ∙ ap (λ (ns : List ℕ). task_parts p task ys ns) values

pub decided : (p : Profile) (task : Task) (before : World) (o : Outcome) → IsDue p task before o → IsDecided p task before o.status
decided p (usage rule) before o due = tt
decided p (build task) before o (inl d) = λ enough keys values given.
    let same = same_parts p task before enough d.keys keys d.values values d.given given in
    let done = works_decides task.plan.method p.tries task.plan.sig_bits (task_parts p task d.keys d.values) p task d.seed refl refl refl d.first_seed in
    subst (SeedsDecide p task (task_parts p task keys values)) (sym (ap (λ (x : Outcome). x.status) d.is)) (subst (λ (ps : List Part). SeedsDecide p task ps Done) same done)
decided p (build task) before o (inr (inl k)) = λ enough keys values given. absurd (valid_or_refused p task before enough keys given.input given.keys_fit o k)
decided p (build task) before o (inr (inr (inl v))) = λ enough keys values given. absurd (given_or_refused p task before enough keys values given o v)
decided p (build task) before o (inr (inr (inr s))) = λ enough keys values given.
    let same = same_parts p task before enough s.keys keys s.values values s.given given in
    let failed = failures_decide task.plan.method p.tries task.plan.sig_bits (task_parts p task s.keys s.values) p task s.failures refl refl refl s.each_seed in
    subst (SeedsDecide p task (task_parts p task keys values)) (sym (ap (λ (x : Outcome). x.status) s.is)) (subst (λ (ps : List Part). SeedsDecide p task ps SeedsFailed) same failed)
decided p (query name) before o due = tt
decided p (open_dump name) before o due = tt
decided p (show_dump name) before o due = tt
decided p (trial kind n) before o (inl d) =
    subst (SeedsDecide p (trial_build kind) (trial_parts p kind n)) (sym (ap (λ (x : Outcome). x.status) d.is))
    (works_decides (default_plan kind).method p.tries (default_plan kind).sig_bits (trial_parts p kind n) p (trial_build kind) d.seed refl refl refl d.first_seed)
decided p (trial kind n) before o (inr f) =
    subst (SeedsDecide p (trial_build kind) (trial_parts p kind n)) (sym (ap (λ (x : Outcome). x.status) f.is))
    (failures_decide (default_plan kind).method p.tries (default_plan kind).sig_bits (trial_parts p kind n) p (trial_build kind) f.failures refl refl refl f.each_seed)

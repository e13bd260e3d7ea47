-- How the seeds of a build are tried, one after the other.
use Rattle.std.proofs.Common.{◌≡◌, ℕ, ◌+◌, ◌<◌, zero, suc, List, [], ◌∷◌, ◌++◌, length, take, drop, map, refl, sym, ap, subst, ◌∙◌, arith, append_assoc, Some}
use Rattle.std.specs.Prelude.{get_or, slice_get}
use Rattle.std.specs.List.{AllZip, AllByRecursion}
use Rattle.std.proofs.Math.Seq.{take-suc}
use Rattle.std.proofs.lemmas.List.{take-append-drop, length-map}
use Rattle.sx_spec.specs.declared.Method.{Method}
use Rattle.sx_spec.specs.declared.Plan.{Plan}
use Rattle.sx_spec.specs.StaticFunction.{Part, SeedFailure, IsSeedFailure, SeedWorks}
use Rattle.sx_spec.proofs.Witnesses.{failures_refute_seeds}
use Rattle.sx_parts.specs.Assembling.{IsDumpOf, IsFailure, failure_of}
use Rattle.sx_parts.specs.declared.PartFault.{PartFault}
use Rattle.sux_c.specs.declared.told.SuxFailure.{SuxFailure}
use Rattle.sux_c.specs.Building.{parts_for, AllFail, IsBuiltBy}
use Rattle.sux_c.specs.Told.{failure_told}

module _ (method : Method) (sig_bits : ℕ) (parts : List Part) where
  abbrev Fails : ℕ → SeedFailure → Type 0
  Fails seed failure = IsSeedFailure method 64 sig_bits parts seed failure

  fails_more : (seeds : List ℕ) (failures : List SeedFailure) (seed : ℕ) (failure : SeedFailure) → AllZip Fails seeds failures → Fails seed failure → AllZip Fails (seeds ++ seed ∷ []) (failures ++ failure ∷ [])
  fails_more [] [] seed failure all one = (one, tt)
  fails_more [] (f ∷ failures) seed failure all one = absurd all
  fails_more (s ∷ seeds) [] seed failure all one = absurd all
  fails_more (s ∷ seeds) (f ∷ failures) seed failure all one = (all.0, fails_more seeds failures seed failure all.1 one)

  none_work : (seeds : List ℕ) (failures : List SeedFailure) → AllZip Fails seeds failures → AllByRecursion (λ s. ¬ SeedWorks method 64 sig_bits parts s) seeds
  none_work [] failures all = tt
  none_work (s ∷ seeds) [] all = absurd all
  none_work (s ∷ seeds) (f ∷ failures) all = (λ works. failures_refute_seeds method 64 sig_bits parts s f all.0 works, none_work seeds failures all.1)

told_more : (failures : List SeedFailure) (failure : SeedFailure) → map failure_told (failures ++ failure ∷ []) ≡ map failure_told failures ++ failure_told failure ∷ []
told_more [] failure = refl
told_more (f ∷ failures) failure = ap (λ (l : List SuxFailure). failure_told f ∷ l) (told_more failures failure)

found_at : (seeds : List ℕ) (i : ℕ) → i < length seeds → slice_get seeds i ≡ Some (get_or seeds i 0)
found_at [] i lt = absurd (omega (arith, lt))
found_at (s ∷ seeds) zero lt = refl
found_at (s ∷ seeds) (suc i) lt = found_at seeds i (omega (arith, lt))

-- before the first seed
pub none_tried : (plan : Plan) (keys : List (List ℕ)) (values : List ℕ) (told : List SuxFailure) → told ≡ [] → AllFail plan keys values [] told
none_tried plan keys values told none = record { failures = []; each_seed = tt; told_are = none }

module _ (plan : Plan) (seeds : List ℕ) (keys : List (List ℕ)) (values : List ℕ) (told : List SuxFailure) (i seed : ℕ) (lt : i < length seeds) (is : seed ≡ get_or seeds i 0) (fail : AllFail plan keys values (take i seeds) told) where
  next : take (i + 1) seeds ≡ take i seeds ++ seed ∷ []
  next =
      let one : i + 1 ≡ suc i = omega arith in
      ap (λ (n : ℕ). take n seeds) one ∙ take-suc seeds i 0 lt ∙ ap (λ (x : ℕ). take i seeds ++ x ∷ []) (sym is)

  -- one more seed fails
  pub seed_fails : (fault : PartFault) → IsFailure keys values plan seed fault → (one : SuxFailure) → one ≡ failure_told (failure_of fault) → (more : List SuxFailure) → more ≡ told ++ one ∷ [] → AllFail plan keys values (take (i + 1) seeds) more
  seed_fails fault failure one one_is more more_is = subst (λ (ss : List ℕ). AllFail plan keys values ss more) (sym next) (record {
    failures = fail.failures ++ failure_of fault ∷ [];
    each_seed = fails_more plan.method plan.sig_bits (parts_for plan keys values) (take i seeds) fail.failures seed (failure_of fault) fail.each_seed failure.failure;
    told_are = more_is ∙ ap (λ (l : List SuxFailure). l ++ one ∷ []) fail.told_are ∙ ap (λ (x : SuxFailure). map failure_told fail.failures ++ x ∷ []) one_is
        ∙ sym (told_more fail.failures (failure_of fault));
  })

  split : seeds ≡ take i seeds ++ seed ∷ drop (i + 1) seeds
  split = sym (take-append-drop (i + 1) seeds) ∙ ap (λ (l : List ℕ). l ++ drop (i + 1) seeds) next ∙ append_assoc (take i seeds) (seed ∷ []) (drop (i + 1) seeds)

  -- the seed works
  pub seed_works : (words : List ℕ) → IsDumpOf keys values plan seed words → length told ≡ i → IsBuiltBy plan keys values seeds words seed told
  seed_works words built many = record {
    dump = built.dump;
    first_seed = record {
      works = built.built.works;
      first = (take i seeds, drop (i + 1) seeds, split, none_work plan.method plan.sig_bits (parts_for plan keys values) (take i seeds) fail.failures fail.each_seed);
    };
    built = built.built;
    passes = built.passes;
    members = built.members;
    words_are = built.words_are;
    here = ap (slice_get seeds) many ∙ found_at seeds i lt ∙ ap (λ (x : ℕ). Some x) (sym is);
    before = subst (λ (n : ℕ). AllFail plan keys values (take n seeds) told) (sym many) fail;
  }

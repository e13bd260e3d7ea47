-- How the seeds of a build are tried, one after the other.
use Rattle.std.proofs.Common.{◌≡◌, ℕ, ◌+◌, ◌<◌, suc, List, [], ◌∷◌, ◌++◌, length, take, drop, refl, sym, ap, subst, ◌∙◌, arith, append_assoc, append-nil}
use Rattle.std.specs.Prelude.{get_or, flat_map, zip, decimal, codes}
use Rattle.std.specs.List.{AllZip, AllByRecursion}
use Rattle.std.proofs.Math.Seq.{take-suc}
use Rattle.std.proofs.lemmas.List.{take-append-drop}
use Rattle.sx_spec.specs.declared.Method.{Method}
use Rattle.sx_spec.specs.declared.Plan.{Plan}
use Rattle.sx_spec.specs.Command.{Text}
use Rattle.sx_spec.specs.Layout.{Header, layout}
use Rattle.sx_spec.specs.Messages.{built_line, failure_text, no_seed_text}
use Rattle.sx_spec.specs.StaticFunction.{Part, SeedFailure, IsSeedFailure, SeedWorks}
use Rattle.sx_spec.proofs.Witnesses.{failures_refute_seeds}
use Rattle.sx_parts.specs.Assembling.{IsDumpOf, IsFailure, failure_of}
use Rattle.sx_parts.specs.declared.PartFault.{PartFault}
use Rattle.sx_trial.specs.Seeds.{parts_for, IsReady, AllFail, FailSoFar}

-- the lines on seeds that fail, one more seed
lines_more : (plan : Plan) (seeds : List ℕ) (failures : List SeedFailure) (seed : ℕ) (failure : SeedFailure) → length seeds ≡ length failures
    → flat_map (λ p. failure_text plan p.0 p.1) (zip (seeds ++ seed ∷ []) (failures ++ failure ∷ []))
    ≡ flat_map (λ p. failure_text plan p.0 p.1) (zip seeds failures) ++ failure_text plan seed failure
lines_more plan [] [] seed failure same = append-nil (failure_text plan seed failure)
lines_more plan [] (f ∷ failures) seed failure same = absurd (omega (arith, same))
lines_more plan (s ∷ seeds) [] seed failure same = absurd (omega (arith, same))
lines_more plan (s ∷ seeds) (f ∷ failures) seed failure same =
    ap (λ (l : Text). failure_text plan s f ++ l) (lines_more plan seeds failures seed failure (omega (arith, same)))
    ∙ sym (append_assoc (failure_text plan s f) (flat_map (λ p. failure_text plan p.0 p.1) (zip seeds failures)) (failure_text plan seed failure))

module _ (method : Method) (sig_bits : ℕ) (parts : List Part) where
  abbrev Fails : ℕ → SeedFailure → Type 0
  Fails seed failure = IsSeedFailure method 64 sig_bits parts seed failure

  fails_more : (seeds : List ℕ) (failures : List SeedFailure) (seed : ℕ) (failure : SeedFailure) → AllZip Fails seeds failures → Fails seed failure → AllZip Fails (seeds ++ seed ∷ []) (failures ++ failure ∷ [])
  fails_more [] [] seed failure all one = (one, tt)
  fails_more [] (f ∷ failures) seed failure all one = absurd all
  fails_more (s ∷ seeds) [] seed failure all one = absurd all
  fails_more (s ∷ seeds) (f ∷ failures) seed failure all one = (all.0, fails_more seeds failures seed failure all.1 one)

  as_many : (seeds : List ℕ) (failures : List SeedFailure) → AllZip Fails seeds failures → length seeds ≡ length failures
  as_many [] [] all = refl
  as_many [] (f ∷ failures) all = absurd all
  as_many (s ∷ seeds) [] all = absurd all
  as_many (s ∷ seeds) (f ∷ failures) all = let rest = as_many seeds failures all.1 in omega (arith, rest)

  none_work : (seeds : List ℕ) (failures : List SeedFailure) → AllZip Fails seeds failures → AllByRecursion (λ s. ¬ SeedWorks method 64 sig_bits parts s) seeds
  none_work [] failures all = tt
  none_work (s ∷ seeds) [] all = absurd all
  none_work (s ∷ seeds) (f ∷ failures) all = (λ works. failures_refute_seeds method 64 sig_bits parts s f all.0 works, none_work seeds failures all.1)

-- before the first seed
pub none_tried : (plan : Plan) (keys : List Text) (values message : List ℕ) → message ≡ [] → FailSoFar plan [] keys values message
none_tried plan keys values message none = record { failures = []; each_seed = tt; message_is = none }

module _ (plan : Plan) (seeds : List ℕ) (keys : List Text) (values message : List ℕ) (i seed : ℕ) (lt : i < length seeds) (is : seed ≡ get_or seeds i 0) (fail : FailSoFar plan (take i seeds) keys values message) where
  next : take (i + 1) seeds ≡ take i seeds ++ seed ∷ []
  next =
      let one : i + 1 ≡ suc i = omega arith in
      ap (λ (n : ℕ). take n seeds) one ∙ take-suc seeds i 0 lt ∙ ap (λ (x : ℕ). take i seeds ++ x ∷ []) (sym is)

  -- one more seed fails
  pub seed_fails : (fault : PartFault) → IsFailure keys values plan seed fault → (more : Text) → more ≡ message ++ failure_text plan seed (failure_of fault) → FailSoFar plan (take (i + 1) seeds) keys values more
  seed_fails fault failure more told = subst (λ (ss : List ℕ). FailSoFar plan ss keys values more) (sym next) (record {
    failures = fail.failures ++ failure_of fault ∷ [];
    each_seed = fails_more plan.method plan.sig_bits (parts_for plan keys values) (take i seeds) fail.failures seed (failure_of fault) fail.each_seed failure.failure;
    message_is = told ∙ ap (λ (l : Text). l ++ failure_text plan seed (failure_of fault)) fail.message_is
        ∙ sym (lines_more plan (take i seeds) fail.failures seed (failure_of fault) (as_many plan.method plan.sig_bits (parts_for plan keys values) (take i seeds) fail.failures fail.each_seed));
  })

  split : seeds ≡ take i seeds ++ seed ∷ drop (i + 1) seeds
  split = sym (take-append-drop (i + 1) seeds) ∙ ap (λ (l : List ℕ). l ++ drop (i + 1) seeds) next ∙ append_assoc (take i seeds) (seed ∷ []) (drop (i + 1) seeds)

  -- the seed works
  pub seed_works : (words line : List ℕ) (built : IsDumpOf keys values plan seed words) (many count : ℕ) → many ≡ length keys → count ≡ length words
      → line ≡ codes "keys " ++ decimal many ++ codes " seed " ++ decimal seed ++ codes " words " ++ decimal count ++ 10 ∷ []
      → IsReady plan seeds keys values words line
  seed_works words line built many count many_is count_is line_is = record {
    seed = seed;
    dump = built.dump;
    first_seed = record {
      works = built.built.works;
      first = (take i seeds, drop (i + 1) seeds, split, none_work plan.method plan.sig_bits (parts_for plan keys values) (take i seeds) fail.failures fail.each_seed);
    };
    built = built.built;
    passes = built.passes;
    members = built.members;
    words_are = built.words_are;
    line_is = line_is ∙ same_line;
  }
    where
      same_line : codes "keys " ++ decimal many ++ codes " seed " ++ decimal seed ++ codes " words " ++ decimal count ++ 10 ∷ [] ≡ built_line built.dump
      same_line =
          let keys_same : many ≡ built.dump.header.keys = many_is ∙ sym (ap (λ (h : Header). h.keys) built.built.header) in
          let seed_same : seed ≡ built.dump.header.seed = sym (ap (λ (h : Header). h.seed) built.built.header) in
          let count_same : count ≡ length (layout built.dump) = count_is ∙ ap (λ (l : List ℕ). length l) built.words_are in
          λ i. codes "keys " ++ decimal (keys_same i) ++ codes " seed " ++ decimal (seed_same i) ++ codes " words " ++ decimal (count_same i) ++ 10 ∷ []

-- no seed is left
pub all_fail : (plan : Plan) (seeds : List ℕ) (keys : List Text) (values message told : List ℕ) → FailSoFar plan seeds keys values message → told ≡ message ++ no_seed_text → AllFail plan seeds keys values told
all_fail plan seeds keys values message told fail is = record {
  failures = fail.failures;
  each_seed = fail.each_seed;
  message_is = is ∙ ap (λ (l : Text). l ++ no_seed_text) fail.message_is;
}

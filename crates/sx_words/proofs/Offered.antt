-- What the words ask for: a build of what the program offers, and a trial of at most 1,000,000 keys.
use Rattle.std.proofs.Common.{◌≡◌, ◌≢◌, ℕ, ◌^◌, ◌≤◌, Bool, true, false, ◌&&◌, List, [], ◌∷◌, Option, Some, None, ◌∙◌, refl, sym, ap, subst, arith, lit≤}
use Rattle.std.specs.Prelude.{not, find, is_some, codes, nat_le, nat_lt, slice_get, unwrap_or, option_and_then, if◌then◌else◌}
use Rattle.std.specs.Str.{bytes_eq}
use Rattle.std.proofs.lemmas.Bool.{ltb-true}
use Rattle.sx_spec_kinds.specs.declared.Kind.{Kind}
use Rattle.sx_spec_kinds.specs.declared.Kind.TheVariants.{Func, Lcp, Lcp2, Hollow, HollowDist, Zfast}
use Rattle.sx_spec.specs.declared.Method.TheVariants.{Mwhc}
use Rattle.sx_spec.specs.declared.OptionName.TheVariants.{Method as MethodName, LogBucket, SigBits, HandleBits, Signed, Values}
use Rattle.sx_spec.specs.declared.Rule.{Rule}
use Rattle.sx_spec.specs.declared.Rule.TheVariants.{UnknownCommand, UnknownKind, BadWords, SignedAndValues}
use Rattle.sx_spec.specs.Kinds.{uses_buckets, uses_handles, uses_method}
use Rattle.sx_spec.specs.Values.{is_numeral, numeral_value, number_below}
use Rattle.sx_spec.specs.Command.{Text, Split, BuildTask, Task, usage, build, trial, command, verbs, verb_task, for_split, for_kind, unless, trial_task, number_within, positional, setting, is_given, kind_named, method_named, options_rule, option_names, build_task}
use Rattle.sx_spec_program.specs.Offer.{offers_kind}
use Rattle.sx_spec_program.specs.Program.{sux_offer, IsOfferedBuild}
use Rattle.sx_words.specs.declared.names.Command.{Command}
use Rattle.sx_words.specs.declared.names.Command.TheVariants.{Build, Query, Open, Dump, Trial}
use Rattle.sx_words.specs.Arguments.{split_for}
use Rattle.sx_words.specs.Rules.{task_with, kind_task, has_bad_value, is_unfit}
use Rattle.sx_words.proofs.Plans.{no_first, no_pair, no_rule, none_found, number_fits}
use Rattle.sx_words.proofs.Verdicts.{rule_is}

-- ---- the ways to a task

module _ {P : Type 0} (task : Task) where
  -- the words are those of a command
  by_command : (word : Text) (rest : List Text) → (usage UnknownCommand ≡ task → P) → ((name : Command) → for_split (split_for name rest) (task_with name) ≡ task → P) → command (word ∷ rest) ≡ task → P
  by_command word rest unknown known e =
      by_tests (bytes_eq (codes "build") word) (bytes_eq (codes "query") word) (bytes_eq (codes "open") word) (bytes_eq (codes "dump") word) (bytes_eq (codes "trial") word) e
    where
      by_tests : (v w x y z : Bool)
          → verb_task (if v then slice_get verbs 0 else if w then slice_get verbs 1 else if x then slice_get verbs 2 else if y then slice_get verbs 3 else if z then slice_get verbs 4 else None) rest ≡ task → P
      by_tests true w x y z h = known Build h
      by_tests false true x y z h = known Query h
      by_tests false false true y z h = known Open h
      by_tests false false false true z h = known Dump h
      by_tests false false false false true h = known Trial h
      by_tests false false false false false h = unknown h

  by_split : (o : Option Split) (next : Split → Task) → (usage BadWords ≡ task → P) → ((s : Split) → next s ≡ task → P) → for_split o next ≡ task → P
  by_split None next bad well e = bad e
  by_split (Some s) next bad well e = well s e

  by_kind : (word : Text) (next : Kind → Task) → (usage UnknownKind ≡ task → P) → ((kind : Kind) → next kind ≡ task → P) → for_kind word next ≡ task → P
  by_kind word next unknown known e = by_option (kind_named word) e
    where
      by_option : (o : Option Kind) → elim o [ None ↦ usage UnknownKind | Some kind ↦ next kind ] ≡ task → P
      by_option None h = unknown h
      by_option (Some kind) h = known kind h

-- ---- a build

-- a kind that uses no method has none, since none may be given
no_method : (goes : Bool) (o : Option Text) → (is_some o && not goes) ≡ false → goes ≡ false → unwrap_or (option_and_then method_named o) Mwhc ≡ Mwhc
no_method false None unfit none = refl
no_method false (Some word) unfit none = absurd cc
no_method true o unfit none = absurd cc

-- a signed width leaves no place for a file of values, since only one of the two may be given
no_values : (signed values : Option Text) → (is_some signed && is_some values) ≡ false → unwrap_or (option_and_then (number_below (2 ^ 64)) signed) 0 ≢ 0 → values ≡ None
no_values None values alone width = absurd (width refl)
no_values (Some text) None alone width = refl
no_values (Some text) (Some name) alone width = absurd cc

each_kind : (kind : Kind) → offers_kind sux_offer kind ≡ true
each_kind Func = refl
each_kind Lcp = refl
each_kind Lcp2 = refl
each_kind Hollow = refl
each_kind HollowDist = refl
each_kind Zfast = refl

-- what options ask for that break no rule is offered
options_fit : (s : Split) (kind : Kind) → options_rule s kind ≡ None → IsOfferedBuild (build_task s kind)
options_fit s kind free =
    let no_value = sym (rule_is s kind) ∙ free in
    let good = none_found (has_bad_value s) option_names (no_rule (find (has_bad_value s) option_names) _ _ no_value) in
    let no_kind = no_first (find (has_bad_value s) option_names) _ _ no_value in
    let fit = none_found (is_unfit s kind) option_names (no_rule (find (is_unfit s kind) option_names) _ _ no_kind) in
    let alone = no_pair (is_given s Signed && is_given s Values) SignedAndValues (no_first (find (is_unfit s kind) option_names) _ _ no_kind) in
    record {
      plan = record {
        kind = each_kind kind;
        signed = number_fits true (setting s Signed) 1 64 0 64 (lit≤ tt) (lit≤ tt) good.1.1.1.1.1.0;
        no_method = no_method (uses_method kind) (setting s MethodName) fit.1.0;
        buckets = number_fits (uses_buckets kind) (setting s LogBucket) 0 12 5 12 (lit≤ tt) (lit≤ tt) good.1.1.0;
        no_buckets = λ none. ap (λ (goes : Bool). if goes then unwrap_or (option_and_then (number_below (2 ^ 64)) (setting s LogBucket)) 5 else 0) none;
        handles = number_fits (uses_handles kind) (setting s HandleBits) 0 64 32 64 (lit≤ tt) (lit≤ tt) good.1.1.1.1.0;
        no_handles = λ none. ap (λ (goes : Bool). if goes then unwrap_or (option_and_then (number_below (2 ^ 64)) (setting s HandleBits)) 32 else 0) none;
        bits = number_fits true (setting s SigBits) 0 192 192 192 (lit≤ tt) (lit≤ tt) good.1.1.1.0;
      };
      values = λ width. no_values (setting s Signed) (setting s Values) alone width;
    }

kind_fits : (s : Split) (b : BuildTask) (kind : Kind) → kind_task s kind ≡ build b → IsOfferedBuild b
kind_fits s b kind e = by_rule (options_rule s kind) refl e
  where
    by_rule : (o : Option Rule) → options_rule s kind ≡ o → unless o (build (build_task s kind)) ≡ build b → IsOfferedBuild b
    by_rule None free h =
        let is : build_task s kind ≡ b = cc in
        subst (λ (t : BuildTask). IsOfferedBuild t) is (options_fit s kind free)
    by_rule (Some rule) free h = absurd cc

-- the words of a build ask for what is offered
pub build_fits : (words : List Text) (b : BuildTask) → command words ≡ build b → IsOfferedBuild b
build_fits [] b e = absurd cc
build_fits (word ∷ rest) b e = by_command (build b) word rest (λ h. absurd cc) of_command e
  where
    never : (s : Split) (kind : Kind) (o : Option ℕ) → trial_task kind o ≡ build b → IsOfferedBuild b
    never s kind None h = absurd cc
    never s kind (Some n) h = absurd cc

    of_command : (name : Command) → for_split (split_for name rest) (task_with name) ≡ build b → IsOfferedBuild b
    of_command Build h = by_split (build b) (split_for Build rest) (task_with Build) (λ q. absurd cc) (λ s. by_kind (build b) (positional s 0) (kind_task s) (λ q. absurd cc) (kind_fits s b)) h
    of_command Query h = by_split (build b) (split_for Query rest) (task_with Query) (λ q. absurd cc) (λ s q. absurd cc) h
    of_command Open h = by_split (build b) (split_for Open rest) (task_with Open) (λ q. absurd cc) (λ s q. absurd cc) h
    of_command Dump h = by_split (build b) (split_for Dump rest) (task_with Dump) (λ q. absurd cc) (λ s q. absurd cc) h
    of_command Trial h =
        by_split (build b) (split_for Trial rest) (task_with Trial) (λ q. absurd cc)
        (λ s. by_kind (build b) (positional s 0) (λ kind. trial_task kind (number_within 0 1000000 (positional s 1))) (λ q. absurd cc) (λ kind. never s kind (number_within 0 1000000 (positional s 1)))) h

-- ---- a trial

module _ (kind : Kind) (n : ℕ) where
  asked : (b : Bool) (v : ℕ) (named : Kind) → trial_task named (if b then Some v else None) ≡ trial kind n → v ≡ n
  asked true v named e = cc
  asked false v named e = absurd cc

  within : (digits : Bool) (v : ℕ) (named : Kind) → trial_task named (option_and_then (λ m. if nat_le 0 m then Some m else None) (if digits && nat_lt v 1000001 then Some v else None)) ≡ trial kind n → n ≤ 1000000
  within false v named e = absurd cc
  within true v named e =
      elim (nat_lt v 1000001) as (λ b. nat_lt v 1000001 ≡ b → trial_task named (option_and_then (λ m. if nat_le 0 m then Some m else None) (if b then Some v else None)) ≡ trial kind n → n ≤ 1000000) [
        | true ↦ λ below is. let same = asked (nat_le 0 v) v named is in let small = ltb-true v 1000001 below in omega arith
        | false ↦ λ above is. absurd cc
      ] refl e

  no_build : (s : Split) (named : Kind) (o : Option Rule) → unless o (build (build_task s named)) ≡ trial kind n → n ≤ 1000000
  no_build s named None e = absurd cc
  no_build s named (Some rule) e = absurd cc

  -- the words of a trial ask for at most so many keys
  trial_of : (words : List Text) → command words ≡ trial kind n → n ≤ 1000000
  trial_of [] e = absurd cc
  trial_of (word ∷ rest) e = by_command (trial kind n) word rest (λ h. absurd cc) of_command e
    where
      of_command : (name : Command) → for_split (split_for name rest) (task_with name) ≡ trial kind n → n ≤ 1000000
      of_command Build h = by_split (trial kind n) (split_for Build rest) (task_with Build) (λ q. absurd cc) (λ s. by_kind (trial kind n) (positional s 0) (kind_task s) (λ q. absurd cc) (λ named. no_build s named (options_rule s named))) h
      of_command Query h = by_split (trial kind n) (split_for Query rest) (task_with Query) (λ q. absurd cc) (λ s q. absurd cc) h
      of_command Open h = by_split (trial kind n) (split_for Open rest) (task_with Open) (λ q. absurd cc) (λ s q. absurd cc) h
      of_command Dump h = by_split (trial kind n) (split_for Dump rest) (task_with Dump) (λ q. absurd cc) (λ s q. absurd cc) h
      of_command Trial h =
          by_split (trial kind n) (split_for Trial rest) (task_with Trial) (λ q. absurd cc)
          (λ s. by_kind (trial kind n) (positional s 0) (λ named. trial_task named (number_within 0 1000000 (positional s 1))) (λ q. absurd cc) (within (is_numeral (positional s 1)) (numeral_value (positional s 1)))) h

pub trial_fits : (words : List Text) (kind : Kind) (n : ℕ) → command words ≡ trial kind n → n ≤ 1000000
trial_fits words kind n e = trial_of kind n words e

-- The numbers of a plan whose options break no rule.
use Rattle.std.proofs.Common.{◌≡◌, ℕ, ◌+◌, ◌^◌, ◌≤◌, Bool, true, false, ◌&&◌, List, [], ◌∷◌, Option, Some, None, ◌∙◌, refl, sym, arith, lit≤}
use Rattle.std.specs.Prelude.{not, find, is_some, unwrap_or, option_and_then, nat_le, nat_lt, min, if◌then◌else◌}
use Rattle.std.specs.List.{AllByRecursion}
use Rattle.std.proofs.lemmas.Bool.{ltb-true}
use Rattle.sx_spec_kinds.specs.declared.Kind.{Kind}
use Rattle.sx_spec.specs.declared.Method.{Method}
use Rattle.sx_spec.specs.declared.Method.TheVariants.{Mwhc}
use Rattle.sx_spec.specs.declared.OptionName.TheVariants.{Method as MethodName, LogBucket, SigBits, HandleBits, Signed}
use Rattle.sx_spec.specs.Values.{is_numeral, numeral_value, number_below}
use Rattle.sx_spec.specs.Command.{Text, Split, options_rule, option_names, setting, number_within, number_of, goes_with, method_named, plan_of}
use Rattle.sx_words.specs.Rules.{has_bad_value}
use Rattle.sx_words.proofs.Verdicts.{some_or, rule_is}

pub no_rule : {X Y : Type 0} (o : Option X) (f : X → Y) (rest : Option Y) → some_or o f rest ≡ None → o ≡ None
no_rule None f rest e = refl
no_rule (Some x) f rest e = absurd cc

pub no_first : {X Y : Type 0} (o : Option X) (f : X → Y) (rest : Option Y) → some_or o f rest ≡ None → rest ≡ None
no_first None f rest e = e
no_first (Some x) f rest e = absurd cc

pub no_pair : {Y : Type 0} (b : Bool) (y : Y) → (if b then Some y else None) ≡ None → b ≡ false
no_pair true y e = absurd cc
no_pair false y e = refl

pub none_found : {X : Type 0} (p : X → Bool) (xs : List X) → find p xs ≡ None → AllByRecursion (λ x. p x ≡ false) xs
none_found p [] e = tt
none_found p (x ∷ xs) e =
    elim (p x) as (λ b. p x ≡ b → (if b then Some x else find p xs) ≡ None → AllByRecursion (λ x. p x ≡ false) (x ∷ xs)) [
      | true ↦ λ passes found. absurd cc
      | false ↦ λ fails rest. (fails, none_found p xs rest)
    ] refl e

at_most : (b : Bool) (v default most : ℕ) → v ≤ most → default ≤ most → unwrap_or (if b then Some v else None) default ≤ most
at_most true v default most small plain = small
at_most false v default most small plain = plain

within : (digits : Bool) (v low high default most : ℕ) → high ≤ most → default ≤ most
    → is_some (option_and_then (λ n. if nat_le low n then Some n else None) (if digits && nat_lt v (high + 1) then Some v else None)) ≡ true
    → unwrap_or (if digits && nat_lt v (2 ^ 64) then Some v else None) default ≤ most
within false v low high default most fits plain ok = plain
within true v low high default most fits plain ok =
    elim (nat_lt v (high + 1)) as (λ b. nat_lt v (high + 1) ≡ b → is_some (option_and_then (λ n. if nat_le low n then Some n else None) (if b then Some v else None)) ≡ true → unwrap_or (if nat_lt v (2 ^ 64) then Some v else None) default ≤ most) [
      | true ↦ λ below some. let small = ltb-true v (high + 1) below in at_most (nat_lt v (2 ^ 64)) v default most (omega arith) plain
      | false ↦ λ above some. absurd cc
    ] refl ok

is_double_not : (b : Bool) → not b ≡ false → b ≡ true
is_double_not true e = refl
is_double_not false e = absurd cc

-- the number of an option that has no bad value
pub number_fits : (goes : Bool) (o : Option Text) (low high default most : ℕ) → high ≤ most → default ≤ most
    → (is_some o && not (is_some (number_within low high (unwrap_or o [])))) ≡ false
    → (if goes then unwrap_or (option_and_then (number_below (2 ^ 64)) o) default else 0) ≤ most
number_fits false o low high default most fits plain good = omega arith
number_fits true None low high default most fits plain good = plain
number_fits true (Some text) low high default most fits plain good =
    within (is_numeral text) (numeral_value text) low high default most fits plain (is_double_not (is_some (number_within low high text)) good)

capped : (n r : ℕ) → n ≤ 4294967295 → r ≡ min n 4294967295 → r ≡ n
capped n r small is = omega arith

-- the plan is the one whose numbers are capped at 32 bits
pub plan_is : (s : Split) (kind : Kind) (m : Method) (a b d e : ℕ) → options_rule s kind ≡ None
    → m ≡ unwrap_or (option_and_then method_named (setting s MethodName)) Mwhc
    → a ≡ min (number_of s kind LogBucket 5) 4294967295 → b ≡ min (number_of s kind SigBits 192) 4294967295
    → d ≡ min (number_of s kind HandleBits 32) 4294967295 → e ≡ min (number_of s kind Signed 0) 4294967295
    → record { kind = kind; method = m; log_bucket = a; sig_bits = b; handle_bits = d; signed = e } ≡ plan_of s kind
plan_is s kind m a b d e free m_is a_is b_is d_is e_is =
    let good = none_found (has_bad_value s) option_names (no_rule (find (has_bad_value s) option_names) _ _ (sym (rule_is s kind) ∙ free)) in
    let log : number_of s kind LogBucket 5 ≤ 4294967295 = number_fits (goes_with LogBucket kind) (setting s LogBucket) 0 12 5 4294967295 (lit≤ tt) (lit≤ tt) good.1.1.0 in
    let sig : number_of s kind SigBits 192 ≤ 4294967295 = number_fits (goes_with SigBits kind) (setting s SigBits) 0 192 192 4294967295 (lit≤ tt) (lit≤ tt) good.1.1.1.0 in
    let handle : number_of s kind HandleBits 32 ≤ 4294967295 = number_fits (goes_with HandleBits kind) (setting s HandleBits) 0 64 32 4294967295 (lit≤ tt) (lit≤ tt) good.1.1.1.1.0 in
    let signed : number_of s kind Signed 0 ≤ 4294967295 = number_fits (goes_with Signed kind) (setting s Signed) 1 64 0 4294967295 (lit≤ tt) (lit≤ tt) good.1.1.1.1.1.0 in
    let same_log = capped (number_of s kind LogBucket 5) a log a_is in
    let same_sig = capped (number_of s kind SigBits 192) b sig b_is in
    let same_handle = capped (number_of s kind HandleBits 32) d handle d_is in
    let same_signed = capped (number_of s kind Signed 0) e signed e_is in
    rw (m_is, same_log, same_sig, same_handle, same_signed) refl

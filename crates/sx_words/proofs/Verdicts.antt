-- The first rule that the options break.
use Rattle.std.proofs.Common.{◌≡◌, Bool, true, false, ◌&&◌, List, [], ◌∷◌, ◌++◌, Option, Some, None, ◌∙◌, refl, sym, ap}
use Rattle.std.specs.Prelude.{map, find, if◌then◌else◌}
use Rattle.sx_spec_strings.specs.First.{first_holding}
use Rattle.sx_spec_kinds.specs.declared.Kind.{Kind}
use Rattle.sx_spec.specs.declared.OptionName.{OptionName}
use Rattle.sx_spec.specs.declared.OptionName.TheVariants.{Signed, Values}
use Rattle.sx_spec.specs.declared.Rule.{Rule}
use Rattle.sx_spec.specs.declared.Rule.TheVariants.{BadValue, DoesNotGo, SignedAndValues}
use Rattle.sx_spec.specs.Command.{Split, options_rule, option_names, is_given}
use Rattle.sx_words.specs.Rules.{has_bad_value, is_unfit}

-- the answer for the element, if there is one
abbrev pub some_or : {X Y : Type 0} → Option X → (X → Y) → Option Y → Option Y
some_or None f rest = rest
some_or (Some x) f rest = Some (f x)

-- the first of the rows over a list is that of the first element that passes
pub first_of_rows : {X Y : Type 0} (p : X → Bool) (f : X → Y) (xs : List X) (rows : List (Bool × Y)) → first_holding (map (λ x. (p x, f x)) xs ++ rows) ≡ some_or (find p xs) f (first_holding rows)
first_of_rows p f [] rows = refl
first_of_rows p f (x ∷ xs) rows =
    elim (p x) as (λ b. (if b then Some (f x) else first_holding (map (λ y. (p y, f y)) xs ++ rows)) ≡ some_or (if b then Some x else find p xs) f (first_holding rows)) [
      | true ↦ refl
      | false ↦ first_of_rows p f xs rows
    ]

-- the rule by the first option with a bad value, then the first that is unfit, then the two that exclude each other
pub rule_is : (s : Split) (kind : Kind) → options_rule s kind
    ≡ some_or (find (has_bad_value s) option_names) (λ name. BadValue name)
    (some_or (find (is_unfit s kind) option_names) (λ name. DoesNotGo name kind)
    (if is_given s Signed && is_given s Values then Some SignedAndValues else None))
rule_is s kind =
    first_of_rows {Y = Rule} (has_bad_value s) (λ name. BadValue name) option_names (map (λ name. (is_unfit s kind name, DoesNotGo name kind)) option_names ++ (is_given s Signed && is_given s Values, SignedAndValues) ∷ [])
    ∙ ap (some_or (find (has_bad_value s) option_names) (λ name. BadValue name)) (first_of_rows {Y = Rule} (is_unfit s kind) (λ name. DoesNotGo name kind) option_names ((is_given s Signed && is_given s Values, SignedAndValues) ∷ []))

module _ (s : Split) (kind : Kind) where
  -- an option has a bad value
  pub by_value : (name : OptionName) → Some name ≡ find (has_bad_value s) option_names → Some (BadValue name) ≡ options_rule s kind
  by_value name bad =
      sym (rule_is s kind ∙ ap (λ o. some_or o (λ name. BadValue name) (some_or (find (is_unfit s kind) option_names) (λ name. DoesNotGo name kind) (if is_given s Signed && is_given s Values then Some SignedAndValues else None))) (sym bad))

  rule_after : None ≡ find (has_bad_value s) option_names → options_rule s kind
      ≡ some_or (find (is_unfit s kind) option_names) (λ name. DoesNotGo name kind) (if is_given s Signed && is_given s Values then Some SignedAndValues else None)
  rule_after good =
      rule_is s kind ∙ ap (λ o. some_or o (λ name. BadValue name) (some_or (find (is_unfit s kind) option_names) (λ name. DoesNotGo name kind) (if is_given s Signed && is_given s Values then Some SignedAndValues else None))) (sym good)

  -- an option doesn't go with the kind
  pub by_kind : (name : OptionName) → None ≡ find (has_bad_value s) option_names → Some name ≡ find (is_unfit s kind) option_names → Some (DoesNotGo name kind) ≡ options_rule s kind
  by_kind name good unfit =
      sym (rule_after good ∙ ap (λ o. some_or o (λ name. DoesNotGo name kind) (if is_given s Signed && is_given s Values then Some SignedAndValues else None)) (sym unfit))

  -- neither
  pub by_pair : (pair : Bool) → None ≡ find (has_bad_value s) option_names → None ≡ find (is_unfit s kind) option_names → (is_given s Signed && is_given s Values) ≡ pair
      → (if pair then Some SignedAndValues else None) ≡ options_rule s kind
  by_pair pair good fit is =
      sym (rule_after good ∙ ap (λ o. some_or o (λ name. DoesNotGo name kind) (if is_given s Signed && is_given s Values then Some SignedAndValues else None)) (sym fit)
      ∙ ap (λ b. if b then Some SignedAndValues else None) is)

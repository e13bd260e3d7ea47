-- The built parsers of the commands, and what they find by a name, an id or a place.
use Rattle.std.proofs.Common.{◌≡◌, ℕ, Bool, true, false, ◌||◌, List, [], ◌∷◌, ◌++◌, Option, Some, None, ◌∙◌, refl, sym, ap}
use Rattle.std.specs.Prelude.{map, find, option_map, codes, if◌then◌else◌}
use Rattle.std.specs.List.{list_all}
use Rattle.std.specs.Option.{option_map_or}
use Rattle.std.specs.Str.{bytes_eq}
use Rattle.std.proofs.lemmas.Slice.Eq.{bytes_eq-Decides}
use Rattle.clap.specs.Words.{Rule, Shape, new_rule, built}
use Rattle.clap.specs.Simple.{new_shape}
use Rattle.clap.specs.Walk.{arg_by_long, arg_by_id, is_empty}
use Rattle.clap.specs.declared.builder.action.ArgAction.TheVariants.{Set}
use Rattle.clap.specs.declared.builder.value_parser.ValueParser.TheVariants as parser
use Rattle.sx_spec.specs.declared.OptionName.{OptionName}
use Rattle.sx_spec.specs.Command.{Text}
use Rattle.sx_words.specs.declared.names.Command.{Command}
use Rattle.sx_words.specs.declared.names.Command.TheVariants.{Build, Query, Open, Dump, Trial}
use Rattle.sx_words.specs.Commands.{command_word}
use Rattle.sx_words.specs.Parsers.{parser_of, options_of, option_id}

-- a rule whose uses have one text each
abbrev pub one_rule : Option Text → Option ℕ → Bool → Text → Rule
one_rule long index required id = record (new_rule id) {
  long = long;
  index = index;
  action = Some Set;
  range = Some (record { start_inclusive = 1; end_inclusive = 1 });
  parser = Some parser.String;
  required = required;
}

-- the rule of an option, built
abbrev pub option_built : OptionName → Rule
option_built name = one_rule (Some (option_id name)) None false (option_id name)

-- the rule of the positional word at a place, built
abbrev pub positional_built : ℕ → Text → Rule
positional_built i id = one_rule None (Some i) true id

abbrev pub positionals_built : Command → List Rule
positionals_built Build = positional_built 1 (codes "kind") ∷ positional_built 2 (codes "dump") ∷ []
positionals_built Query = positional_built 1 (codes "dump") ∷ []
positionals_built Open = positional_built 1 (codes "dump") ∷ []
positionals_built Dump = positional_built 1 (codes "dump") ∷ []
positionals_built Trial = positional_built 1 (codes "kind") ∷ positional_built 2 (codes "keys") ∷ []

abbrev pub rules_built : Command → List Rule
rules_built command = map option_built (options_of command) ++ positionals_built command

-- a built parser of these rules
abbrev pub shape_built : Text → List Rule → Shape
shape_built label rules = record (new_shape label) {
  rules = rules;
  no_binary_name = true;
  disable_help_flag = true;
  disable_help_subcommand = true;
  is_built = true;
}

pub built_is : (command : Command) → built (parser_of command) ≡ record { top = shape_built (command_word command) (rules_built command); subs = [] }
unfolding parser_of
built_is Build = refl
built_is Query = refl
built_is Open = refl
built_is Dump = refl
built_is Trial = refl

-- ---- what is found

-- the option of this id
abbrev pub option_of : List OptionName → Text → Option OptionName
option_of options id = find (λ name. bytes_eq (option_id name) id) options

-- the rule of the option, if there is one, or else the other
abbrev built_or : Option OptionName → Option Rule → Option Rule
built_or None rest = rest
built_or (Some name) rest = Some (option_built name)

pub found_by_long : (options : List OptionName) (rest : List Rule) (id : Text) → arg_by_long rest id ≡ None → arg_by_long (map option_built options ++ rest) id ≡ option_map option_built (option_of options id)
found_by_long [] rest id none = none
found_by_long (name ∷ names) rest id none =
    elim (bytes_eq (option_id name) id) as (λ b. (if b || false then Some (option_built name) else arg_by_long (map option_built names ++ rest) id) ≡ option_map option_built (if b then Some name else option_of names id)) [
      | true ↦ refl
      | false ↦ found_by_long names rest id none
    ]

pub found_by_id : (options : List OptionName) (rest : List Rule) (id : Text) → arg_by_id (map option_built options ++ rest) id ≡ built_or (option_of options id) (arg_by_id rest id)
found_by_id [] rest id = refl
found_by_id (name ∷ names) rest id =
    elim (bytes_eq (option_id name) id) as (λ b. (if b then Some (option_built name) else arg_by_id (map option_built names ++ rest) id) ≡ built_or (if b then Some name else option_of names id) (arg_by_id rest id)) [
      | true ↦ refl
      | false ↦ found_by_id names rest id
    ]

-- what is found passes the test
pub found_passes : {X : Type 0} (test : X → Bool) (xs : List X) (x : X) → find test xs ≡ Some x → test x ≡ true
found_passes {X = X} test [] x found = absurd cc
found_passes {X = X} test (y ∷ ys) x found =
    elim (test y) as (λ b. test y ≡ b → (if b then Some y else find test ys) ≡ Some x → test x ≡ true) [
      | true ↦ λ passes same. ap (λ (o : Option X). option_map_or test o false) (sym same) ∙ passes
      | false ↦ λ fails later. found_passes test ys x later
    ] refl found

-- an option that is found by its name is found by its id
pub option_by_id : (options : List OptionName) (rest : List Rule) (id : Text) (name : OptionName) → option_of options id ≡ Some name → (id ≡ option_id name) × (arg_by_id (map option_built options ++ rest) (option_id name) ≡ Some (option_built name))
option_by_id options rest id name found =
    let same : id ≡ option_id name = sym ((bytes_eq-Decides (option_id name) id).0 (found_passes (λ n. bytes_eq (option_id n) id) options name found)) in
    (same, found_by_id options rest (option_id name) ∙ ap (λ o. built_or o (arg_by_id rest (option_id name))) (ap (option_of options) (sym same) ∙ found))

-- no rule has a default
abbrev pub has_no_default : List Rule → Bool
has_no_default rules = list_all (λ rule. is_empty rule.defaults) rules

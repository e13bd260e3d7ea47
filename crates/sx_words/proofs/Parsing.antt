-- What a parser makes of the words of a command, where each of them may stand.
use Rattle.std.proofs.Common.{◌≡◌, Bool, ◌&&◌, true, false, refl, List, [], ◌∷◌, length, Option, Some, None, ◌∙◌, sym, ap}
use Rattle.std.specs.Prelude.{drop, if◌then◌else◌, option_map, ◌==◌}
use Rattle.std.specs.List.{list_all}
use Rattle.clap.specs.Words.{App, Row, is_simple_and_free, fault_of, matches_of}
use Rattle.clap.specs.Simple.{names_of, argument_words}
use Rattle.clap.specs.Walk.{nothing_held, rows_after, arg_by_long}
use Rattle.clap.specs.Kinds.{Kinds}
use Rattle.clap.specs.Faults.{built_fault}
use Rattle.sx_spec.specs.Command.{Text, Split, well_formed}
use Rattle.sx_words.specs.declared.names.Command.{Command}
use Rattle.sx_words.specs.declared.names.Command.TheVariants.{Build, Query, Open, Dump, Trial}
use Rattle.sx_words.specs.Commands.{command_word}
use Rattle.sx_words.specs.Parsers.{parser_of, positional_ids, options_of}
use Rattle.sx_words.specs.Arguments.{may_stand, split_for, split_of, has_value}
use Rattle.sx_words.proofs.Shapes.{built_is, rules_built, positionals_built, shape_built, has_no_default}
use Rattle.sx_words.proofs.UsedRows.{unless_fault}
use Rattle.sx_words.proofs.Places.{Placed, ArePlaces}
use Rattle.sx_words.proofs.Settings.{single_is}
use Rattle.sx_words.proofs.Parting.{parted, parted_is, parted_is_plain, one_unfit}
use Rattle.sx_words.proofs.Filling.{filled, filled_is, grown, merged}
use Rattle.sx_words.proofs.Walking.{rows_are, AreAt}
use Rattle.sx_words.proofs.Walked.{AreWanted, walk_fills}

pub simple : (command : Command) → is_simple_and_free (parser_of command) ≡ true
unfolding parser_of
simple Build = refl
simple Query = refl
simple Open = refl
simple Dump = refl
simple Trial = refl

-- ---- the parsers

no_long : (command : Command) (name : Text) → arg_by_long (positionals_built command) name ≡ None
no_long Build name = refl
no_long Query name = refl
no_long Open name = refl
no_long Dump name = refl
no_long Trial name = refl

no_default : (command : Command) → has_no_default (rules_built command) ≡ true
no_default Build = refl
no_default Query = refl
no_default Open = refl
no_default Dump = refl
no_default Trial = refl

wanted : (command : Command) → AreWanted (rules_built command) (positional_ids command)
wanted Build = λ rows. refl
wanted Query = λ rows. refl
wanted Open = λ rows. refl
wanted Dump = λ rows. refl
wanted Trial = λ rows. refl

in_order : (command : Command) → AreAt (rules_built command) 1 (positional_ids command)
in_order Build = (refl, refl, (refl, refl, refl))
in_order Query = (refl, refl, refl)
in_order Open = (refl, refl, refl)
in_order Dump = (refl, refl, refl)
in_order Trial = (refl, refl, (refl, refl, refl))

places : (command : Command) → ArePlaces (positional_ids command)
places Build = record { no_options = (refl, (refl, tt)); distinct = ((refl, tt), (tt, tt)) }
places Query = record { no_options = (refl, tt); distinct = (tt, tt) }
places Open = record { no_options = (refl, tt); distinct = (tt, tt) }
places Dump = record { no_options = (refl, tt); distinct = (tt, tt) }
places Trial = record { no_options = (refl, (refl, tt)); distinct = ((refl, tt), (tt, tt)) }

placed : (command : Command) → Placed (positional_ids command) [] (positional_ids command)
placed Build = record { done = []; in_order = refl; given = tt; absent = (refl, (refl, tt)) }
placed Query = record { done = []; in_order = refl; given = tt; absent = (refl, tt) }
placed Open = record { done = []; in_order = refl; given = tt; absent = (refl, tt) }
placed Dump = record { done = []; in_order = refl; given = tt; absent = (refl, tt) }
placed Trial = record { done = []; in_order = refl; given = tt; absent = (refl, (refl, tt)) }

no_name : (command : Command) → (parser_of command).top.no_binary_name ≡ true
unfolding parser_of
no_name Build = refl
no_name Query = refl
no_name Open = refl
no_name Dump = refl
no_name Trial = refl

-- ---- a parse

parse_fills : (command : Command) (words : List Text) → list_all may_stand words ≡ true
    → unless_fault (fault_of (parser_of command) words) (Some (matches_of (parser_of command) words)) ≡ filled (options_of command) (positional_ids command) [] (positional_ids command) None words
parse_fills command words fit =
    ap (λ (app : App). unless_fault (built_fault app nothing_held (argument_words (parser_of command) words)) (Some (rows_after app.top.rules (names_of app) (argument_words (parser_of command) words)))) (built_is command)
    ∙ ap (λ (b : Bool). unless_fault (built_fault (record { top = shape_built (command_word command) (rules_built command); subs = [] }) nothing_held (if b then words else drop 1 words))
    (Some (rows_after (rules_built command) [] (if b then words else drop 1 words)))) (no_name command)
    ∙ rows_are (shape_built (command_word command) (rules_built command)) words
    ∙ walk_fills (command_word command) (options_of command) (positionals_built command) (positional_ids command) (no_long command) (no_default command) (wanted command) words fit (in_order command)

merged_is : (ids : List Text) (o : Option Split) → merged [] ids o ≡ well_formed (length ids) o
merged_is ids None = refl
merged_is ids (Some s) = ap (λ (b : Bool). if length s.positional == length ids && b then Some s else None) (single_is s.settings)

split_is : (command : Command) (words : List Text) → well_formed (length (positional_ids command)) (parted (options_of command) None words) ≡ split_for command words
split_is Build words = ap (well_formed 2) (parted_is words)
split_is Query words = ap (well_formed 1) (parted_is_plain words)
split_is Open words = ap (well_formed 1) (parted_is_plain words)
split_is Dump words = ap (well_formed 1) (parted_is_plain words)
split_is Trial words = ap (well_formed 2) (parted_is_plain words)

parse_is : (command : Command) (words : List Text) → list_all may_stand words ≡ true
    → option_map (split_of (positional_ids command)) (unless_fault (fault_of (parser_of command) words) (Some (matches_of (parser_of command) words))) ≡ split_for command words
parse_is command words fit =
    ap (option_map (split_of (positional_ids command))) (parse_fills command words fit)
    ∙ filled_is (options_of command) (positional_ids command) [] (positional_ids command) None words (places command) (placed command) fit
    ∙ merged_is (positional_ids command) (parted (options_of command) None words)
    ∙ split_is command words

-- a word that may not stand makes the words bad
pub one_is_unfit : (command : Command) (words : List Text) → list_all may_stand words ≡ false → split_for command words ≡ None
one_is_unfit command words unfit = sym (split_is command words) ∙ ap (well_formed (length (positional_ids command))) (one_unfit (options_of command) None words unfit)

-- a parse without a fault gives the words of the command
pub parsed : (command : Command) (words : List Text) → list_all may_stand words ≡ true → fault_of (parser_of command) words ≡ [] → Some (split_of (positional_ids command) (matches_of (parser_of command) words)) ≡ split_for command words
parsed command words fit none =
    ap (λ faults. option_map (split_of (positional_ids command)) (unless_fault faults (Some (matches_of (parser_of command) words)))) (sym none) ∙ parse_is command words fit

-- each row has a value
pub valued : (command : Command) (words : List Text) → list_all may_stand words ≡ true → fault_of (parser_of command) words ≡ [] → list_all has_value (matches_of (parser_of command) words) ≡ true
valued command words fit none =
    let rows = matches_of (parser_of command) words in
    let filled_rows : filled (options_of command) (positional_ids command) [] (positional_ids command) None words ≡ Some rows =
    sym (parse_fills command words fit) ∙ ap (λ faults. unless_fault faults (Some rows)) none in
    let all = grown (options_of command) (positional_ids command) [] (positional_ids command) None words rows filled_rows in
    ap (list_all has_value) all.is ∙ all.valued

-- a parse with a fault is of bad words
pub refused : (command : Command) (words : List Text) → list_all may_stand words ≡ true → (fault_of (parser_of command) words ≡ [] → ⊥) → split_for command words ≡ None
refused command words fit some = sym (parse_is command words fit) ∙ none_of (fault_of (parser_of command) words) (matches_of (parser_of command) words) some
  where
    none_of : (faults : Kinds) (rows : List Row) → (faults ≡ [] → ⊥) → ◌≡◌ {A = Option Split} (option_map (split_of (positional_ids command)) (unless_fault faults (Some rows))) None
    none_of [] rows some = absurd (some refl)
    none_of (k ∷ ks) rows some = refl

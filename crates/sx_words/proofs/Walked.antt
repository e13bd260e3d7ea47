-- A walk over words that may stand comes to the rows that the words fill.
use Rattle.std.proofs.Common.{◌≡◌, ℕ, ◌+◌, Bool, true, false, ◌&&◌, ◌||◌, List, [], ◌∷◌, ◌++◌, length, take, min, Option, Some, None, ◌∙◌, refl, sym, ap}
use Rattle.std.specs.Prelude.{fold, map, not, ◌==◌, if◌then◌else◌, option_and_then, option_map}
use Rattle.std.specs.List.{list_any, list_all, before_first, after_first, position_or_len}
use Rattle.std.specs.Option.{option_map_or}
use Rattle.std.proofs.Math.Bool.{or-true}
use Rattle.std.proofs.Math.Numerals.{one-add}
use Rattle.std.proofs.Math.Dec.{eqb-suc-zero}
use Rattle.clap.specs.Words.{Row, Rule, Shape}
use Rattle.clap.specs.Lexer.{has_byte, usize_max}
use Rattle.clap.specs.Walk.{idle, option as for_option, arg_by_id, arg_by_long, walk_from, nothing_held, used_by_id, with_default, default_rows, has_row, reading_by, is_empty}
use Rattle.clap.specs.Takes.{is_given}
use Rattle.clap.specs.Faults.{defaults_fault, check_fault, use_fault}
use Rattle.clap.specs.declared.error.kind.ErrorKind.TheVariants as kind
use Rattle.clap.specs.declared.builder.value_parser.Reading.{Reading}
use Rattle.sx_spec.specs.declared.OptionName.{OptionName}
use Rattle.sx_spec.specs.Command.{Text, before_equals, after_equals}
use Rattle.sx_words.specs.Parsers.{option_id}
use Rattle.sx_words.specs.Arguments.{may_stand}
use Rattle.sx_words.proofs.Shapes.{option_built, shape_built, has_no_default, option_of, found_by_long, option_by_id}
use Rattle.sx_words.proofs.Forms.{by_form, before_behind, after_behind, option_by_word, option_behind, plain_is_no_end, plain_is_no_long, plain_is_no_short}
use Rattle.sx_words.proofs.UsedRows.{added, unless_fault}
use Rattle.sx_words.proofs.Filling.{whole_rows, filled, in_place, both}
use Rattle.sx_words.proofs.Walking.{walk_rows, ended, standing, pending_of, settled_with, IsKnown, Finds, AreAt, settle_is, same_then, none_then, long_step, long_idle, long_waiting, missing_step, whole_step, part_step, placed_turn, stray_turn, value_turn}

-- ---- the end

no_text : (defaults : List Text) (there : Bool) (id : Text) (how : Reading) (rows : List Row) → is_empty defaults ≡ true → (if there then rows else default_rows id how defaults rows) ≡ rows
no_text [] true id how rows none = refl
no_text [] false id how rows none = refl
no_text (d ∷ defaults) there id how rows none = let bad : false ≡ true = rw (eqb-suc-zero (length defaults)) at none in absurd cc

no_default : (rows : List Row) (rule : Rule) → is_empty rule.defaults ≡ true → with_default rows rule ≡ rows
no_default rows rule none = no_text rule.defaults (has_row rule.id rows) rule.id (reading_by rule) rows none

no_defaults : (rules : List Rule) (rows : List Row) → has_no_default rules ≡ true → fold with_default rows rules ≡ rows
no_defaults [] rows none = refl
no_defaults (rule ∷ rules) rows none =
    let nones = both (is_empty rule.defaults) (has_no_default rules) none in
    ap (λ rs. fold with_default rs rules) (no_default rows rule nones.0) ∙ no_defaults rules rows nones.1

no_default_fault : (rules : List Rule) (rows : List Row) → has_no_default rules ≡ true → defaults_fault rows rules ≡ []
unfolding defaults_fault
no_default_fault [] rows none = refl
no_default_fault (rule ∷ rules) rows none =
    let nones = both (is_empty rule.defaults) (has_no_default rules) none in
    rw (nones.0, or-true (has_row rule.id rows)) (no_default_fault rules (with_default rows rule) nones.1)

-- the positional words are what the rules want
abbrev pub AreWanted : List Rule → List Text → Type 0
AreWanted rules ids = (rows : List Row) → list_any (λ rule. rule.required && not (is_given rule.id rows)) rules ≡ list_any (λ id. not (is_given id rows)) ids

-- what is left of the end, once nothing is pending
abbrev checked_rows : Text → List Rule → List Row → Option (List Row)
checked_rows label rules rows =
    unless_fault (defaults_fault rows rules) (unless_fault (check_fault (shape_built label rules) (fold with_default rows rules) false) (Some (fold with_default rows rules)))

missing_or : (missing : Bool) (rows : List Row) → unless_fault (if missing then kind.MissingRequiredArgument ∷ [] else []) (Some rows) ≡ (if missing then None else Some rows)
missing_or true rows = refl
missing_or false rows = refl

checked_is : (label : Text) (rules : List Rule) (ids : List Text) → has_no_default rules ≡ true → AreWanted rules ids → (rows : List Row) → checked_rows label rules rows ≡ whole_rows ids rows
checked_is label rules ids none wanted rows =
    ap (λ faults. unless_fault faults (unless_fault (check_fault (shape_built label rules) (fold with_default rows rules) false) (Some (fold with_default rows rules)))) (no_default_fault rules rows none)
    ∙ ap (λ rs. unless_fault (check_fault (shape_built label rules) rs false) (Some rs)) (no_defaults rules rows none)
    ∙ missing_or (list_any (λ rule. rule.required && not (is_given rule.id rows)) rules) rows
    ∙ ap (λ (b : Bool). if b then None else Some rows) (wanted rows)

end_is : (label : Text) (rules : List Rule) (ids : List Text) (rows : List Row) (pending : Option (Text × Text)) → has_no_default rules ≡ true → AreWanted rules ids → IsKnown rules pending
    → ended (shape_built label rules) (record { rows = rows; pending = pending_of pending; skip = 0 }) ≡ option_and_then (whole_rows ids) (settled_with rows pending)
end_is label rules ids rows pending none wanted known =
    settle_is rules rows pending (checked_rows label rules) known
    ∙ same_then (settled_with rows pending) (checked_rows label rules) (whole_rows ids) (checked_is label rules ids none wanted)

-- ---- an option's word

no_equals : (word : Text) → has_byte 61 word ≡ false → before_first (λ b. b == 61) word ≡ word
no_equals [] none = refl
no_equals (x ∷ word) none =
    elim (x == 61) as (λ b. (b || has_byte 61 word) ≡ false → take (if not b then 1 + position_or_len (λ b. b == 61) word else 0) (x ∷ word) ≡ x ∷ word) [
      | true ↦ λ none. absurd cc
      | false ↦ λ none. ap (λ n. take n (x ∷ word)) (one-add (position_or_len (λ b. b == 61) word)) ∙ ap (λ (xs : Text). x ∷ xs) (no_equals word none)
    ] none

-- what the words make of an option's word
long_fills : (options : List OptionName) (ids : List Text) (rows : List Row) (left : List Text) (c : ℕ) (cs : Text) (rest : List Text)
    → filled options ids rows left None ((45 ∷ 45 ∷ c ∷ cs) ∷ rest)
    ≡ (if has_byte 61 (c ∷ cs) then option_and_then (λ name. option_and_then (λ more. filled options ids more left None rest) (added rows (option_id name) (after_first (λ b. b == 61) (c ∷ cs)))) (option_of options (before_first (λ b. b == 61) (c ∷ cs)))
    else option_and_then (λ name. filled options ids rows left (Some name) rest) (option_of options (before_first (λ b. b == 61) (c ∷ cs))))
long_fills options ids rows left c cs rest =
    elim (has_byte 61 (c ∷ cs)) as (λ b. has_byte 61 (c ∷ cs) ≡ b
    → (if b then option_and_then (λ name. option_and_then (λ more. filled options ids more left None rest) (added rows (option_id name) (after_equals (45 ∷ 45 ∷ c ∷ cs)))) (option_by_word options (before_equals (45 ∷ 45 ∷ c ∷ cs)))
    else option_and_then (λ name. filled options ids rows left (Some name) rest) (option_by_word options (45 ∷ 45 ∷ c ∷ cs)))
    ≡ (if b then option_and_then (λ name. option_and_then (λ more. filled options ids more left None rest) (added rows (option_id name) (after_first (λ b. b == 61) (c ∷ cs)))) (option_of options (before_first (λ b. b == 61) (c ∷ cs)))
    else option_and_then (λ name. filled options ids rows left (Some name) rest) (option_of options (before_first (λ b. b == 61) (c ∷ cs))))) [
      | true ↦ λ equals.
          ap (λ value. option_and_then (λ name. option_and_then (λ more. filled options ids more left None rest) (added rows (option_id name) value)) (option_by_word options (before_equals (45 ∷ 45 ∷ c ∷ cs)))) (after_behind (c ∷ cs))
          ∙ ap (option_and_then (λ name. option_and_then (λ more. filled options ids more left None rest) (added rows (option_id name) (after_first (λ b. b == 61) (c ∷ cs)))))
          (ap (option_by_word options) (before_behind (c ∷ cs)) ∙ option_behind options (before_first (λ b. b == 61) (c ∷ cs)))
      | false ↦ λ none.
          ap (option_and_then (λ name. filled options ids rows left (Some name) rest))
          (option_behind options (c ∷ cs) ∙ ap (option_of options) (sym (no_equals (c ∷ cs) none)))
    ] refl

-- ---- all words

module _ (label : Text) (options : List OptionName) (places : List Rule) (ids : List Text)
    (no_long : (name : Text) → arg_by_long places name ≡ None)
    (none : has_no_default (map option_built options ++ places) ≡ true)
    (wanted : AreWanted (map option_built options ++ places) ids) where
  abbrev rules : List Rule
  rules = map option_built options ++ places

  abbrev shape : Shape
  shape = shape_built label rules

  -- where nothing waits for a value, the words come to the rows that they fill
  abbrev IdleFills : List Text → Type 0
  IdleFills words = (rows : List Row) (pending : Option (Text × Text)) (left : List Text) (position : ℕ) → IsKnown rules pending → AreAt rules position left
      → walk_rows shape (standing rows (pending_of pending) idle position) words ≡ option_and_then (λ so_far. filled options ids so_far left None words) (settled_with rows pending)

  -- so too where an option waits
  abbrev WaitingFills : List Text → Type 0
  WaitingFills words = (rows : List Row) (name : OptionName) (left : List Text) (position : ℕ) → arg_by_id rules (option_id name) ≡ Some (option_built name) → AreAt rules position left
      → walk_rows shape (standing rows (Some (option_id name, [])) (for_option (option_id name)) position) words ≡ filled options ids rows left (Some name) words

  record Fills (words : List Text) : Type 0 where
    at_rest : IdleFills words
    in_wait : WaitingFills words

  plain_fills : (rows : List Row) (left : List Text) (c : ℕ) (cs : Text) (rest : List Text) → (c == 45) ≡ false
      → filled options ids rows left None ((c ∷ cs) ∷ rest) ≡ in_place left (λ id others. option_and_then (λ more. filled options ids more others None rest) (added rows id (c ∷ cs)))
  plain_fills rows left c cs rest other = rw other refl

  value_fills : (rows : List Row) (left : List Text) (name : OptionName) (c : ℕ) (cs : Text) (rest : List Text) → (c == 45) ≡ false
      → filled options ids rows left (Some name) ((c ∷ cs) ∷ rest) ≡ option_and_then (λ more. filled options ids more left None rest) (added rows (option_id name) (c ∷ cs))
  value_fills rows left name c cs rest other = rw other refl

  plain_at_rest : (c : ℕ) (cs : Text) (rest : List Text) → (c == 45) ≡ false → Fills rest → IdleFills ((c ∷ cs) ∷ rest)
  plain_at_rest c cs rest other fills rows pending [] position known at =
      stray_turn label rules rows (pending_of pending) position (c ∷ cs) rest (plain_is_no_end c cs other) (plain_is_no_long c cs other) (plain_is_no_short c cs other) at
      ∙ sym (none_then (settled_with rows pending) (λ so_far. filled options ids so_far [] None ((c ∷ cs) ∷ rest)) (λ so_far. plain_fills so_far [] c cs rest other))
  plain_at_rest c cs rest other fills rows pending (id ∷ left) position known at =
      let next : List Row → Option (List Row) = λ so_far. walk_rows shape (standing so_far (Some (id, (c ∷ cs) ∷ [])) idle (min (position + 1) usize_max)) rest in
      let finds : Finds rules id = record { long = None; index = Some position; required = true; is = at.1 } in
      placed_turn label rules rows (pending_of pending) position (c ∷ cs) rest (plain_is_no_end c cs other) (plain_is_no_long c cs other) (plain_is_no_short c cs other) id at.0
      ∙ settle_is rules rows pending next known
      ∙ same_then (settled_with rows pending) next (λ so_far. filled options ids so_far (id ∷ left) None ((c ∷ cs) ∷ rest))
      (λ so_far. fills.at_rest so_far (Some (id, c ∷ cs)) left (min (position + 1) usize_max) finds at.2 ∙ sym (plain_fills so_far (id ∷ left) c cs rest other))

  plain_in_wait : (c : ℕ) (cs : Text) (rest : List Text) → (c == 45) ≡ false → Fills rest → WaitingFills ((c ∷ cs) ∷ rest)
  plain_in_wait c cs rest other fills rows name left position found at =
      let finds : Finds rules (option_id name) = record { long = Some (option_id name); index = None; required = false; is = found } in
      value_turn label rules rows position (c ∷ cs) rest (plain_is_no_end c cs other) (plain_is_no_long c cs other) (plain_is_no_short c cs other) (option_id name) (Some (option_id name)) None false found
      ∙ fills.at_rest rows (Some (option_id name, c ∷ cs)) left position finds at
      ∙ sym (value_fills rows left name c cs rest other)

  long_choice : (c : ℕ) (cs : Text) (rest : List Text) → Fills rest → (rows : List Row) (pending : Option (Text × Text)) (left : List Text) (position : ℕ) → IsKnown rules pending → AreAt rules position left
      → (equals : Bool) (value : Text) (found : Option OptionName) → ((name : OptionName) → found ≡ Some name → arg_by_id rules (option_id name) ≡ Some (option_built name))
      → long_step label rules rows (pending_of pending) idle position (45 ∷ 45 ∷ c ∷ cs) rest (option_map option_built found) (if equals then Some value else None)
      ≡ option_and_then (λ so_far. if equals then option_and_then (λ name. option_and_then (λ more. filled options ids more left None rest) (added so_far (option_id name) value)) found
      else option_and_then (λ name. filled options ids so_far left (Some name) rest) found) (settled_with rows pending)
  long_choice c cs rest fills rows pending left position known at true value None by_id = sym (none_then (settled_with rows pending) (λ so_far. None) (λ so_far. refl))
  long_choice c cs rest fills rows pending left position known at false value None by_id = sym (none_then (settled_with rows pending) (λ so_far. None) (λ so_far. refl))
  long_choice c cs rest fills rows pending left position known at true value (Some name) by_id =
      whole_step label rules rows pending position (45 ∷ 45 ∷ c ∷ cs) rest name value known
      ∙ same_then (settled_with rows pending)
      (λ so_far. option_and_then (λ more. walk_rows shape (standing more None idle position) rest) (added so_far (option_id name) value))
      (λ so_far. option_and_then (λ more. filled options ids more left None rest) (added so_far (option_id name) value))
      (λ so_far. same_then (added so_far (option_id name) value) (λ more. walk_rows shape (standing more None idle position) rest) (λ more. filled options ids more left None rest)
      (λ more. fills.at_rest more None left position tt at))
  long_choice c cs rest fills rows pending left position known at false value (Some name) by_id =
      part_step label rules rows pending position (45 ∷ 45 ∷ c ∷ cs) rest name known
      ∙ same_then (settled_with rows pending)
      (λ so_far. walk_rows shape (standing so_far (Some (option_id name, [])) (for_option (option_id name)) position) rest)
      (λ so_far. filled options ids so_far left (Some name) rest)
      (λ so_far. fills.in_wait so_far name left position (by_id name refl) at)

  long_at_rest : (c : ℕ) (cs : Text) (rest : List Text) → Fills rest → IdleFills ((45 ∷ 45 ∷ c ∷ cs) ∷ rest)
  long_at_rest c cs rest fills rows pending left position known at =
      let name = before_first (λ b. b == 61) (c ∷ cs) in
      let value = after_first (λ b. b == 61) (c ∷ cs) in
      long_idle label rules rows (pending_of pending) position c cs rest
      ∙ ap (λ rule. long_step label rules rows (pending_of pending) idle position (45 ∷ 45 ∷ c ∷ cs) rest rule (if has_byte 61 (c ∷ cs) then Some value else None)) (found_by_long options places name (no_long name))
      ∙ long_choice c cs rest fills rows pending left position known at (has_byte 61 (c ∷ cs)) value (option_of options name) (λ option found. (option_by_id options places name option found).1)
      ∙ same_then (settled_with rows pending)
      (λ so_far. if has_byte 61 (c ∷ cs) then option_and_then (λ name. option_and_then (λ more. filled options ids more left None rest) (added so_far (option_id name) value)) (option_of options name)
      else option_and_then (λ name. filled options ids so_far left (Some name) rest) (option_of options name))
      (λ so_far. filled options ids so_far left None ((45 ∷ 45 ∷ c ∷ cs) ∷ rest))
      (λ so_far. sym (long_fills options ids so_far left c cs rest))

  long_in_wait : (c : ℕ) (cs : Text) (rest : List Text) → WaitingFills ((45 ∷ 45 ∷ c ∷ cs) ∷ rest)
  long_in_wait c cs rest rows name left position found at =
      let finds : Finds rules (option_id name) = record { long = Some (option_id name); index = None; required = false; is = found } in
      let named = before_first (λ b. b == 61) (c ∷ cs) in
      let value : Option Text = if has_byte 61 (c ∷ cs) then Some (after_first (λ b. b == 61) (c ∷ cs)) else None in
      long_waiting label rules rows (Some (option_id name, [])) (option_id name) position c cs rest
      ∙ ap (λ rule. long_step label rules rows (Some (option_id name, [])) (for_option (option_id name)) position (45 ∷ 45 ∷ c ∷ cs) rest rule value) (found_by_long options places named (no_long named))
      ∙ missing_step label rules rows (option_id name) (for_option (option_id name)) position (45 ∷ 45 ∷ c ∷ cs) rest (option_of options named) value finds

  no_words : Fills []
  no_words = record {
    at_rest = λ rows pending left position known at. end_is label rules ids rows pending none wanted known;
    in_wait = λ rows name left position found at.
        ap (λ rule. unless_fault (option_map_or (λ a. use_fault false a [] rows) rule [])
        (checked_rows label rules (used_by_id rule [] rows))) found;
  }

  -- each walk comes to the rows that its words fill
  each_fills : (words : List Text) → list_all may_stand words ≡ true → Fills words
  each_fills [] fit = no_words
  each_fills (word ∷ rest) fit =
      let fits = both (may_stand word) (list_all may_stand rest) fit in
      let fills = each_fills rest fits.1 in
      by_form (λ word. Fills (word ∷ rest))
      (λ c cs other. record { at_rest = plain_at_rest c cs rest other fills; in_wait = plain_in_wait c cs rest other fills })
      (λ c cs. record { at_rest = long_at_rest c cs rest fills; in_wait = long_in_wait c cs rest })
      word fits.0

  -- the walk over all words
  pub walk_fills : (words : List Text) → list_all may_stand words ≡ true → AreAt rules 1 ids → walk_rows shape (walk_from nothing_held) words ≡ filled options ids [] ids None words
  walk_fills words fit at = (each_fills words fit).at_rest [] None ids 1 tt at

-- The walk of a parser over words, and what it comes to.
use Rattle.std.proofs.Common.{◌≡◌, ℕ, ◌+◌, Bool, false, List, [], ◌∷◌, length, min, Option, Some, None, ◌∙◌, refl, sym, ap}
use Rattle.std.specs.Prelude.{fold, nat_lt, is_some, if◌then◌else◌, option_and_then, option_map}
use Rattle.std.specs.Option.{option_map_or}
use Rattle.std.specs.Str.{bytes_eq}
use Rattle.std.proofs.Math.Bool.{and-false}
use Rattle.clap.specs.Words.{Shape, Row, Rule}
use Rattle.clap.specs.Simple.{entered}
use Rattle.clap.specs.Lexer.{long_of, short_of, name_and_value, usize_max}
use Rattle.clap.specs.Walk.{Held, Step, Waiting, Walk, idle, option as for_option, value as for_place, next as goes_on, walked, walk_from, nothing_held, settled, settled_rows, used_by_id, used, finished, arg_by_id, arg_by_long, arg_by_index, rows_after, walk, word_met, plain_word, after_step, to_positional, pushed, is_pending, option_word, long_met, after_flag}
use Rattle.clap.specs.Kinds.{Kinds, or_else}
use Rattle.clap.specs.Faults.{long_fault, positional_fault, stray_fault, built_fault, entered_fault, walk_fault, turn_fault, word_fault, step_fault, settle_fault, defaults_fault, check_fault, use_fault}
use Rattle.sx_spec.specs.declared.OptionName.{OptionName}
use Rattle.sx_spec.specs.Command.{Text}
use Rattle.sx_words.specs.Parsers.{option_id}
use Rattle.sx_words.proofs.Shapes.{one_rule, option_built, positional_built, shape_built}
use Rattle.sx_words.proofs.UsedRows.{added, unless_fault, unless_either, use_is}
use Rattle.sx_words.proofs.Places.{same_bytes}

-- ---- from the end of the words

-- what the end of a walk comes to
abbrev pub ended : Shape → Held → Option (List Row)
ended s held =
    unless_fault (settle_fault s.rules s.args_override_self held)
    (unless_fault (defaults_fault (settled s.rules held).rows s.rules)
    (unless_fault (check_fault s (finished s.rules held) false) (Some (finished s.rules held))))

-- what a walk over words comes to: the rows, if there is no fault
abbrev pub walk_rows : Shape → Walk → List Text → Option (List Row)
walk_rows s w [] = ended s w.held
walk_rows s w (word ∷ rest) = unless_fault (turn_fault s [] w word) (walk_rows s (walked s.rules [] w word) rest)

-- the faults behind the walk
abbrev end_fault : Shape → Held → Kinds
end_fault s held =
    or_else [] (or_else (settle_fault s.rules s.args_override_self held)
    (or_else (defaults_fault (settled s.rules held).rows s.rules) (check_fault s (finished s.rules held) false)))

end_is : (s : Shape) (held : Held) → unless_fault (end_fault s held) (Some (finished s.rules held)) ≡ ended s held
end_is s held =
    unless_either (settle_fault s.rules s.args_override_self held) (or_else (defaults_fault (settled s.rules held).rows s.rules) (check_fault s (finished s.rules held) false)) (Some (finished s.rules held))
    ∙ ap (unless_fault (settle_fault s.rules s.args_override_self held)) (unless_either (defaults_fault (settled s.rules held).rows s.rules) (check_fault s (finished s.rules held) false) (Some (finished s.rules held)))

walk_is : (s : Shape) (w : Walk) (words : List Text)
    → unless_fault (or_else (walk_fault s [] w words) (end_fault s (fold (walked s.rules []) w words).held)) (Some (finished s.rules (fold (walked s.rules []) w words).held)) ≡ walk_rows s w words
unfolding walk_fault
walk_is s w [] = end_is s w.held
walk_is s w (word ∷ rest) =
    let after = walked s.rules [] w word in
    let end = (fold (walked s.rules []) after rest).held in
    unless_either (or_else (turn_fault s [] w word) (walk_fault s [] after rest)) (end_fault s end) (Some (finished s.rules end))
    ∙ unless_either (turn_fault s [] w word) (walk_fault s [] after rest) (unless_fault (end_fault s end) (Some (finished s.rules end)))
    ∙ ap (unless_fault (turn_fault s [] w word)) (sym (unless_either (walk_fault s [] after rest) (end_fault s end) (Some (finished s.rules end))) ∙ walk_is s after rest)

-- a parser without subcommands
pub rows_are : (s : Shape) (words : List Text) → unless_fault (built_fault (record { top = s; subs = [] }) nothing_held words) (Some (rows_after s.rules [] words)) ≡ walk_rows s (walk_from nothing_held) words
rows_are s words =
    ap (λ faults. unless_fault (or_else (walk_fault s [] (walk_from nothing_held) words) faults) (Some (rows_after s.rules [] words)))
    (elim (walk s.rules [] nothing_held words).stopped as (λ stop. or_else (entered_fault (record { top = s; subs = [] }) stop)
    (or_else (settle_fault s.rules s.args_override_self end)
    (or_else (defaults_fault (settled s.rules end).rows s.rules) (check_fault s (finished s.rules end) (is_some (entered (record { top = s; subs = [] }) stop))))) ≡ end_fault s end) [
      | None ↦ refl
      | Some p ↦ refl
    ])
    ∙ walk_is s (walk_from nothing_held) words
  where
    end : Held
    end = (walk s.rules [] nothing_held words).held

-- ---- where a walk stands

-- the walk with these rows, uses that are pending and place
abbrev pub standing : List Row → Option (Text × List Text) → Waiting → ℕ → Walk
standing rows pending waiting position = record {
  held = record { rows = rows; pending = pending; skip = 0 };
  waiting = waiting;
  position = position;
  is_trailing = false;
  stopped = None;
}

-- a use with one text
abbrev pub pending_of : Option (Text × Text) → Option (Text × List Text)
pending_of None = None
pending_of (Some u) = Some (u.0, u.1 ∷ [])

-- the rows after what is pending
abbrev pub settled_with : List Row → Option (Text × Text) → Option (List Row)
settled_with rows None = Some rows
settled_with rows (Some u) = added rows u.0 u.1

-- a rule has this id
pub record Finds (rules : List Rule) (id : Text) : Type 0 where
  pub long : Option Text
  pub index : Option ℕ
  pub required : Bool
  pub is : arg_by_id rules id ≡ Some (one_rule long index required id)

-- what is pending is a use of a rule
abbrev pub IsKnown : List Rule → Option (Text × Text) → Type 0
IsKnown rules None = Unit {0}
IsKnown rules (Some u) = Finds rules u.0

pub settle_is : {X : Type 0} (rules : List Rule) (rows : List Row) (pending : Option (Text × Text)) (next : List Row → Option X) → IsKnown rules pending
    → unless_fault (settle_fault rules false (record { rows = rows; pending = pending_of pending; skip = 0 })) (next (settled_rows rules (pending_of pending) rows)) ≡ option_and_then next (settled_with rows pending)
settle_is rules rows None next known = refl
settle_is rules rows (Some u) next known =
    ap (λ rule. unless_fault (option_map_or (λ a. use_fault false a (u.1 ∷ []) rows) rule []) (next (used_by_id rule (u.1 ∷ []) rows))) known.is
    ∙ use_is known.long known.index known.required u.0 u.1 rows next

-- ---- one word

-- a step of the walk, with what the word is and its fault
turn_is : (s : Shape) (rows : List Row) (pending : Option (Text × List Text)) (waiting : Waiting) (position : ℕ) (word : Text) (rest : List Text) (met : Held × Step) (fault : Kinds)
    → word_met s.rules [] false waiting position word (record { rows = rows; pending = pending; skip = 0 }) ≡ met
    → word_fault s [] false waiting word (record { rows = rows; pending = pending; skip = 0 }) ≡ fault
    → walk_rows s (standing rows pending waiting position) (word ∷ rest)
    ≡ unless_fault fault (unless_fault (step_fault s position met.0 met.1) (walk_rows s (after_step s.rules word (standing rows pending waiting position) met.0 met.1) rest))
unfolding walked
turn_is s rows pending waiting position word rest met fault met_is fault_is =
    (λ i. unless_fault (or_else (fault_is i) (step_fault s position (met_is i).0 (met_is i).1)) (walk_rows s (after_step s.rules word (standing rows pending waiting position) (met_is i).0 (met_is i).1) rest))
    ∙ unless_either fault (step_fault s position met.0 met.1) (walk_rows s (after_step s.rules word (standing rows pending waiting position) met.0 met.1) rest)

-- a word that begins with no dash, where nothing waits for a value
plain_met : (rules : List Rule) (position : ℕ) (word : Text) (held : Held) → bytes_eq word (45 ∷ 45 ∷ []) ≡ false → long_of word ≡ None → short_of word ≡ None
    → word_met rules [] false idle position word held ≡ (held, for_place)
plain_met rules position word held no_end no_long no_short = rw (no_end, no_long, no_short) refl

plain_fault : (s : Shape) (word : Text) (held : Held) → bytes_eq word (45 ∷ 45 ∷ []) ≡ false → long_of word ≡ None → short_of word ≡ None
    → word_fault s [] false idle word held ≡ []
plain_fault s word held no_end no_long no_short = rw (no_end, no_long, no_short) refl

-- the same, where an option waits for one
value_met : (rules : List Rule) (id : Text) (position : ℕ) (word : Text) (held : Held) → bytes_eq word (45 ∷ 45 ∷ []) ≡ false → long_of word ≡ None → short_of word ≡ None
    → word_met rules [] false (for_option id) position word held ≡ plain_word rules (for_option id) word held
value_met rules id position word held no_end no_long no_short = rw (no_end, no_long, no_short) refl

value_fault : (s : Shape) (id : Text) (word : Text) (held : Held) → bytes_eq word (45 ∷ 45 ∷ []) ≡ false → long_of word ≡ None → short_of word ≡ None
    → word_fault s [] false (for_option id) word held ≡ []
value_fault s id word held no_end no_long no_short = rw (no_end, no_long, no_short) refl

-- the positional words that are left have the places from this one on
abbrev pub AreAt : List Rule → ℕ → List Text → Type 0
AreAt rules position [] = arg_by_index rules position ≡ None
AreAt rules position (id ∷ left) =
    (arg_by_index rules position ≡ Some (positional_built position id)) × (arg_by_id rules id ≡ Some (positional_built position id)) × AreAt rules (min (position + 1) usize_max) left

module _ (label : Text) (rules : List Rule) (rows : List Row) (pending : Option (Text × List Text)) (position : ℕ) (word : Text) (rest : List Text)
    (no_end : bytes_eq word (45 ∷ 45 ∷ []) ≡ false) (no_long : long_of word ≡ None) (no_short : short_of word ≡ None) where
  abbrev s : Shape
  s = shape_built label rules

  abbrev held : Held
  held = record { rows = rows; pending = pending; skip = 0 }

  -- the word takes a place
  pub placed_turn : (id : Text) → arg_by_index rules position ≡ Some (positional_built position id)
      → walk_rows s (standing rows pending idle position) (word ∷ rest)
      ≡ unless_fault (settle_fault rules false held)
      (walk_rows s (standing (settled_rows rules pending rows) (Some (id, word ∷ [])) idle (min (position + 1) usize_max)) rest)
  placed_turn id place =
      turn_is s rows pending idle position word rest (held, for_place) [] (plain_met rules position word held no_end no_long no_short) (plain_fault s word held no_end no_long no_short)
      ∙ ap (λ place. unless_fault (option_map_or (λ a. positional_fault rules false a held) place (stray_fault s)) (walk_rows s (to_positional rules place word (standing rows pending idle position) held) rest)) place
      ∙ ap (λ b. unless_fault (if b then [] else settle_fault rules false held) (walk_rows s (record {
        held = pushed id word (if b then held else settled rules held);
        waiting = idle;
        position = min (position + 1) usize_max;
        is_trailing = false;
        stopped = None;
      }) rest)) (and-false (is_pending (positional_built position id) pending))

  -- no place is left
  pub stray_turn : arg_by_index rules position ≡ None → walk_rows s (standing rows pending idle position) (word ∷ rest) ≡ None
  stray_turn place =
      turn_is s rows pending idle position word rest (held, for_place) [] (plain_met rules position word held no_end no_long no_short) (plain_fault s word held no_end no_long no_short)
      ∙ ap (λ place. unless_fault (option_map_or (λ a. positional_fault rules false a held) place (stray_fault s)) (walk_rows s (to_positional rules place word (standing rows pending idle position) held) rest)) place

-- a word that begins with no dash is the value of the option that waits
pub value_turn : (label : Text) (rules : List Rule) (rows : List Row) (position : ℕ) (word : Text) (rest : List Text)
    → bytes_eq word (45 ∷ 45 ∷ []) ≡ false → long_of word ≡ None → short_of word ≡ None
    → (id : Text) (long : Option Text) (index : Option ℕ) (required : Bool) → arg_by_id rules id ≡ Some (one_rule long index required id)
    → walk_rows (shape_built label rules) (standing rows (Some (id, [])) (for_option id) position) (word ∷ rest)
    ≡ walk_rows (shape_built label rules) (standing rows (Some (id, word ∷ [])) idle position) rest
value_turn label rules rows position word rest no_end no_long no_short id long index required rule =
    turn_is (shape_built label rules) rows (Some (id, [])) (for_option id) position word rest (pushed id word held, goes_on idle) [] met_is (value_fault (shape_built label rules) id word held no_end no_long no_short)
  where
    held : Held
    held = record { rows = rows; pending = Some (id, []); skip = 0 }

    met_is : word_met rules [] false (for_option id) position word held ≡ (pushed id word held, goes_on idle)
    met_is =
        value_met rules id position word held no_end no_long no_short
        ∙ ap (λ rule. ((option_word rule id word held).0, goes_on (option_word rule id word held).1)) rule
        ∙ ap (λ b. (pushed id word held, goes_on (if nat_lt (if b then length (word ∷ []) else 0) 1 then for_option id else idle))) (same_bytes id)

-- ---- a word of an option

-- what the word is
abbrev pub long_met_at : List Rule → Waiting → Text → Option Rule → Option Text → Held → Held × Step
long_met_at rules waiting word rule value held = after_flag rules waiting word (long_met rules rule value held).0 (long_met rules rule value held).1

abbrev pub long_step : Text → List Rule → List Row → Option (Text × List Text) → Waiting → ℕ → Text → List Text → Option Rule → Option Text → Option (List Row)
long_step label rules rows pending waiting position word rest rule value =
    let held : Held = record { rows = rows; pending = pending; skip = 0 } in
    let met = long_met_at rules waiting word rule value held in
    unless_fault (long_fault rules false rule value held)
    (unless_fault (step_fault (shape_built label rules) position met.0 met.1)
    (walk_rows (shape_built label rules) (after_step rules word (standing rows pending waiting position) met.0 met.1) rest))

pub long_idle : (label : Text) (rules : List Rule) (rows : List Row) (pending : Option (Text × List Text)) (position : ℕ) (c : ℕ) (cs : Text) (rest : List Text)
    → walk_rows (shape_built label rules) (standing rows pending idle position) ((45 ∷ 45 ∷ c ∷ cs) ∷ rest)
    ≡ long_step label rules rows pending idle position (45 ∷ 45 ∷ c ∷ cs) rest (arg_by_long rules (name_and_value (c ∷ cs)).0) (name_and_value (c ∷ cs)).1
long_idle label rules rows pending position c cs rest =
    let held : Held = record { rows = rows; pending = pending; skip = 0 } in
    turn_is (shape_built label rules) rows pending idle position (45 ∷ 45 ∷ c ∷ cs) rest
    (long_met_at rules idle (45 ∷ 45 ∷ c ∷ cs) (arg_by_long rules (name_and_value (c ∷ cs)).0) (name_and_value (c ∷ cs)).1 held)
    (long_fault rules false (arg_by_long rules (name_and_value (c ∷ cs)).0) (name_and_value (c ∷ cs)).1 held) refl refl

pub long_waiting : (label : Text) (rules : List Rule) (rows : List Row) (pending : Option (Text × List Text)) (id : Text) (position : ℕ) (c : ℕ) (cs : Text) (rest : List Text)
    → walk_rows (shape_built label rules) (standing rows pending (for_option id) position) ((45 ∷ 45 ∷ c ∷ cs) ∷ rest)
    ≡ long_step label rules rows pending (for_option id) position (45 ∷ 45 ∷ c ∷ cs) rest (arg_by_long rules (name_and_value (c ∷ cs)).0) (name_and_value (c ∷ cs)).1
long_waiting label rules rows pending id position c cs rest =
    let held : Held = record { rows = rows; pending = pending; skip = 0 } in
    turn_is (shape_built label rules) rows pending (for_option id) position (45 ∷ 45 ∷ c ∷ cs) rest
    (long_met_at rules (for_option id) (45 ∷ 45 ∷ c ∷ cs) (arg_by_long rules (name_and_value (c ∷ cs)).0) (name_and_value (c ∷ cs)).1 held)
    (long_fault rules false (arg_by_long rules (name_and_value (c ∷ cs)).0) (name_and_value (c ∷ cs)).1 held) refl refl

-- an option has nothing but its own word in front of another option
pub missing_step : (label : Text) (rules : List Rule) (rows : List Row) (id : Text) (waiting : Waiting) (position : ℕ) (word : Text) (rest : List Text) (option : Option OptionName) (value : Option Text)
    → Finds rules id → long_step label rules rows (Some (id, [])) waiting position word rest (option_map option_built option) value ≡ None
missing_step label rules rows id waiting position word rest None value finds = refl
missing_step label rules rows id waiting position word rest (Some name) None finds =
    ap (λ rule. unless_fault (option_map_or (λ a. use_fault false a [] rows) rule []) (walk_rows (shape_built label rules) (standing (used_by_id rule [] rows) (Some (option_id name, [])) (for_option (option_id name)) position) rest)) finds.is
missing_step label rules rows id waiting position word rest (Some name) (Some value) finds =
    ap (λ rule. unless_fault (or_else (option_map_or (λ a. use_fault false a [] rows) rule []) (use_fault false (option_built name) (value ∷ []) (used_by_id rule [] rows)))
    (walk_rows (shape_built label rules) (standing (used (option_built name) (value ∷ []) (used_by_id rule [] rows)) None idle position) rest)) finds.is

pub same_then : {X : Type 0} (o : Option (List Row)) (f g : List Row → Option X) → ((rows : List Row) → f rows ≡ g rows) → option_and_then f o ≡ option_and_then g o
same_then None f g same = refl
same_then (Some rows) f g same = same rows

pub none_then : {X : Type 0} (o : Option (List Row)) (f : List Row → Option X) → ((rows : List Row) → f rows ≡ None) → option_and_then f o ≡ None
none_then None f none = refl
none_then (Some rows) f none = none rows

-- an option with a value
pub whole_step : (label : Text) (rules : List Rule) (rows : List Row) (pending : Option (Text × Text)) (position : ℕ) (word : Text) (rest : List Text) (name : OptionName) (value : Text) → IsKnown rules pending
    → long_step label rules rows (pending_of pending) idle position word rest (Some (option_built name)) (Some value)
    ≡ option_and_then (λ so_far. option_and_then (λ more. walk_rows (shape_built label rules) (standing more None idle position) rest) (added so_far (option_id name) value)) (settled_with rows pending)
whole_step label rules rows pending position word rest name value known =
    let held : Held = record { rows = rows; pending = pending_of pending; skip = 0 } in
    let s = shape_built label rules in
    unless_either (settle_fault rules false held) (use_fault false (option_built name) (value ∷ []) (settled_rows rules (pending_of pending) rows))
    (walk_rows s (standing (used (option_built name) (value ∷ []) (settled_rows rules (pending_of pending) rows)) None idle position) rest)
    ∙ settle_is rules rows pending (λ so_far. unless_fault (use_fault false (option_built name) (value ∷ []) so_far) (walk_rows s (standing (used (option_built name) (value ∷ []) so_far) None idle position) rest)) known
    ∙ same_then (settled_with rows pending)
    (λ so_far. unless_fault (use_fault false (option_built name) (value ∷ []) so_far) (walk_rows s (standing (used (option_built name) (value ∷ []) so_far) None idle position) rest))
    (λ so_far. option_and_then (λ more. walk_rows s (standing more None idle position) rest) (added so_far (option_id name) value))
    (λ so_far. use_is (Some (option_id name)) None false (option_id name) value so_far (λ more. walk_rows s (standing more None idle position) rest))

-- an option whose value is the next word
pub part_step : (label : Text) (rules : List Rule) (rows : List Row) (pending : Option (Text × Text)) (position : ℕ) (word : Text) (rest : List Text) (name : OptionName) → IsKnown rules pending
    → long_step label rules rows (pending_of pending) idle position word rest (Some (option_built name)) None
    ≡ option_and_then (λ so_far. walk_rows (shape_built label rules) (standing so_far (Some (option_id name, [])) (for_option (option_id name)) position) rest) (settled_with rows pending)
part_step label rules rows pending position word rest name known =
    settle_is rules rows pending (λ so_far. walk_rows (shape_built label rules) (standing so_far (Some (option_id name, [])) (for_option (option_id name)) position) rest) known

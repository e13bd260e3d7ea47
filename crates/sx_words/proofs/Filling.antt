-- Rows that are filled one word at a time, and what is read off them.
use Rattle.std.proofs.Common.{◌≡◌, Bool, true, false, ◌&&◌, List, [], ◌∷◌, ◌++◌, length, Option, Some, None, ◌∙◌, refl, sym, ap, append_assoc}
use Rattle.std.specs.Prelude.{find, not, ◌==◌, nat_lt, if◌then◌else◌, option_and_then, option_map, unwrap_or, slice_get, slice_index}
use Rattle.std.specs.List.{list_any, list_all}
use Rattle.std.specs.Option.{option_or}
use Rattle.std.specs.Str.{bytes_eq}
use Rattle.std.proofs.Math.Bool.{or-true}
use Rattle.std.proofs.Math.Dec.{eqb-suc-zero, eqb-zero-suc, eqb-suc-suc}
use Rattle.std.proofs.lemmas.List.{append-nil}
use Rattle.std.proofs.lemmas.List.Folds.{find-append}
use Rattle.clap.specs.Words.{Row, first_of}
use Rattle.clap.specs.Walk.{has_row}
use Rattle.clap.specs.Takes.{is_given}
use Rattle.sx_spec.specs.declared.OptionName.{OptionName}
use Rattle.sx_spec.specs.Command.{Text, Split, has_dash, has_equals, is_no_value, before_equals, after_equals, with_positional, with_setting}
use Rattle.sx_words.specs.Parsers.{option_id}
use Rattle.sx_words.specs.Arguments.{may_stand, split_of, has_value, option_with_id}
use Rattle.sx_words.proofs.Forms.{option_by_word}
use Rattle.sx_words.proofs.UsedRows.{row, added}
use Rattle.sx_words.proofs.Places.{Placed, ArePlaces, placed_option, placed_word, later_places, complete, incomplete, row_found}
use Rattle.sx_words.proofs.Settings.{settings_in, is_among, are_single_after, with_option, with_other, row_is_setting}
use Rattle.sx_words.proofs.Parting.{parted, no_value}

-- ---- the rows

-- the rows, if no positional word is missing
abbrev pub whole_rows : List Text → List Row → Option (List Row)
whole_rows ids rows = if list_any (λ id. not (is_given id rows)) ids then None else Some rows

-- the place that is first among those left
abbrev pub in_place : {X : Type 0} → List Text → (Text → List Text → Option X) → Option X
in_place [] next = None
in_place (id ∷ left) next = next id left

-- the rows with those of more words; none where a word is wrong
abbrev pub filled : List OptionName → List Text → List Row → List Text → Option OptionName → List Text → Option (List Row)
filled options ids rows left None [] = whole_rows ids rows
filled options ids rows left (Some option) [] = None
filled options ids rows left (Some option) (word ∷ rest) =
    if has_dash word then None
    else option_and_then (λ more. filled options ids more left None rest) (added rows (option_id option) word)
filled options ids rows left None (word ∷ rest) =
    if has_dash word then
    (if has_equals word then option_and_then (λ option. option_and_then (λ more. filled options ids more left None rest) (added rows (option_id option) (after_equals word))) (option_by_word options (before_equals word))
    else option_and_then (λ option. filled options ids rows left (Some option) rest) (option_by_word options word))
    else in_place left (λ id others. option_and_then (λ more. filled options ids more others None rest) (added rows id word))

-- ---- rows only grow

pub record Grown (rows all : List Row) : Type 0 where
  pub more : List Row
  pub is : all ≡ rows ++ more
  pub valued : list_all has_value more ≡ true

grown_by : (rows : List Row) (id value : Text) (next : List Row → Option (List Row)) (all : List Row) → ((more : List Row) → next more ≡ Some all → Grown more all)
    → option_and_then next (added rows id value) ≡ Some all → Grown rows all
grown_by rows id value next all grows e =
    elim (has_row id rows) as (λ b. option_and_then next (if b then None else Some (rows ++ row id value ∷ [])) ≡ Some all → Grown rows all) [
      | true ↦ λ e. absurd cc
      | false ↦ λ e.
          let g = grows (rows ++ row id value ∷ []) e in
          record { more = row id value ∷ g.more; is = g.is ∙ append_assoc rows (row id value ∷ []) g.more; valued = g.valued }
    ] e

chosen : (o : Option OptionName) (next : OptionName → Option (List Row)) (rows all : List Row) → ((option : OptionName) → next option ≡ Some all → Grown rows all) → option_and_then next o ≡ Some all → Grown rows all
chosen None next rows all grows e = absurd cc
chosen (Some option) next rows all grows e = grows option e

placed_in : (left : List Text) (next : Text → List Text → Option (List Row)) (rows all : List Row) → ((id : Text) (others : List Text) → next id others ≡ Some all → Grown rows all) → in_place left next ≡ Some all → Grown rows all
placed_in [] next rows all grows e = absurd cc
placed_in (id ∷ left) next rows all grows e = grows id left e

pub grown : (options : List OptionName) (ids : List Text) (rows : List Row) (left : List Text) (waiting : Option OptionName) (words : List Text) (all : List Row)
    → filled options ids rows left waiting words ≡ Some all → Grown rows all
grown options ids rows left None [] all e =
    elim (list_any (λ id. not (is_given id rows)) ids) as (λ b. (if b then None else Some rows) ≡ Some all → Grown rows all) [
      | true ↦ λ e. absurd cc
      | false ↦ λ e. let same : rows ≡ all = cc in record { more = []; is = sym same ∙ sym (append-nil rows); valued = refl }
    ] e
grown options ids rows left (Some option) [] all e = absurd cc
grown options ids rows left (Some option) (word ∷ rest) all e =
    elim (has_dash word) as (λ b. (if b then None else option_and_then (λ more. filled options ids more left None rest) (added rows (option_id option) word)) ≡ Some all → Grown rows all) [
      | true ↦ λ e. absurd cc
      | false ↦ λ e. grown_by rows (option_id option) word (λ more. filled options ids more left None rest) all (λ more h. grown options ids more left None rest all h) e
    ] e
grown options ids rows left None (word ∷ rest) all e =
    elim (has_dash word) as (λ b. (if b then
    (if has_equals word then option_and_then (λ option. option_and_then (λ more. filled options ids more left None rest) (added rows (option_id option) (after_equals word))) (option_by_word options (before_equals word))
    else option_and_then (λ option. filled options ids rows left (Some option) rest) (option_by_word options word))
    else in_place left (λ id others. option_and_then (λ more. filled options ids more others None rest) (added rows id word))) ≡ Some all → Grown rows all) [
      | true ↦ elim (has_equals word) as (λ b. (if b then option_and_then (λ option. option_and_then (λ more. filled options ids more left None rest) (added rows (option_id option) (after_equals word))) (option_by_word options (before_equals word))
          else option_and_then (λ option. filled options ids rows left (Some option) rest) (option_by_word options word)) ≡ Some all → Grown rows all) [
            | true ↦ chosen (option_by_word options (before_equals word)) (λ option. option_and_then (λ more. filled options ids more left None rest) (added rows (option_id option) (after_equals word))) rows all
                (λ option. grown_by rows (option_id option) (after_equals word) (λ more. filled options ids more left None rest) all (λ more h. grown options ids more left None rest all h))
            | false ↦ chosen (option_by_word options word) (λ option. filled options ids rows left (Some option) rest) rows all (λ option h. grown options ids rows left (Some option) rest all h)
          ]
      | false ↦ placed_in left (λ id others. option_and_then (λ more. filled options ids more others None rest) (added rows id word)) rows all
          (λ id others. grown_by rows id word (λ more. filled options ids more others None rest) all (λ more h. grown options ids more others None rest all h))
    ] e

-- ---- what is read off

-- what the words make of rows that are there
abbrev pub merged : List Row → List Text → Option Split → Option Split
merged rows left None = None
merged rows left (Some s) =
    if length s.positional == length left && are_single_after (settings_in rows) s.settings then Some (record { positional = s.positional; settings = settings_in rows ++ s.settings }) else None

-- an option in front
option_merged : (rows : List Row) (left : List Text) (option : OptionName) (value : Text) (rest : Option Split) → is_no_value value ≡ false
    → (if has_row (option_id option) rows then None else merged (rows ++ row (option_id option) value ∷ []) left rest) ≡ merged rows left (with_setting (Some option) value rest)
option_merged rows left option value None good =
    elim (has_row (option_id option) rows) as (λ b. ◌≡◌ {A = Option Split} (if b then None else None) None) [ true ↦ refl | false ↦ refl ]
option_merged rows left option value (Some s) good =
    rw (good, row_is_setting rows option, with_option rows option value, append_assoc (settings_in rows) (record { name = option; value = value } ∷ []) s.settings)
    (chosen_of (is_among option (settings_in rows)) (length s.positional == length left) (are_single_after (settings_in rows ++ record { name = option; value = value } ∷ []) s.settings)
    (record { positional = s.positional; settings = settings_in rows ++ record { name = option; value = value } ∷ s.settings }))
  where
    chosen_of : (among right single : Bool) (t : Split) → (if among then None else if right && single then Some t else None) ≡ (if right && (not among && single) then Some t else None)
    chosen_of true true single t = refl
    chosen_of true false single t = refl
    chosen_of false right single t = refl

-- a positional word in front
first_is : (rows more : List Row) (id value : Text) → has_row id rows ≡ false → first_of id ((rows ++ row id value ∷ []) ++ more) ≡ Some value
first_is rows more id value absent =
    ap (option_and_then (λ (r : Row). slice_get r.values 0))
    (find-append (λ r. bytes_eq r.id id) (rows ++ row id value ∷ []) more
    ∙ ap (λ o. option_or o (find (λ r. bytes_eq r.id id) more)) (row_found id value rows absent))

word_in_front : (rows : List Row) (id : Text) (left : List Text) (word : Text) (all : Option (List Row)) → ((fin : List Row) → all ≡ Some fin → Grown (rows ++ row id word ∷ []) fin) → has_row id rows ≡ false
    → option_map (split_of (id ∷ left)) all ≡ with_positional word (option_map (split_of left) all)
word_in_front rows id left word None grows absent = refl
word_in_front rows id left word (Some fin) grows absent =
    let g = grows fin refl in
    let first : first_of id fin ≡ Some word = ap (first_of id) g.is ∙ first_is rows g.more id word absent in
    ap (λ (o : Option Text). Some (record { positional = unwrap_or o [] ∷ (split_of left fin).positional; settings = (split_of left fin).settings })) first

word_merged : (rows : List Row) (id : Text) (left : List Text) (word : Text) (rest : Option Split) → option_with_id id ≡ None
    → with_positional word (merged (rows ++ row id word ∷ []) left rest) ≡ merged rows (id ∷ left) (with_positional word rest)
word_merged rows id left word None other = refl
word_merged rows id left word (Some s) other =
    rw (with_other rows id word other, eqb-suc-suc (length s.positional) (length left))
    (with_chosen (length s.positional == length left) (are_single_after (settings_in rows) s.settings) (record { positional = s.positional; settings = settings_in rows ++ s.settings }))
  where
    with_chosen : (right single : Bool) (t : Split) → with_positional word (if right && single then Some t else None) ≡ (if right && single then Some (record t { positional = word ∷ t.positional }) else None)
    with_chosen true true t = refl
    with_chosen true false t = refl
    with_chosen false single t = refl

-- ---- one word

is_value : (word : Text) → may_stand word ≡ true → has_dash word ≡ false → is_no_value word ≡ false
is_value [] fit plain = absurd cc
is_value (c ∷ rest) fit plain = rw (eqb-suc-zero (length rest)) plain

is_value_after : (word : Text) → may_stand word ≡ true → has_dash word ≡ true → has_equals word ≡ true → is_no_value (after_equals word) ≡ false
is_value_after word fit dash equals = pick (slice_index word 1 == 45) (nat_lt 2 (length word)) (has_equals word) (is_no_value (after_equals word)) (rw dash at fit) equals
  where
    pick : (x y e n : Bool) → (x && y && not (e && n)) ≡ true → e ≡ true → n ≡ false
    pick true true true true fit e = absurd cc
    pick true true true false fit e = refl
    pick true true false n fit e = absurd cc
    pick true false e n fit f = absurd cc
    pick false y e n fit f = absurd cc

-- ---- all words

pub both : (a b : Bool) → (a && b) ≡ true → (a ≡ true) × (b ≡ true)
both true b e = (refl, e)
both false b e = absurd cc

no_words : (ids : List Text) (rows : List Row) (left : List Text) → Placed ids rows left → option_map (split_of left) (whole_rows ids rows) ≡ merged rows left (Some (record { positional = []; settings = [] }))
no_words ids rows [] placed = rw (complete ids rows placed, append-nil (settings_in rows)) refl
no_words ids rows (id ∷ left) placed = rw (incomplete ids rows id left placed, eqb-zero-suc (length left)) refl

option_filled : (rows : List Row) (left : List Text) (option : OptionName) (value : Text) (next : List Row → Option (List Row)) (rest : Option Split) → is_no_value value ≡ false
    → option_map (split_of left) (next (rows ++ row (option_id option) value ∷ [])) ≡ merged (rows ++ row (option_id option) value ∷ []) left rest
    → option_map (split_of left) (option_and_then next (added rows (option_id option) value)) ≡ merged rows left (with_setting (Some option) value rest)
option_filled rows left option value next rest good same =
    spread (has_row (option_id option) rows)
    ∙ ap (λ o. if has_row (option_id option) rows then None else o) same
    ∙ option_merged rows left option value rest good
  where
    spread : (b : Bool) → option_map (split_of left) (option_and_then next (if b then None else Some (rows ++ row (option_id option) value ∷ []))) ≡ (if b then None else option_map (split_of left) (next (rows ++ row (option_id option) value ∷ [])))
    spread true = refl
    spread false = refl

each_value : (rows : List Row) (left : List Text) (o : Option OptionName) (value : Text) (next : OptionName → Option (List Row)) (rest : Option Split)
    → ((option : OptionName) → option_map (split_of left) (next option) ≡ merged rows left (with_setting (Some option) value rest))
    → option_map (split_of left) (option_and_then next o) ≡ merged rows left (with_setting o value rest)
each_value rows left None value next rest same = refl
each_value rows left (Some option) value next rest same = same option

each_option : (rows : List Row) (left : List Text) (o : Option OptionName) (next : OptionName → Option (List Row)) (rest : OptionName → Option Split)
    → ((option : OptionName) → option_map (split_of left) (next option) ≡ merged rows left (rest option))
    → option_map (split_of left) (option_and_then next o) ≡ merged rows left (option_and_then rest o)
each_option rows left None next rest same = refl
each_option rows left (Some option) next rest same = same option

one_too_many : (rows : List Row) (word : Text) (rest : Option Split) → None ≡ merged rows [] (with_positional word rest)
one_too_many rows word None = refl
one_too_many rows word (Some s) = rw (eqb-suc-zero (length s.positional)) refl

dash_choice : (rows : List Row) (left : List Text) (equals dash : Bool) (a b c : Option (List Row)) (x y z : Option Split) → dash ≡ true
    → (equals ≡ true → option_map (split_of left) a ≡ merged rows left x) → (equals ≡ false → option_map (split_of left) b ≡ merged rows left y)
    → option_map (split_of left) (if dash then (if equals then a else b) else c) ≡ merged rows left (if equals && dash then x else if dash then y else z)
dash_choice rows left true true a b c x y z dash whole part = whole refl
dash_choice rows left false true a b c x y z dash whole part = part refl
dash_choice rows left equals false a b c x y z dash whole part = absurd cc

word_choice : (rows : List Row) (left : List Text) (equals dash bad : Bool) (a c : Option (List Row)) (x y z : Option Split) → dash ≡ false → bad ≡ false
    → option_map (split_of left) c ≡ merged rows left z
    → option_map (split_of left) (if dash then a else c) ≡ merged rows left (if equals && dash then x else if dash then y else if bad then None else z)
word_choice rows left true false false a c x y z plain good same = same
word_choice rows left false false false a c x y z plain good same = same
word_choice rows left equals false true a c x y z plain good same = absurd cc
word_choice rows left equals true bad a c x y z plain good same = absurd cc

module _ (options : List OptionName) (ids : List Text) where
  place_filled : (rows : List Row) (left : List Text) (word : Text) (rest : List Text) → ArePlaces left → Placed ids rows left
      → ((id : Text) (others : List Text) → ArePlaces others → Placed ids (rows ++ row id word ∷ []) others
      → option_map (split_of others) (filled options ids (rows ++ row id word ∷ []) others None rest) ≡ merged (rows ++ row id word ∷ []) others (parted options None rest))
      → option_map (split_of left) (in_place left (λ id others. option_and_then (λ more. filled options ids more others None rest) (added rows id word))) ≡ merged rows left (with_positional word (parted options None rest))
  place_filled rows [] word rest places placed same = one_too_many rows word (parted options None rest)
  place_filled rows (id ∷ left) word rest places placed same =
      rw placed.absent.0
      (word_in_front rows id left word (filled options ids (rows ++ row id word ∷ []) left None rest) (λ fin e. grown options ids (rows ++ row id word ∷ []) left None rest fin e) placed.absent.0
      ∙ ap (with_positional word) (same id left (later_places id left places) (placed_word ids rows id left word places placed))
      ∙ word_merged rows id left word (parted options None rest) places.no_options.0)

  -- what is read off the rows of words is what the words are
  pub filled_is : (rows : List Row) (left : List Text) (waiting : Option OptionName) (words : List Text) → ArePlaces left → Placed ids rows left → list_all may_stand words ≡ true
      → option_map (split_of left) (filled options ids rows left waiting words) ≡ merged rows left (parted options waiting words)
  filled_is rows left None [] places placed fit = no_words ids rows left placed
  filled_is rows left (Some option) [] places placed fit = refl
  filled_is rows left (Some option) (word ∷ rest) places placed fit =
      let fits = both (may_stand word) (list_all may_stand rest) fit in
      elim (has_dash word) as (λ b. has_dash word ≡ b
      → option_map (split_of left) (if b then None else option_and_then (λ more. filled options ids more left None rest) (added rows (option_id option) word))
      ≡ merged rows left (with_setting (Some option) word (parted options None rest))) [
        | true ↦ λ dash.
            let bad : is_no_value word ≡ true = rw dash (or-true (length word == 0)) in
            ap (merged rows left) (sym (no_value (Some option) word (parted options None rest) bad))
        | false ↦ λ plain.
            option_filled rows left option word (λ more. filled options ids more left None rest) (parted options None rest) (is_value word fits.0 plain)
            (filled_is (rows ++ row (option_id option) word ∷ []) left None rest places (placed_option ids rows left option word places placed) fits.1)
      ] refl
  filled_is rows left None (word ∷ rest) places placed fit =
      let fits = both (may_stand word) (list_all may_stand rest) fit in
      elim (has_dash word) as (λ b. has_dash word ≡ b → option_map (split_of left) (filled options ids rows left None (word ∷ rest)) ≡ merged rows left (parted options None (word ∷ rest))) [
        | true ↦ λ dash.
            dash_choice rows left (has_equals word) (has_dash word) _ _ _ _ _ _ dash
            (λ equals. each_value rows left (option_by_word options (before_equals word)) (after_equals word)
            (λ option. option_and_then (λ more. filled options ids more left None rest) (added rows (option_id option) (after_equals word))) (parted options None rest)
            (λ option. option_filled rows left option (after_equals word) (λ more. filled options ids more left None rest) (parted options None rest) (is_value_after word fits.0 dash equals)
            (filled_is (rows ++ row (option_id option) (after_equals word) ∷ []) left None rest places (placed_option ids rows left option (after_equals word) places placed) fits.1)))
            (λ none. each_option rows left (option_by_word options word) (λ option. filled options ids rows left (Some option) rest) (λ option. parted options (Some option) rest)
            (λ option. filled_is rows left (Some option) rest places placed fits.1))
        | false ↦ λ plain.
            word_choice rows left (has_equals word) (has_dash word) (is_no_value word) _ _ _ _ _ plain (is_value word fits.0 plain)
            (place_filled rows left word rest places placed (λ id others p q. filled_is (rows ++ row id word ∷ []) others None rest p q fits.1))
      ] refl

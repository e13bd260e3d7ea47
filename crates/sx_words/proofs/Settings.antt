-- The options among rows, and that none of them is given twice.
use Rattle.std.proofs.Common.{◌≡◌, Bool, true, false, ◌&&◌, ◌||◌, List, [], ◌∷◌, ◌++◌, Option, Some, None, ◌∙◌, refl, sym, ap}
use Rattle.std.specs.Prelude.{not, filter_map, option_map, unwrap_or, slice_get}
use Rattle.std.specs.List.{list_any, list_all, cons_option}
use Rattle.std.specs.Str.{bytes_eq}
use Rattle.std.proofs.Math.Bool.{and-false}
use Rattle.std.proofs.lemmas.List.{append-nil}
use Rattle.std.proofs.lemmas.List.Elements.{filter_map-append}
use Rattle.std.proofs.lemmas.List.Folds.{list_any-append}
use Rattle.std.proofs.lemmas.Slice.Eq.{bytes_eq-Decides}
use Rattle.clap.specs.Words.{Row}
use Rattle.clap.specs.Walk.{has_row}
use Rattle.sx_spec.specs.declared.OptionName.{OptionName}
use Rattle.sx_spec.specs.Command.{Text, Setting, option_names, option_word, same_option, are_single}
use Rattle.sx_words.specs.Parsers.{option_id}
use Rattle.sx_words.specs.Arguments.{option_with_id, setting_of}
use Rattle.sx_words.proofs.Shapes.{found_passes}
use Rattle.sx_words.proofs.Forms.{word_of_option}
use Rattle.sx_words.proofs.UsedRows.{row}
use Rattle.sx_words.proofs.Places.{known_option}

-- the options of some rows
abbrev pub settings_in : List Row → List Setting
settings_in rows = filter_map setting_of rows

-- an option is among these
abbrev pub is_among : OptionName → List Setting → Bool
is_among option settings = list_any (λ s. same_option option s.name) settings

-- none of the options is given twice, or among those before
abbrev pub are_single_after : List Setting → List Setting → Bool
are_single_after before [] = true
are_single_after before (s ∷ rest) = not (is_among s.name before) && are_single_after (before ++ s ∷ []) rest

-- ---- one row

pub with_option : (rows : List Row) (option : OptionName) (value : Text) → settings_in (rows ++ row (option_id option) value ∷ []) ≡ settings_in rows ++ record { name = option; value = value } ∷ []
with_option rows option value =
    filter_map-append setting_of rows (row (option_id option) value ∷ [])
    ∙ ap (λ (o : Option OptionName). settings_in rows ++ cons_option (option_map (λ name. record { name = name; value = value }) o) []) (known_option option)

pub with_other : (rows : List Row) (id value : Text) → option_with_id id ≡ None → settings_in (rows ++ row id value ∷ []) ≡ settings_in rows
with_other rows id value other =
    filter_map-append setting_of rows (row id value ∷ [])
    ∙ ap (λ (o : Option OptionName). settings_in rows ++ cons_option (option_map (λ name. record { name = name; value = value }) o) []) other
    ∙ append-nil (settings_in rows)

bytes_swap : (x y : Text) → bytes_eq x y ≡ bytes_eq y x
bytes_swap x y =
    elim (bytes_eq x y) as (λ b. bytes_eq x y ≡ b → b ≡ bytes_eq y x) [
      | true ↦ λ same. sym ((bytes_eq-Decides y x).1 (sym ((bytes_eq-Decides x y).0 same)))
      | false ↦ λ other.
          elim (bytes_eq y x) as (λ b. bytes_eq y x ≡ b → false ≡ b) [
            | true ↦ λ same. sym other ∙ (bytes_eq-Decides x y).1 (sym ((bytes_eq-Decides y x).0 same))
            | false ↦ λ e. refl
          ] refl
    ] refl

same_by_id : (x y : OptionName) → same_option x y ≡ bytes_eq (option_id y) (option_id x)
same_by_id x y = ap (λ word. bytes_eq word (option_word y)) (word_of_option x) ∙ ap (bytes_eq (45 ∷ 45 ∷ option_id x)) (word_of_option y) ∙ bytes_swap (option_id x) (option_id y)

row_is_among : (id : Text) (option : OptionName) (found : Option OptionName) (rest : Bool) (value : Text) → option_with_id id ≡ found
    → (bytes_eq id (option_id option) || rest) ≡ (elim found [ None ↦ rest | Some name ↦ same_option option name || rest ])
row_is_among id option None rest value none =
    elim (bytes_eq id (option_id option)) as (λ b. bytes_eq id (option_id option) ≡ b → (b || rest) ≡ rest) [
      | true ↦ λ same.
          let known : Some option ≡ None = sym (known_option option) ∙ ap option_with_id (sym ((bytes_eq-Decides id (option_id option)).0 same)) ∙ none in
          absurd cc
      | false ↦ λ other. refl
    ] refl
row_is_among id option (Some name) rest value found =
    let same : option_id name ≡ id = (bytes_eq-Decides (option_id name) id).0 (found_passes (λ n. bytes_eq (option_id n) id) option_names name found) in
    ap (λ b. b || rest) (ap (λ text. bytes_eq text (option_id option)) (sym same) ∙ sym (same_by_id option name))

-- an option has a row where it is among the options of the rows
pub row_is_setting : (rows : List Row) (option : OptionName) → has_row (option_id option) rows ≡ is_among option (settings_in rows)
row_is_setting [] option = refl
row_is_setting (r ∷ rows) option =
    row_is_among r.id option (option_with_id r.id) (has_row (option_id option) rows) [] refl
    ∙ elim (option_with_id r.id) as (λ (o : Option OptionName). ◌≡◌ {A = Bool} (elim o [ None ↦ has_row (option_id option) rows | Some name ↦ same_option option name || has_row (option_id option) rows ])
    (is_among option (cons_option (option_map (λ name. record { name = name; value = unwrap_or (slice_get r.values 0) [] }) o) (settings_in rows)))) [
      | None ↦ row_is_setting rows option
      | Some name ↦ ap (λ b. same_option option name || b) (row_is_setting rows option)
    ]

-- ---- no option twice

neither : (a s l n : Bool) → (not (a || (s || false)) && (l && not n)) ≡ ((not a && l) && not (s || n))
neither true s l n = refl
neither false true l n = sym (and-false l)
neither false false l n = refl

one_before : (before : List Setting) (s : Setting) (rest : List Setting)
    → list_all (λ t. not (is_among t.name (before ++ s ∷ []))) rest ≡ (list_all (λ t. not (is_among t.name before)) rest && not (is_among s.name rest))
one_before before s [] = refl
one_before before s (t ∷ rest) =
    ap (λ b. not b && list_all (λ t. not (is_among t.name (before ++ s ∷ []))) rest)
    (list_any-append (λ u. same_option t.name u.name) before (s ∷ []) ∙ ap (λ b. is_among t.name before || (b || false)) (bytes_swap (option_word t.name) (option_word s.name)))
    ∙ ap (λ b. not (is_among t.name before || (same_option s.name t.name || false)) && b) (one_before before s rest)
    ∙ neither (is_among t.name before) (same_option s.name t.name) (list_all (λ t. not (is_among t.name before)) rest) (is_among s.name rest)

regrouped : (a l n r : Bool) → (not a && ((l && not n) && r)) ≡ ((not a && l) && (not n && r))
regrouped true l n r = refl
regrouped false true n r = refl
regrouped false false n r = refl

single_after_is : (before settings : List Setting) → are_single_after before settings ≡ (list_all (λ t. not (is_among t.name before)) settings && are_single settings)
single_after_is before [] = refl
single_after_is before (s ∷ rest) =
    ap (λ b. not (is_among s.name before) && b) (single_after_is (before ++ s ∷ []) rest ∙ ap (λ b. b && are_single rest) (one_before before s rest))
    ∙ regrouped (is_among s.name before) (list_all (λ t. not (is_among t.name before)) rest) (is_among s.name rest) (are_single rest)

none_before : (settings : List Setting) → list_all (λ t. not (is_among t.name [])) settings ≡ true
none_before [] = refl
none_before (s ∷ rest) = none_before rest

pub single_is : (settings : List Setting) → are_single_after [] settings ≡ are_single settings
single_is settings = single_after_is [] settings ∙ ap (λ b. b && are_single settings) (none_before settings)

-- The words and the options that the rows of a parser are.
use Rattle.std.proofs.Common.{◌≡◌, ℕ, ◌<◌, Bool, true, false, List, [], ◌∷◌, length, map, get_or, Option, Some, None, ◌∙◌, refl, sym, ap, ap₂, arith}
use Rattle.std.specs.Prelude.{find, filter_map, option_map, option_and_then, unwrap_or, slice_get, nat_lt, if◌then◌else◌}
use Rattle.std.specs.List.{AllByRecursion, list_all, cons_option}
use Rattle.std.specs.Str.{bytes_eq}
use Rattle.std.proofs.lemmas.Bool.{and_parts}
use Rattle.std.proofs.lemmas.List.{drop-map, length-map, get_or-map}
use Rattle.std.proofs.Math.Seq.{drop-cons}
use denote.Ref.{Bor}
use Rattle.clap.specs.Words.{Row, first_of, first_value, rows_of}
use Rattle.clap.specs.declared.parser.matches.Found.{Found}
use Rattle.clap.proofs.WalkLemmas.{first_value-rows}
use Rattle.sx_spec_strings.specs.First.{first}
use Rattle.sx_spec.specs.declared.OptionName.{OptionName}
use Rattle.sx_spec.specs.declared.OptionName.TheVariants.{Seeds, Method, LogBucket, SigBits, HandleBits, Signed, Values}
use Rattle.sx_spec.specs.Command.{Text, Setting, Split, option_names, option_word, same_option, setting, positional}
use Rattle.sx_words.specs.Parsers.{option_id}
use Rattle.sx_words.specs.Arguments.{option_with_id, setting_of, split_of, has_value}
use Rattle.sx_words.proofs.Plans.{none_found}
use Rattle.sx_words.proofs.Searches.{word_of, either_way}

-- ---- positional words

-- the word at a place is that of the name there
pub positional_at : (ids : List Text) (rows : List Row) (i : ℕ) (d : Text) → i < length ids → positional (split_of ids rows) i ≡ unwrap_or (first_of (get_or ids i d) rows) []
positional_at ids rows i d lt =
    ap (λ (words : List Text). unwrap_or (first words) []) (drop-map (λ id. unwrap_or (first_of id rows) []) i ids ∙ ap (map (λ id. unwrap_or (first_of id rows) [])) (drop-cons ids i d lt))

-- the same, where the names are read through references
pub word_at : (command : List Text) (ids : List (Bor Text)) (found : Found) (s : Split) (i : ℕ) (d : Bor Text) → map (λ id. id.now) ids ≡ command → split_of command (rows_of found) ≡ s → i < length s.positional
    → unwrap_or (first_value found (get_or ids i d).now) [] ≡ positional s i
word_at command ids found s i d ids_are s_is lt =
    let many : length command ≡ length s.positional = sym (length-map command (λ id. unwrap_or (first_of id (rows_of found)) [])) ∙ ap (λ (t : Split). length t.positional) s_is in
    let same : length ids ≡ length command = sym (length-map ids (λ id. id.now)) ∙ ap (λ (xs : List Text). length xs) ids_are in
    let name : (get_or ids i d).now ≡ get_or command i [] = sym (get_or-map (λ id. id.now) ids i d [] (omega arith)) ∙ ap (λ (xs : List Text). get_or xs i []) ids_are in
    ap (λ (o : Option Text). unwrap_or o []) (ap (first_value found) name ∙ first_value-rows found (get_or command i []))
    ∙ sym (positional_at command (rows_of found) i [] (omega arith)) ∙ ap (λ (t : Split). positional t i) s_is

-- ---- options

dashed : (name : OptionName) → option_word name ≡ 45 ∷ 45 ∷ option_id name
dashed Seeds = refl
dashed Method = refl
dashed LogBucket = refl
dashed SigBits = refl
dashed HandleBits = refl
dashed Signed = refl
dashed Values = refl

-- two options are one if their names are
same_name : (x y : OptionName) → bytes_eq (option_id y) (option_id x) ≡ same_option x y
same_name x y = either_way (option_id y) (option_id x) ∙ sym (ap₂ bytes_eq (dashed x) (dashed y))

some_value : (values : List Text) → nat_lt 0 (length values) ≡ true → slice_get values 0 ≡ Some (unwrap_or (slice_get values 0) [])
some_value [] e = absurd cc
some_value (v ∷ vs) e = refl

other_name : (name : OptionName) (id : Text) → AllByRecursion (λ x. bytes_eq (option_id x) id ≡ false) option_names → bytes_eq (option_id name) id ≡ false
other_name Seeds id all = all.0
other_name Method id all = all.1.0
other_name LogBucket id all = all.1.1.0
other_name SigBits id all = all.1.1.1.0
other_name HandleBits id all = all.1.1.1.1.0
other_name Signed id all = all.1.1.1.1.1.0
other_name Values id all = all.1.1.1.1.1.1.0

-- the row in front, where it is the option's or not, and what the rows behind it say
by_same : (same : Bool) (row : Row) (found : Option Row) (n : OptionName) (setting : Option Setting) → has_value row ≡ true
    → option_and_then (λ (r : Row). slice_get r.values 0) found ≡ option_map (λ (t : Setting). t.value) setting
    → option_and_then (λ (r : Row). slice_get r.values 0) (if same then Some row else found)
    ≡ option_map (λ (t : Setting). t.value) (if same then Some (record { name = n; value = unwrap_or (slice_get row.values 0) [] }) else setting)
by_same true row found n setting valued rest = some_value row.values valued
by_same false row found n setting valued rest = rest

by_option : (name : OptionName) (row : Row) (found : Option Row) (settings : List Setting) → has_value row ≡ true
    → option_and_then (λ (r : Row). slice_get r.values 0) found ≡ option_map (λ (t : Setting). t.value) (find (λ t. same_option name t.name) settings)
    → (o : Option OptionName) → option_with_id row.id ≡ o
    → option_and_then (λ (r : Row). slice_get r.values 0) (if bytes_eq row.id (option_id name) then Some row else found)
    ≡ option_map (λ (t : Setting). t.value)
    (find (λ t. same_option name t.name) (cons_option (option_map (λ n. record { name = n; value = unwrap_or (slice_get row.values 0) [] }) o) settings))
by_option name row found settings valued rest None none =
    let differ = either_way row.id (option_id name) ∙ other_name name row.id (none_found (λ x. bytes_eq (option_id x) row.id) option_names none) in
    ap (λ (b : Bool). option_and_then (λ (r : Row). slice_get r.values 0) (if b then Some row else found)) differ ∙ rest
by_option name row found settings valued rest (Some n) is =
    let same = ap (λ (id : Text). bytes_eq id (option_id name)) (sym (word_of option_id row.id option_names n is)) ∙ same_name name n in
    ap (λ (b : Bool). option_and_then (λ (r : Row). slice_get r.values 0) (if b then Some row else found)) same
    ∙ by_same (same_option name n) row found n (find (λ t. same_option name t.name) settings) valued rest

-- where each row has a value, that of an option is the first of its row
pub setting_is : (ids : List Text) (name : OptionName) (rows : List Row) → list_all has_value rows ≡ true → first_of (option_id name) rows ≡ setting (split_of ids rows) name
setting_is ids name [] valued = refl
setting_is ids name (row ∷ rows) valued =
    let values = and_parts (has_value row) (list_all has_value rows) valued in
    by_option name row (find (λ r. bytes_eq r.id (option_id name)) rows) (filter_map setting_of rows) values.0 (setting_is ids name rows values.1) (option_with_id row.id) refl

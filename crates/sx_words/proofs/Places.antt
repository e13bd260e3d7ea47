-- Which positional words have rows yet.
use Rattle.std.proofs.Common.{◌≡◌, Bool, true, false, ◌||◌, List, [], ◌∷◌, ◌++◌, Option, Some, None, ◌∙◌, refl, sym, ap, append_assoc}
use Rattle.std.specs.Prelude.{find, not, if◌then◌else◌}
use Rattle.std.specs.List.{list_any, AllByRecursion}
use Rattle.std.specs.Option.{option_map_or, option_or}
use Rattle.std.specs.Str.{bytes_eq}
use Rattle.std.proofs.Math.Bool.{or-true}
use Rattle.std.proofs.lemmas.List.{append-nil}
use Rattle.std.proofs.lemmas.List.Folds.{find-append, list_any-append}
use Rattle.std.proofs.lemmas.Slice.Eq.{bytes_eq-Decides}
use Rattle.clap.specs.Words.{Row}
use Rattle.clap.specs.Facts.{explicit_source}
use Rattle.clap.specs.Walk.{has_row}
use Rattle.clap.specs.Takes.{is_given}
use Rattle.sx_spec.specs.declared.OptionName.{OptionName}
use Rattle.sx_spec.specs.declared.OptionName.TheVariants as name
use Rattle.sx_spec.specs.Command.{Text}
use Rattle.sx_words.specs.Parsers.{option_id}
use Rattle.sx_words.specs.Arguments.{option_with_id}
use Rattle.sx_words.proofs.UsedRows.{row}

-- ---- one id

pub same_bytes : (text : Text) → bytes_eq text text ≡ true
same_bytes text = (bytes_eq-Decides text text).1 refl

pub known_option : (option : OptionName) → option_with_id (option_id option) ≡ Some option
known_option name.Seeds = refl
known_option name.Method = refl
known_option name.LogBucket = refl
known_option name.SigBits = refl
known_option name.HandleBits = refl
known_option name.Signed = refl
known_option name.Values = refl

-- the id is that of no option
pub no_option : (id : Text) → option_with_id id ≡ None → (option : OptionName) → bytes_eq (option_id option) id ≡ false
no_option id none option =
    elim (bytes_eq (option_id option) id) as (λ b. bytes_eq (option_id option) id ≡ b → b ≡ false) [
      | true ↦ λ same.
          let known : Some option ≡ None = sym (known_option option) ∙ ap option_with_id ((bytes_eq-Decides (option_id option) id).0 same) ∙ none in
          absurd cc
      | false ↦ λ other. refl
    ] refl

nothing_found : {X : Type 0} (test : X → Bool) (xs : List X) → list_any test xs ≡ false → find test xs ≡ None
nothing_found test [] none = refl
nothing_found {X = X} test (x ∷ xs) none =
    elim (test x) as (λ b. (b || list_any test xs) ≡ false → ◌≡◌ {A = Option X} (if b then Some x else find test xs) None) [
      | true ↦ λ none. absurd cc
      | false ↦ λ none. nothing_found test xs none
    ] none

pub not_given : (id : Text) (rows : List Row) → has_row id rows ≡ false → is_given id rows ≡ false
not_given id rows absent = ap (λ o. option_map_or (λ r. explicit_source r.source) o false) (nothing_found (λ r. bytes_eq r.id id) rows absent)

pub given_still : (id : Text) (rows more : List Row) → is_given id rows ≡ true → is_given id (rows ++ more) ≡ true
given_still id rows more given =
    ap (λ o. option_map_or (λ r. explicit_source r.source) o false) (find-append (λ r. bytes_eq r.id id) rows more)
    ∙ elim (find (λ r. bytes_eq r.id id) rows) as (λ (o : Option Row). option_map_or (λ r. explicit_source r.source) o false ≡ true
    → option_map_or (λ r. explicit_source r.source) (option_or o (find (λ r. bytes_eq r.id id) more)) false ≡ true) [
      | None ↦ λ given. absurd cc
      | Some r ↦ λ given. given
    ] given

-- a row that is new is found
pub row_found : (id value : Text) (rows : List Row) → has_row id rows ≡ false → find (λ r. bytes_eq r.id id) (rows ++ row id value ∷ []) ≡ Some (row id value)
row_found id value rows absent =
    find-append (λ r. bytes_eq r.id id) rows (row id value ∷ [])
    ∙ ap (λ o. option_or o (find (λ r. bytes_eq r.id id) (row id value ∷ []))) (nothing_found (λ r. bytes_eq r.id id) rows absent)
    ∙ ap (λ b. if b then Some (row id value) else None) (same_bytes id)

pub given_now : (id value : Text) (rows : List Row) → has_row id rows ≡ false → is_given id (rows ++ row id value ∷ []) ≡ true
given_now id value rows absent = ap (λ o. option_map_or (λ r. explicit_source r.source) o false) (row_found id value rows absent)

pub absent_still : (id new value : Text) (rows : List Row) → has_row id rows ≡ false → bytes_eq new id ≡ false → has_row id (rows ++ row new value ∷ []) ≡ false
absent_still id new value rows absent other =
    list_any-append (λ r. bytes_eq r.id id) rows (row new value ∷ []) ∙ rw (absent, other) refl

-- ---- all ids

-- the ids whose rows are there, and those that are left
pub record Placed (ids : List Text) (rows : List Row) (left : List Text) : Type 0 where
  pub done : List Text
  pub in_order : ids ≡ done ++ left
  pub given : AllByRecursion (λ id. is_given id rows ≡ true) done
  pub absent : AllByRecursion (λ id. has_row id rows ≡ false) left

-- each id differs from those behind it
abbrev pub Differ : List Text → Type 0
Differ [] = Unit {0}
Differ (id ∷ ids) = AllByRecursion (λ other. bytes_eq id other ≡ false) ids × Differ ids

-- the ids are no options' and differ
pub record ArePlaces (ids : List Text) : Type 0 where
  pub no_options : AllByRecursion (λ id. option_with_id id ≡ None) ids
  pub distinct : Differ ids

all_given : (ids : List Text) (rows more : List Row) → AllByRecursion (λ id. is_given id rows ≡ true) ids → AllByRecursion (λ id. is_given id (rows ++ more) ≡ true) ids
all_given [] rows more given = tt
all_given (id ∷ ids) rows more given = (given_still id rows more given.0, all_given ids rows more given.1)

one_more : (done : List Text) (id : Text) (rows : List Row) → AllByRecursion (λ id. is_given id rows ≡ true) done → is_given id rows ≡ true → AllByRecursion (λ id. is_given id rows ≡ true) (done ++ id ∷ [])
one_more [] id rows given last = (last, tt)
one_more (other ∷ done) id rows given last = (given.0, one_more done id rows given.1 last)

all_absent : (left : List Text) (new value : Text) (rows : List Row) → AllByRecursion (λ id. has_row id rows ≡ false) left → AllByRecursion (λ id. bytes_eq new id ≡ false) left
    → AllByRecursion (λ id. has_row id (rows ++ row new value ∷ []) ≡ false) left
all_absent [] new value rows absent others = tt
all_absent (id ∷ left) new value rows absent others = (absent_still id new value rows absent.0 others.0, all_absent left new value rows absent.1 others.1)

unlike : (left : List Text) (option : OptionName) → AllByRecursion (λ id. option_with_id id ≡ None) left → AllByRecursion (λ id. bytes_eq (option_id option) id ≡ false) left
unlike [] option none = tt
unlike (id ∷ left) option none = (no_option id none.0 option, unlike left option none.1)

-- an option takes no place
pub placed_option : (ids : List Text) (rows : List Row) (left : List Text) (option : OptionName) (value : Text) → ArePlaces left → Placed ids rows left → Placed ids (rows ++ row (option_id option) value ∷ []) left
placed_option ids rows left option value places placed = record {
  done = placed.done;
  in_order = placed.in_order;
  given = all_given placed.done rows (row (option_id option) value ∷ []) placed.given;
  absent = all_absent left (option_id option) value rows placed.absent (unlike left option places.no_options);
}

-- a positional word takes the first place that is left
pub placed_word : (ids : List Text) (rows : List Row) (id : Text) (left : List Text) (value : Text) → ArePlaces (id ∷ left) → Placed ids rows (id ∷ left) → Placed ids (rows ++ row id value ∷ []) left
placed_word ids rows id left value places placed = record {
  done = placed.done ++ id ∷ [];
  in_order = placed.in_order ∙ sym (append_assoc placed.done (id ∷ []) left);
  given = one_more placed.done id (rows ++ row id value ∷ []) (all_given placed.done rows (row id value ∷ []) placed.given) (given_now id value rows placed.absent.0);
  absent = all_absent left id value rows placed.absent.1 places.distinct.0;
}

pub later_places : (id : Text) (left : List Text) → ArePlaces (id ∷ left) → ArePlaces left
later_places id left places = record { no_options = places.no_options.1; distinct = places.distinct.1 }

none_missing : (done : List Text) (rows : List Row) → AllByRecursion (λ id. is_given id rows ≡ true) done → list_any (λ id. not (is_given id rows)) done ≡ false
none_missing [] rows given = refl
none_missing (id ∷ done) rows given = rw (given.0, none_missing done rows given.1) refl

-- no place is left, and no word is missing
pub complete : (ids : List Text) (rows : List Row) → Placed ids rows [] → list_any (λ id. not (is_given id rows)) ids ≡ false
complete ids rows placed = ap (list_any (λ id. not (is_given id rows))) (placed.in_order ∙ append-nil placed.done) ∙ none_missing placed.done rows placed.given

-- a place is left, and its word is missing
pub incomplete : (ids : List Text) (rows : List Row) (id : Text) (left : List Text) → Placed ids rows (id ∷ left) → list_any (λ id. not (is_given id rows)) ids ≡ true
incomplete ids rows id left placed =
    ap (list_any (λ id. not (is_given id rows))) placed.in_order
    ∙ list_any-append (λ id. not (is_given id rows)) placed.done (id ∷ left)
    ∙ ap (λ b. list_any (λ id. not (is_given id rows)) placed.done || (not b || list_any (λ id. not (is_given id rows)) left)) (not_given id rows placed.absent.0)
    ∙ or-true (list_any (λ id. not (is_given id rows)) placed.done)

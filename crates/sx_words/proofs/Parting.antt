-- The positional words and the options of words, taken one word at a time.
use Rattle.std.proofs.Common.{◌≡◌, ℕ, ◌+◌, take, subst, Bool, true, false, ◌&&◌, ◌||◌, List, [], ◌∷◌, length, Option, Some, None, ◌∙◌, refl, sym, ap, arith}
use Rattle.std.specs.Prelude.{not, ◌==◌, nat_lt, if◌then◌else◌, option_and_then}
use Rattle.std.specs.List.{list_any, list_all, position_or_len}
use Rattle.std.specs.Str.{bytes_eq}
use Rattle.std.proofs.Math.Bool.{or-true}
use Rattle.std.proofs.lemmas.Bool.{eqb-true, eq-eqb, lt-ltb, true≢false}
use Rattle.sx_spec.specs.declared.OptionName.{OptionName}
use Rattle.sx_spec.specs.declared.OptionName.TheVariants as name
use Rattle.sx_spec.specs.Command.{Text, Split, option_names, has_dash, has_equals, is_no_value, before_equals, after_equals, with_positional, with_setting, split_words, split_plain, option_word}
use Rattle.sx_words.specs.Arguments.{may_stand}
use Rattle.sx_words.proofs.Forms.{option_by_word, word_of_option, two_more}

-- the option of the last word waits for its value, if there is one
abbrev pub parted : List OptionName → Option OptionName → List Text → Option Split
parted options None [] = Some (record { positional = []; settings = [] })
parted options (Some option) [] = None
parted options (Some option) (word ∷ rest) = with_setting (Some option) word (parted options None rest)
parted options None (word ∷ rest) =
    if has_equals word && has_dash word then with_setting (option_by_word options (before_equals word)) (after_equals word) (parted options None rest)
    else if has_dash word then option_and_then (λ option. parted options (Some option) rest) (option_by_word options word)
    else if is_no_value word then None
    else with_positional word (parted options None rest)

-- ---- the same as two words at a time

last_option : (whole empty dash : Bool) (x y : Option Split) (option : Option OptionName)
    → (if whole then x else if dash then option_and_then (λ o. None) option else if empty || dash then None else y) ≡ (if whole then x else if empty || dash then None else y)
last_option true empty dash x y option = refl
last_option false true true x y None = refl
last_option false true true x y (Some o) = refl
last_option false false true x y None = refl
last_option false false true x y (Some o) = refl
last_option false true false x y option = refl
last_option false false false x y option = refl

next_option : (option : Option OptionName) (word : Text) (rest : Option Split) → option_and_then (λ o. with_setting (Some o) word rest) option ≡ with_setting option word rest
next_option None word rest = refl
next_option (Some o) word rest = refl

pub parted_is : (words : List Text) → parted option_names None words ≡ split_words words
parted_is [] = refl
parted_is (word ∷ []) =
    last_option (has_equals word && has_dash word) (length word == 0) (has_dash word)
    (with_setting (option_by_word option_names (before_equals word)) (after_equals word) (split_words [])) (with_positional word (split_words [])) (option_by_word option_names word)
parted_is (word ∷ next ∷ rest) =
    rw (parted_is (next ∷ rest), parted_is rest, next_option (option_by_word option_names word) next (split_words rest)) refl

no_options : (equals empty dash any : Bool) (word : Text) (rest : List Text)
    → (if equals && dash then None else if dash then None else if empty || dash then None else with_positional word (if any then None else Some (record { positional = rest; settings = [] })))
    ≡ (if (empty || dash) || any then None else Some (record { positional = word ∷ rest; settings = [] }))
no_options true true true any word rest = refl
no_options true false true any word rest = refl
no_options false true true any word rest = refl
no_options false false true any word rest = refl
no_options true true false any word rest = refl
no_options false true false any word rest = refl
no_options true false false true word rest = refl
no_options false false false true word rest = refl
no_options true false false false word rest = refl
no_options false false false false word rest = refl

pub parted_is_plain : (words : List Text) → parted [] None words ≡ split_plain words
parted_is_plain [] = refl
parted_is_plain (word ∷ rest) = rw (parted_is_plain rest) (no_options (has_equals word) (length word == 0) (has_dash word) (list_any is_no_value rest) word rest)

-- ---- words that may not stand

no_such_option : (options : List OptionName) (word : Text) → ((option : OptionName) → bytes_eq (option_word option) word ≡ false) → option_by_word options word ≡ None
no_such_option [] word none = refl
no_such_option (option ∷ options) word none = rw (none option, no_such_option options word none) refl

pub no_value : (option : Option OptionName) (value : Text) (rest : Option Split) → is_no_value value ≡ true → with_setting option value rest ≡ None
no_value None value rest bad = refl
no_value (Some o) value None bad = refl
no_value (Some o) value (Some s) bad = rw bad refl

no_rest : (option : Option OptionName) (value : Text) → with_setting option value None ≡ None
no_rest None value = refl
no_rest (Some o) value = refl

one_dash : (option : OptionName) → bytes_eq (option_word option) (45 ∷ []) ≡ false
one_dash option = rw (word_of_option option) refl

other_way : (x y : ℕ) → (x == y) ≡ false → (y == x) ≡ false
other_way x y other =
    elim (y == x) as (λ b. (y == x) ≡ b → b ≡ false) [
      | true ↦ λ same. sym (eq-eqb x y (sym (eqb-true y x same))) ∙ other
      | false ↦ λ e. refl
    ] refl

short_word : (d : ℕ) (rest : Text) → (d == 45) ≡ false → (option : OptionName) → bytes_eq (option_word option) (45 ∷ d ∷ rest) ≡ false
short_word d rest other option = rw (word_of_option option, other_way d 45 other) refl

two_dashes : (option : OptionName) → bytes_eq (option_word option) (45 ∷ 45 ∷ []) ≡ false
two_dashes name.Seeds = refl
two_dashes name.Method = refl
two_dashes name.LogBucket = refl
two_dashes name.SigBits = refl
two_dashes name.HandleBits = refl
two_dashes name.Signed = refl
two_dashes name.Values = refl

-- the words of a dash and another byte
none_with_equals : (options : List OptionName) (d : ℕ) (rest : Text) → (d == 45) ≡ false → option_by_word options (before_equals (45 ∷ d ∷ rest)) ≡ None
none_with_equals options d rest other =
    elim (d == 61) as (λ b. option_by_word options (take (1 + (if not b then 1 + position_or_len (λ x. x == 61) rest else 0)) (45 ∷ d ∷ rest)) ≡ None) [
      | true ↦ no_such_option options (45 ∷ []) one_dash
      | false ↦
          ap (λ n. option_by_word options (take n (45 ∷ d ∷ rest))) (two_more (position_or_len (λ x. x == 61) rest))
          ∙ no_such_option options (45 ∷ d ∷ take (position_or_len (λ x. x == 61) rest) rest) (short_word d (take (position_or_len (λ x. x == 61) rest) rest) other)
    ]

-- a word with a dash is bad where there is no such option, and no such value
dash_word : (options : List OptionName) (word : Text) (rest : List Text) → has_dash word ≡ true
    → (has_equals word ≡ true → with_setting (option_by_word options (before_equals word)) (after_equals word) (parted options None rest) ≡ None)
    → (has_equals word ≡ false → option_by_word options word ≡ None)
    → parted options None (word ∷ rest) ≡ None
dash_word options word rest dash whole part =
    elim (has_equals word) as (λ b. has_equals word ≡ b
    → (if b && has_dash word then with_setting (option_by_word options (before_equals word)) (after_equals word) (parted options None rest)
    else if has_dash word then option_and_then (λ option. parted options (Some option) rest) (option_by_word options word)
    else if is_no_value word then None
    else with_positional word (parted options None rest)) ≡ None) [
      | true ↦ λ equals. rw (dash, whole equals) refl
      | false ↦ λ none. rw (dash, part none) refl
    ] refl

dashes_unfit : (options : List OptionName) (rest : Text) (words : List Text) → may_stand (45 ∷ 45 ∷ rest) ≡ false → parted options None ((45 ∷ 45 ∷ rest) ∷ words) ≡ None
dashes_unfit options [] words unfit = dash_word options (45 ∷ 45 ∷ []) words refl (λ equals. absurd cc) (λ e. no_such_option options (45 ∷ 45 ∷ []) two_dashes)
dashes_unfit options (c ∷ rest) words unfit =
    let enough : nat_lt 2 (length (45 ∷ 45 ∷ c ∷ rest)) ≡ true = lt-ltb 2 (length (45 ∷ 45 ∷ c ∷ rest)) (omega arith) in
    let both = is_both (has_equals (45 ∷ 45 ∷ c ∷ rest)) (is_no_value (after_equals (45 ∷ 45 ∷ c ∷ rest))) (rw enough at unfit) in
    dash_word options (45 ∷ 45 ∷ c ∷ rest) words refl
    (λ equals. no_value (option_by_word options (before_equals (45 ∷ 45 ∷ c ∷ rest))) (after_equals (45 ∷ 45 ∷ c ∷ rest)) (parted options None words) both.1)
    (λ none. absurd (true≢false (sym both.0 ∙ none)))
  where
    is_both : (a b : Bool) → not (a && b) ≡ false → (a ≡ true) × (b ≡ true)
    is_both true true e = (refl, refl)
    is_both true false e = absurd cc
    is_both false b e = absurd cc

dash_unfit : (options : List OptionName) (rest : Text) (words : List Text) → may_stand (45 ∷ rest) ≡ false → parted options None ((45 ∷ rest) ∷ words) ≡ None
dash_unfit options [] words unfit = dash_word options (45 ∷ []) words refl (λ equals. absurd cc) (λ e. no_such_option options (45 ∷ []) one_dash)
dash_unfit options (c ∷ rest) words unfit =
    elim (c == 45) as (λ b. (c == 45) ≡ b → parted options None ((45 ∷ c ∷ rest) ∷ words) ≡ None) [
      | true ↦ λ dash. subst (λ d. may_stand (45 ∷ d ∷ rest) ≡ false → parted options None ((45 ∷ d ∷ rest) ∷ words) ≡ None) (sym (eqb-true c 45 dash)) (dashes_unfit options rest words) unfit
      | false ↦ λ other.
          dash_word options (45 ∷ c ∷ rest) words refl
          (λ equals. rw (none_with_equals options c rest other) refl)
          (λ none. no_such_option options (45 ∷ c ∷ rest) (short_word c rest other))
    ] refl

word_unfit : (options : List OptionName) (word : Text) (words : List Text) → may_stand word ≡ false → parted options None (word ∷ words) ≡ None
word_unfit options [] words unfit = refl
word_unfit options (c ∷ rest) words unfit =
    elim (c == 45) as (λ b. (c == 45) ≡ b → parted options None ((c ∷ rest) ∷ words) ≡ None) [
      | true ↦ λ dash. subst (λ d. may_stand (d ∷ rest) ≡ false → parted options None ((d ∷ rest) ∷ words) ≡ None) (sym (eqb-true c 45 dash)) (dash_unfit options rest words) unfit
      | false ↦ λ other. absurd (plain_stands c rest other unfit)
    ] refl
  where
    plain_stands : (c : ℕ) (rest : Text) → (c == 45) ≡ false → may_stand (c ∷ rest) ≡ false → ⊥
    plain_stands c rest other unfit =
        let some : nat_lt 0 (length (c ∷ rest)) ≡ true = lt-ltb 0 (length (c ∷ rest)) (omega arith) in
        true≢false (sym some ∙ (rw other at unfit))

unfit_is_no_value : (word : Text) → may_stand word ≡ false → is_no_value word ≡ true
unfit_is_no_value [] unfit = refl
unfit_is_no_value (c ∷ rest) unfit =
    elim (c == 45) as (λ b. (c == 45) ≡ b → is_no_value (c ∷ rest) ≡ true) [
      | true ↦ λ dash. rw dash (or-true (length (c ∷ rest) == 0))
      | false ↦ λ other.
          let some : nat_lt 0 (length (c ∷ rest)) ≡ true = lt-ltb 0 (length (c ∷ rest)) (omega arith) in
          let bad : nat_lt 0 (length (c ∷ rest)) ≡ false = rw other at unfit in
          absurd (true≢false (sym some ∙ bad))
    ] refl

nothing_behind : (whole empty dash : Bool) (word value : Text) (p o : Option OptionName) (rest : Option Split) (next : OptionName → Option Split) → rest ≡ None → ((option : OptionName) → next option ≡ None)
    → (if whole then with_setting p value rest else if dash then option_and_then next o else if empty || dash then None else with_positional word rest) ≡ None
nothing_behind true empty dash word value p o rest next none nothing = rw none (no_rest p value)
nothing_behind false empty true word value p None rest next none nothing = refl
nothing_behind false empty true word value p (Some option) rest next none nothing = nothing option
nothing_behind false true false word value p o rest next none nothing = refl
nothing_behind false false false word value p o rest next none nothing = rw none refl

-- a word that may not stand makes the words bad
pub one_unfit : (options : List OptionName) (waiting : Option OptionName) (words : List Text) → list_all may_stand words ≡ false → parted options waiting words ≡ None
one_unfit options waiting [] unfit = absurd cc
one_unfit options (Some option) (word ∷ rest) unfit =
    elim (may_stand word) as (λ b. may_stand word ≡ b → (b && list_all may_stand rest) ≡ false → with_setting (Some option) word (parted options None rest) ≡ None) [
      | true ↦ λ fit later. rw (one_unfit options None rest later) refl
      | false ↦ λ here e. no_value (Some option) word (parted options None rest) (unfit_is_no_value word here)
    ] refl unfit
one_unfit options None (word ∷ rest) unfit =
    elim (may_stand word) as (λ b. may_stand word ≡ b → (b && list_all may_stand rest) ≡ false → parted options None (word ∷ rest) ≡ None) [
      | true ↦ λ fit later.
          nothing_behind (has_equals word && has_dash word) (length word == 0) (has_dash word) word (after_equals word) (option_by_word options (before_equals word)) (option_by_word options word)
          (parted options None rest) (λ option. parted options (Some option) rest) (one_unfit options None rest later) (λ option. one_unfit options (Some option) rest later)
      | false ↦ λ here e. word_unfit options word rest here
    ] refl unfit

-- The two forms of words that may stand behind a command, and what a parser sees in each.
use Rattle.std.proofs.Common.{◌≡◌, ℕ, suc, ◌+◌, take, drop, arith, true, false, List, [], ◌∷◌, Option, None, refl, sym, ap, subst}
use Rattle.std.specs.Prelude.{find, ◌==◌}
use Rattle.std.specs.List.{before_first, after_first, position_or_len}
use Rattle.std.specs.Str.{bytes_eq}
use Rattle.std.proofs.lemmas.Bool.{eqb-true}
use Rattle.clap.specs.Lexer.{long_of, short_of}
use Rattle.sx_spec.specs.Command.{Text, before_equals, after_equals, option_word}
use Rattle.sx_spec.specs.declared.OptionName.{OptionName}
use Rattle.sx_spec.specs.declared.OptionName.TheVariants as name
use Rattle.sx_words.specs.Arguments.{may_stand}
use Rattle.sx_words.specs.Parsers.{option_id}
use Rattle.sx_words.proofs.Shapes.{option_of}

module _ (P : Text → Type 0)
    (plain : (c : ℕ) (rest : Text) → (c == 45) ≡ false → P (c ∷ rest))
    (long : (c : ℕ) (rest : Text) → P (45 ∷ 45 ∷ c ∷ rest)) where
  behind_dashes : (rest : Text) → may_stand (45 ∷ 45 ∷ rest) ≡ true → P (45 ∷ 45 ∷ rest)
  behind_dashes [] fit = absurd cc
  behind_dashes (c ∷ rest) fit = long c rest

  behind_dash : (rest : Text) → may_stand (45 ∷ rest) ≡ true → P (45 ∷ rest)
  behind_dash [] fit = absurd cc
  behind_dash (c ∷ rest) fit =
      elim (c == 45) as (λ b. (c == 45) ≡ b → P (45 ∷ c ∷ rest)) [
        | true ↦ λ dash. subst (λ d. may_stand (45 ∷ d ∷ rest) ≡ true → P (45 ∷ d ∷ rest)) (sym (eqb-true c 45 dash)) (behind_dashes rest) fit
        | false ↦ λ other. let bad : false ≡ true = rw other at fit in absurd cc
      ] refl

  -- what holds of both forms holds of a word that may stand
  pub by_form : (word : Text) → may_stand word ≡ true → P word
  by_form [] fit = absurd cc
  by_form (c ∷ rest) fit =
      elim (c == 45) as (λ b. (c == 45) ≡ b → P (c ∷ rest)) [
        | true ↦ λ dash. subst (λ d. may_stand (d ∷ rest) ≡ true → P (d ∷ rest)) (sym (eqb-true c 45 dash)) (behind_dash rest) fit
        | false ↦ λ other. plain c rest other
      ] refl

-- ---- what a parser sees

-- a word that begins with no dash
pub plain_is_no_long : (c : ℕ) (rest : Text) → (c == 45) ≡ false → long_of (c ∷ rest) ≡ None
plain_is_no_long c rest other = rw other refl

pub plain_is_no_short : (c : ℕ) (rest : Text) → (c == 45) ≡ false → short_of (c ∷ rest) ≡ None
plain_is_no_short c rest other = rw other refl

pub plain_is_no_end : (c : ℕ) (rest : Text) → (c == 45) ≡ false → bytes_eq (c ∷ rest) (45 ∷ 45 ∷ []) ≡ false
plain_is_no_end c rest other = rw other refl

pub two_more : (n : ℕ) → 1 + (1 + n) ≡ suc (suc n)
two_more n = omega arith

three_more : (n : ℕ) → (1 + (1 + n)) + 1 ≡ suc (suc (n + 1))
three_more n = omega arith

-- a word of an option
pub before_behind : (rest : Text) → before_equals (45 ∷ 45 ∷ rest) ≡ 45 ∷ 45 ∷ before_first (λ b. b == 61) rest
before_behind rest = ap (λ n. take n (45 ∷ 45 ∷ rest)) (two_more (position_or_len (λ b. b == 61) rest))

pub after_behind : (rest : Text) → after_equals (45 ∷ 45 ∷ rest) ≡ after_first (λ b. b == 61) rest
after_behind rest = ap (λ n. drop n (45 ∷ 45 ∷ rest)) (three_more (position_or_len (λ b. b == 61) rest))

-- ---- the options of words

pub word_of_option : (option : OptionName) → option_word option ≡ 45 ∷ 45 ∷ option_id option
word_of_option name.Seeds = refl
word_of_option name.Method = refl
word_of_option name.LogBucket = refl
word_of_option name.SigBits = refl
word_of_option name.HandleBits = refl
word_of_option name.Signed = refl
word_of_option name.Values = refl

-- the option of this word
abbrev pub option_by_word : List OptionName → Text → Option OptionName
option_by_word options word = find (λ option. bytes_eq (option_word option) word) options

pub option_behind : (options : List OptionName) (id : Text) → option_by_word options (45 ∷ 45 ∷ id) ≡ option_of options id
option_behind [] id = refl
option_behind (option ∷ options) id = rw (word_of_option option, option_behind options id) refl

-- What the parser's answer says of the words of a command, each of which may stand.
use Rattle.std.proofs.Common.{◌≡◌, true, List, [], Some, None, ◌∙◌, sym, ap, inl, inr}
use Rattle.std.specs.List.{list_all}
use Rattle.std.proofs.lemmas.Bool.{and_parts}
use Rattle.clap.specs.Words.{built, App, Row, HasKind, Kinds, fault_of, is_simple, is_simple_and_free, kind_of, matches_of}
use Rattle.clap.specs.Faults.{is_free_app}
use Rattle.clap.specs.declared.error.Error.{Error}
use Rattle.clap.specs.declared.error.kind.ErrorKind.TheVariants.{OutOfMemory}
use Rattle.sx_spec.specs.Command.{Text}
use Rattle.sx_words.specs.declared.names.Command.{Command}
use Rattle.sx_words.specs.Parsers.{parser_of, positional_ids}
use Rattle.sx_words.specs.Arguments.{may_stand, split_for, split_of, has_value}
use Rattle.sx_words.proofs.Parsing.{simple, parsed, valued, refused}

module _ (command : Command) (app : App) (words : List Text) (app_is : app ≡ parser_of command) (fit : list_all may_stand words ≡ true) where
  -- its faults are known
  pub is_known : is_simple_and_free app ≡ true
  is_known = ap is_simple_and_free app_is ∙ simple command

  -- and its rows
  pub is_plain : is_simple app ≡ true
  is_plain = (and_parts (is_simple app) (is_free_app (built app)) is_known).0

  faults : fault_of app words ≡ fault_of (parser_of command) words
  faults = ap (λ (a : App). fault_of a words) app_is

  module _ (rows : List Row) (none : fault_of app words ≡ []) (rows_are : rows ≡ matches_of app words) where
    same_rows : rows ≡ matches_of (parser_of command) words
    same_rows = rows_are ∙ ap (λ (a : App). matches_of a words) app_is

    -- each row has a value
    pub have_values : list_all has_value rows ≡ true
    have_values = ap (list_all has_value) same_rows ∙ valued command words fit (sym faults ∙ none)

    -- the rows are the words
    pub rows_read : Some (split_of (positional_ids command) rows) ≡ split_for command words
    rows_read = ap (λ (r : List Row). Some (split_of (positional_ids command) r)) same_rows ∙ parsed command words fit (sym faults ∙ none)

  not_none : (kinds : Kinds) (e : Error) → (kind_of e ≡ OutOfMemory → ⊥) → HasKind kinds e → kinds ≡ [] → ⊥
  not_none kinds e room (inl full) none = room full
  not_none kinds e room (inr among) none = rw none at among

  -- an error that is no want of memory is of bad words
  pub bad_words : (e : Error) → (kind_of e ≡ OutOfMemory → ⊥) → HasKind (fault_of app words) e → None ≡ split_for command words
  bad_words e room has = sym (refused command words fit (λ none. not_none (fault_of app words) e room has (faults ∙ none)))

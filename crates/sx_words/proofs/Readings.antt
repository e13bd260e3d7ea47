-- The words of a command line, as they are read: the word of a command, and those behind it.
use Rattle.std.proofs.Common.{◌≡◌, List, [], ◌∷◌, length, get_or, drop, Option, Some, ◌∙◌, refl, sym, ap}
use Rattle.std.specs.Prelude.{find}
use Rattle.std.specs.Str.{bytes_eq}
use Rattle.sx_spec.specs.Command.{Text, Split, command, for_split, split_words, split_plain}
use Rattle.sx_words.specs.declared.names.Command.{Command}
use Rattle.sx_words.specs.declared.names.Command.TheVariants.{Build, Query, Open, Dump, Trial}
use Rattle.sx_words.specs.Arguments.{split_for}
use Rattle.sx_words.specs.Commands.{command_word, commands}
use Rattle.sx_words.specs.Parsers.{positional_ids}
use Rattle.sx_words.specs.Rules.{task_with}
use Rattle.sx_words.proofs.Formed.{formed_words}
use Rattle.sx_words.proofs.Searches.{word_of}

-- a command has so many positional words
pub formed_for : (name : Command) (words : List Text) (s : Split) → split_for name words ≡ Some s → length s.positional ≡ length (positional_ids name)
formed_for Build words s e = formed_words 2 (split_words words) s e
formed_for Query words s e = formed_words 1 (split_plain words) s e
formed_for Open words s e = formed_words 1 (split_plain words) s e
formed_for Dump words s e = formed_words 1 (split_plain words) s e
formed_for Trial words s e = formed_words 2 (split_plain words) s e

-- what the words behind a command's word are to do
command_is : (name : Command) (words : List Text) → command (command_word name ∷ words) ≡ for_split (split_for name words) (task_with name)
command_is Build words = refl
command_is Query words = refl
command_is Open words = refl
command_is Dump words = refl
command_is Trial words = refl

first_word : (words : List Text) (word : Text) → (length words ≡ 0 → ⊥) → word ≡ get_or words 0 [] → words ≡ word ∷ drop 1 words
first_word [] word some is = absurd (some refl)
first_word (w ∷ words) word some is = ap (λ (v : Text). v ∷ words) (sym is)

-- what the words are to do, by those behind the command's
pub read_as : (words : List Text) (word : Text) (name : Command) (o : Option Split) → (length words ≡ 0 → ⊥) → word ≡ get_or words 0 [] → Some name ≡ find (λ name. bytes_eq (command_word name) word) commands
    → o ≡ split_for name (drop 1 words) → for_split o (task_with name) ≡ command words
read_as words word name o some is found split_is =
    ap (λ (p : Option Split). for_split p (task_with name)) split_is ∙ sym (command_is name (drop 1 words))
    ∙ ap (λ (v : Text). command (v ∷ drop 1 words)) (word_of command_word word commands name (sym found)) ∙ ap command (sym (first_word words word some is))

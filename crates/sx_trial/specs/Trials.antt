-- What a trial comes to, and what is asked in it.
use Rattle.std.specs.Prelude.{◌≡◌, ℕ, List, map, filter_map}
use Rattle.std.specs.List.{range_with_len}
use Rattle.sx_spec_kinds.specs.declared.Kind.{Kind}
use Rattle.sx_spec.specs.Built.{IsBuilt}
use Rattle.sx_spec.specs.Command.{Text, default_plan, default_seeds}
use Rattle.sx_spec.specs.Layout.{Dump, Passes, layout}
use Rattle.sx_spec.specs.Outcomes.{trial_line}
use Rattle.sx_spec.specs.Reply.{AnswersMembers, reply}
use Rattle.sx_spec.specs.StaticFunction.{IsFirstWorkingSeed}
use Rattle.sx_spec.specs.Trial.{eight_digits, trial_keys}
use Rattle.sx_spec.specs.Values.{plain_values}
use Rattle.sx_trial.specs.Seeds.{parts_for, AllFail}
use Rattle.sx_trial.specs.declared.trial.Trial.{Trial}
use Rattle.sx_trial.specs.declared.trial.Trial.TheVariants.{Line, Failed}

-- the line is that on a dump of the made keys by the first default seed that works
pub record IsLine (kind : Kind) (n : ℕ) (line : List ℕ) : Type 0 where
  pub seed : ℕ
  pub dump : Dump
  pub first_seed : IsFirstWorkingSeed (default_plan kind).method 64 (default_plan kind).sig_bits (parts_for (default_plan kind) (trial_keys n) (plain_values n)) default_seeds seed
  pub built : IsBuilt 64 (default_plan kind) (trial_keys n) (parts_for (default_plan kind) (trial_keys n) (plain_values n)) seed dump
  pub passes : Passes dump
  pub line_is : line ≡ trial_line kind n dump

-- a trial of so many keys: its line, or a failure of each default seed
abbrev pub IsTrial : Kind → ℕ → Trial → Type 0
IsTrial kind n (Line line) = IsLine kind n line.items
IsTrial kind n (Failed message) = AllFail (default_plan kind) default_seeds (trial_keys n) (plain_values n) message.items

-- the words are those of this dump of the made keys, which passes every check and answers each of them with its number
pub record IsMade (kind : Kind) (n : ℕ) (words : List ℕ) (d : Dump) : Type 0 where
  pub plan : d.header.plan ≡ default_plan kind
  pub passes : Passes d
  pub members : AnswersMembers d (trial_keys n) (plain_values n)
  pub words_are : words ≡ layout d

-- so many lines of eight digits, from a number on
abbrev pub lines_from : ℕ → ℕ → List Text
lines_from first count = map eight_digits (range_with_len first count)

-- the replies to them that are numbers
abbrev pub replies_from : Dump → ℕ → ℕ → List ℕ
replies_from d first count = filter_map (reply d) (lines_from first count)

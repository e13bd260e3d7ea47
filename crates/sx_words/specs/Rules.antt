-- The rules of usage and the tasks of the commands, piece by piece.
use Rattle.std.specs.Prelude.{Bool, ◌&&◌, not, [], Option, unwrap_or}
use Rattle.sx_spec_kinds.specs.declared.Kind.{Kind}
use Rattle.sx_spec.specs.declared.OptionName.{OptionName}
use Rattle.sx_spec.specs.Command.{Text, Task, Split, build, query, open_dump, show_dump, for_kind, unless, options_rule, build_task, trial_task, is_given, is_value, setting, goes_with, positional, number_within}
use Rattle.sx_words.specs.declared.names.Command.{Command}
use Rattle.sx_words.specs.declared.names.Command.TheVariants.{Build, Query, Open, Dump, Trial}

-- whether the option is given with what is no value of it
abbrev pub has_bad_value : Split → OptionName → Bool
has_bad_value s name = is_given s name && not (is_value name (unwrap_or (setting s name) []))

-- whether the option is given and doesn't go with the kind
abbrev pub is_unfit : Split → Kind → OptionName → Bool
is_unfit s kind name = is_given s name && not (goes_with name kind)

-- what `build` of a kind with these words is to do
abbrev pub kind_task : Split → Kind → Task
kind_task s kind = unless (options_rule s kind) (build (build_task s kind))

-- what `build` with these words is to do
abbrev pub build_words : Split → Task
build_words s = for_kind (positional s 0) (kind_task s)

-- what `trial` with these words is to do
abbrev pub trial_words : Split → Task
trial_words s = for_kind (positional s 0) (λ kind. trial_task kind (number_within 0 1000000 (positional s 1)))

-- what a command with these words is to do
abbrev pub task_with : Command → Split → Task
task_with Build s = build_words s
task_with Query s = query (positional s 0)
task_with Open s = open_dump (positional s 0)
task_with Dump s = show_dump (positional s 0)
task_with Trial s = trial_words s

-- What the words after a command are, and what is read of them from the rows of a parser.
use Rattle.std.specs.Prelude.{Bool, ◌&&◌, not, ◌==◌, nat_lt, List, [], map, length, Option, Some, option_map, unwrap_or, filter_map, find, slice_get, slice_index, if◌then◌else◌}
use Rattle.std.specs.Str.{bytes_eq}
use Rattle.clap.specs.Words.{Row, first_of}
use Rattle.sx_spec.specs.declared.OptionName.{OptionName}
use Rattle.sx_spec.specs.Command.{Text, Setting, Split, option_names, has_dash, has_equals, after_equals, is_no_value, split_words, split_plain, well_formed}
use Rattle.sx_words.specs.declared.names.Command.{Command}
use Rattle.sx_words.specs.declared.names.Command.TheVariants.{Build, Query, Open, Dump, Trial}
use Rattle.sx_words.specs.Parsers.{option_id}

-- whether a word may stand behind a command: it isn't empty, and if it begins with `-`, it is `--name`, or `--name=value` with a value
abbrev pub may_stand : Text → Bool
may_stand word =
    if has_dash word then slice_index word 1 == 45 && nat_lt 2 (length word) && not (has_equals word && is_no_value (after_equals word))
    else nat_lt 0 (length word)

-- the words of a command, if they are well formed
abbrev pub split_for : Command → List Text → Option Split
split_for Build words = well_formed 2 (split_words words)
split_for Query words = well_formed 1 (split_plain words)
split_for Open words = well_formed 1 (split_plain words)
split_for Dump words = well_formed 1 (split_plain words)
split_for Trial words = well_formed 2 (split_plain words)

-- ---- the rows of a parser

-- the option of this name
abbrev pub option_with_id : Text → Option OptionName
option_with_id id = find (λ name. bytes_eq (option_id name) id) option_names

-- the option of a row with its value, if it is the row of one
abbrev pub setting_of : Row → Option Setting
setting_of row = option_map (λ name. record { name = name; value = unwrap_or (slice_get row.values 0) [] }) (option_with_id row.id)

-- the positional words of these names, and the options
abbrev pub split_of : List Text → List Row → Split
split_of ids rows = record { positional = map (λ id. unwrap_or (first_of id rows) []) ids; settings = filter_map setting_of rows }

-- whether the row has a value
abbrev pub has_value : Row → Bool
has_value row = nat_lt 0 (length row.values)

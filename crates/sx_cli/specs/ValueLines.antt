-- What reading a values file comes to.
use Rattle.std.specs.Prelude.{◌≡◌, ⊤, ℕ, ◌<◌, ◌≤◌, Bool, true, false, Result, Err, List, [], ◌∷◌, ◌++◌, length, filter_map, Option, Some, None, IfSome, IsSomeAnd}
use Rattle.std.specs.List.{enumerate_from}
use Rattle.sx_spec.specs.Causes.{Rose}
use Rattle.sx_spec.specs.Command.{Text}
use Rattle.sx_spec.specs.Outcomes.{first_values_fault}
use Rattle.sx_spec.specs.Values.{fewer_than_keys, values_on, value_fault, values_faults, numeral_value, plain_values}
use Rattle.sx_spec.specs.World.{Files}
use Rattle.sx_spec_strings.specs.First.{first}
use Rattle.sx_spec_strings.specs.Lines.{lines}
use Rattle.sx_edge.specs.Reading.{Reading}
use Rattle.sx_cli.specs.Progress.{Progress}
use Rattle.sx_text.specs.Reasons.{values_fault_of}
use Rattle.sx_cli.specs.declared.values.ValuesStop.{ValuesStop}
use Rattle.sx_cli.specs.declared.values.ValuesStop.TheVariants.{Refused, Failed, Memory}
use Rattle.sx_cli.specs.Lines.{longest_line}

-- whether no values were read since the shelf has failed
abbrev pub values_failed : {T : Type 0} → Result T ValuesStop → Bool
values_failed (Err Failed) = true
values_failed _ = false

-- the rest of the file has a value for each of so many keys, and these are the values
pub record ReadsValues (keys : ℕ) (rest : Option (List ℕ)) (values : List ℕ) : Type 0 where
  pub as_many : length values ≡ keys
  pub told : IfSome rest (λ bytes. (values_faults keys (lines bytes) ≡ []) × (values ≡ values_on (lines bytes)))

-- why the lines of a file give no values
abbrev pub StopsLines : ℕ → Option (List ℕ) → ℕ → ℕ → ValuesStop → Type 0
StopsLines keys rest before after (Refused fault) = IfSome rest (λ bytes. first (values_faults keys (lines bytes)) ≡ Some (values_fault_of fault))
StopsLines keys rest before after Failed = Rose before after
StopsLines keys rest before after Memory = ⊤

-- the file of the name has a value for each of so many keys, and these are the values
pub record GivesFile (keys : ℕ) (name : Text) (files : Option Files) (values : List ℕ) : Type 0 where
  pub as_many : length values ≡ keys
  pub told : IfSome files (λ fs. (first_values_fault keys (fs name) ≡ None) × IsSomeAnd (fs name) (λ bytes. values ≡ values_on (lines bytes)))

-- why the file of the name gives no values
abbrev pub StopsFile : ℕ → Text → Option Files → ℕ → ℕ → ValuesStop → Type 0
StopsFile keys name files before after (Refused fault) = IfSome files (λ fs. first_values_fault keys (fs name) ≡ Some (values_fault_of fault))
StopsFile keys name files before after Failed = Rose before after
StopsFile keys name files before after Memory = ⊤

-- the values of so many keys: those of the named file, or the keys' numbers
abbrev pub Given : Option Text → ℕ → Option Files → List ℕ → Type 0
Given None keys files values = values ≡ plain_values keys
Given (Some name) keys files values = GivesFile keys name files values

-- why there are none
abbrev pub StopsGiving : Option Text → ℕ → Option Files → ℕ → ℕ → ValuesStop → Type 0
StopsGiving None keys files before after stop = stop ≡ Memory
StopsGiving (Some name) keys files before after stop = StopsFile keys name files before after stop

-- why a line of this number gives no value
abbrev pub StopsValue : ℕ → ℕ → Text → ValuesStop → Type 0
StopsValue keys line text (Refused fault) = value_fault keys (line, text) ≡ Some (values_fault_of fault)
StopsValue keys line text Failed = ⊥
StopsValue keys line text Memory = ⊤

-- the value on a line of this number was put behind the others
pub record PutsValue (keys line : ℕ) (text : Text) (old new : List ℕ) : Type 0 where
  pub fine : value_fault keys (line, text) ≡ None
  pub within : line ≤ keys
  pub put : new ≡ old ++ numeral_value text ∷ []

-- there are only so many values
abbrev pub IsTooFew : ℕ → ℕ → ValuesStop → Type 0
IsTooFew keys count (Refused fault) = (count < keys) × (values_fault_of fault ≡ fewer_than_keys count)
IsTooFew keys count Failed = ⊥
IsTooFew keys count Memory = ⊥

-- so many lines of a file were read, each with a value
pub record ReadingValues (keys : ℕ) (first now : Option (List ℕ)) (reader : Reading) (values : List ℕ) : Type 0 where
  pub lines_read : List Text
  pub progress : Progress first now reader.held reader.ended lines_read
  pub number : reader.number ≡ length lines_read
  pub max : reader.max ≡ longest_line
  pub fault : reader.fault ≡ None
  pub within : length lines_read ≤ keys
  pub fine : filter_map (value_fault keys) (enumerate_from 1 lines_read) ≡ []
  pub values_are : values ≡ values_on lines_read

-- Why a line of the key file or a values file is refused, and what is told of it.
use Rattle.std.specs.Prelude.{ℕ, codes, decimal, [], ◌∷◌}
use Rattle.std.specs.List.{concat}
use Rattle.sx_spec.specs.Command.{Text}
use Rattle.sx_spec.specs.Keys.{Reason, too_long, zero_byte, doubled, unordered, too_many_keys, too_many_bytes, KeyFault as SpecFault}
use Rattle.sx_spec.specs.Values.{ValuesFault as SpecValuesFault, no_such_file, not_a_number, more_than_keys, fewer_than_keys}
use Rattle.sx_text.specs.declared.messages.KeyReason.{KeyReason}
use Rattle.sx_text.specs.declared.messages.KeyReason.TheVariants.{TooLong, ZeroByte, Doubled, Unordered, TooManyKeys, TooManyBytes}
use Rattle.sx_text.specs.declared.messages.ValuesFault.{ValuesFault}
use Rattle.sx_text.specs.declared.messages.ValuesFault.TheVariants.{NoSuchFile, NotANumber, MoreThanKeys, FewerThanKeys}

-- the reason of the definitions
abbrev pub reason_of : KeyReason → Reason
reason_of TooLong = too_long
reason_of ZeroByte = zero_byte
reason_of Doubled = doubled
reason_of Unordered = unordered
reason_of TooManyKeys = too_many_keys
reason_of TooManyBytes = too_many_bytes

-- the fault of a line
abbrev pub fault_of : ℕ → KeyReason → SpecFault
fault_of line reason = record { line = line; reason = reason_of reason }

-- what is told of it behind the line's number
abbrev pub told_of : KeyReason → Text
told_of TooLong = codes ": longer than 8191 bytes"
told_of ZeroByte = codes ": holds a zero byte"
told_of Doubled = codes ": equal to the line before"
told_of Unordered = codes ": below the line before"
told_of TooManyKeys = codes ": more than 4194304 keys"
told_of TooManyBytes = codes ": more than 268435456 bytes of keys"

-- the fault of a values file
abbrev pub values_fault_of : ValuesFault → SpecValuesFault
values_fault_of NoSuchFile = no_such_file
values_fault_of (NotANumber line) = not_a_number line
values_fault_of (MoreThanKeys line) = more_than_keys line
values_fault_of (FewerThanKeys values) = fewer_than_keys values

-- what is told of so many values for so many keys
abbrev pub counts_text : ℕ → ℕ → Text
counts_text values keys = concat (codes "values: " ∷ decimal values ∷ codes " values for " ∷ decimal keys ∷ codes " keys" ∷ (10 ∷ []) ∷ [])

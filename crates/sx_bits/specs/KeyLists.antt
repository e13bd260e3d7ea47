-- Lists of keys within limits.
use Rattle.std.specs.Prelude.{ℕ, ◌≤◌, Bool, false, List, Option, Some, None}
use Rattle.std.specs.declared.cmp.Ordering.{Ordering}
use Rattle.sx_spec.specs.declared.Limits.{Limits}
use Rattle.sx_spec.specs.Keys.{Reason, zero_byte, doubled, unordered, too_many_keys, too_many_bytes, standard_limits, AreKeys}
use Rattle.sx_spec.specs.Laws.{AreBytes}
use Rattle.sx_bits.specs.declared.fault.KeyFault.{KeyFault}
use Rattle.sx_bits.specs.declared.fault.KeyFault.TheVariants.{ZeroByte, Doubled, Unordered, TooManyKeys, TooManyBytes, Memory}

-- what a key list holds
pub record Keys : Type 0 where
  pub limits : Limits
  pub lines : List (List ℕ)

-- the reason that a fault tells; want of memory tells none
abbrev pub reason_of : KeyFault → Option Reason
reason_of ZeroByte = Some zero_byte
reason_of Doubled = Some doubled
reason_of Unordered = Some unordered
reason_of TooManyKeys = Some too_many_keys
reason_of TooManyBytes = Some too_many_bytes
reason_of Memory = None

-- no limit passes the standard one
pub record IsWithinStandard (limits : Limits) : Type 0 where
  pub line : limits.max_line ≤ standard_limits.max_line
  pub keys : limits.max_keys ≤ standard_limits.max_keys
  pub bytes : limits.max_bytes ≤ standard_limits.max_bytes

-- the lines of a key list break no rule, under limits that pass none of the standard ones
pub record IsKeyList (keys : Keys) : Type 0 where
  pub limits : IsWithinStandard keys.limits
  pub faultless : AreKeys keys.limits keys.lines
  pub bytes : AreBytes keys.lines

-- the test of an order, where there is one
abbrev pub passes : (Ordering → Bool) → Option Ordering → Bool
passes test None = false
passes test (Some order) = test order

-- What a build tells, by its numbers.
use Rattle.std.specs.Prelude.{ℕ, List, take}
use Rattle.sx_spec.specs.StaticFunction.{Cause, twins, stuck, SeedFailure}
use Rattle.sux_c.specs.declared.told.SuxFailure.{SuxFailure}
use Rattle.sux_c.specs.declared.told.SuxFailures.{SuxFailures}

-- the numbers of what keeps a part from being built
abbrev pub cause_told : ℕ → Cause → SuxFailure
cause_told part (twins first second) = record { part = part; cause = 1; first = first; second = second }
cause_told part (stuck chunk witnesses) = record { part = part; cause = 2; first = chunk; second = 0 }

-- the numbers of a failure
abbrev pub failure_told : SeedFailure → SuxFailure
failure_told f = cause_told f.part f.cause

-- the failures, in order
abbrev pub failures_in : SuxFailures → List SuxFailure
failures_in f = take f.count f.list

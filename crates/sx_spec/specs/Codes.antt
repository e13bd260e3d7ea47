-- The numbers that statuses are to the system.
use Rattle.std.specs.Prelude.{ℕ}
use Rattle.sx_spec.specs.declared.Status.{Status}
use Rattle.sx_spec.specs.declared.Status.TheVariants.{Done, BadInput, Usage, SeedsFailed, BadDump, Fault, Memory}

-- the number of a status
abbrev pub status_code : Status → ℕ
status_code Done = 0
status_code BadInput = 1
status_code Usage = 2
status_code SeedsFailed = 3
status_code BadDump = 4
status_code Fault = 5
status_code Memory = 6
